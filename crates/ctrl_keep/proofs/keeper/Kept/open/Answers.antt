use Rattle.std.proofs.Common.{◌≡◌, inl}
use Rattle.std.proofs.lemmas.Result.{IfErr-weaker}
use Rattle.ziti_outside.specs.declared.desk.Part.TheVariants.{One}
use Rattle.ziti_outside.proofs.MomentLaws.{Leaves-then, Leaves-weaker, OnlyDisk-then, Remembers-then}
use Rattle.journal_core.specs.Room.{empty_size, HoldsRoom}
use Rattle.ctrl_keep.proofs.OpenedFolders.{opened_as, load_fails, load_opens, load_holds, load_bounds, load_created, or_migrates, kept_or, stops_or, room_opened, room_loaded}
use Rattle.ctrl_keep.proofs.keeper.Kept.open.Goals as goal

pub returns-in-Ok-clause-fault : goal.returns-in-Ok-clause-fault
returns-in-Ok-clause-fault g c =
    let opened = opened_as g.D.Desk.tells c.args.bounds (g.D.Desk.seen c.args.desk.now).reads (g.D.Desk.seen c.open.new.desk).reads c.in-Ok.store c.in-Ok.ensures.opened.0
    c.in-Ok.ensures.created c.in-Ok.ensures.opens c.in-Ok.ensures.format (λ told. (c.in-Ok.ensures.stands told).kept) in
    IfErr-weaker c.load.result _ _
    (λ fault f. load_fails g.D.Desk.tells c.args.bounds (g.D.Desk.seen c.args.desk.now).reads (g.D.Desk.seen c.open.new.desk).reads c.in-Ok.store fault opened f)
    c.load.ensures.fault

pub returns-in-Ok-clause-opens : goal.returns-in-Ok-clause-opens
returns-in-Ok-clause-opens g c = load_opens g.D.Desk.tells (g.D.Desk.seen c.args.desk.now).reads c.in-Ok.store c.load.result c.in-Ok.ensures.opens c.load.ensures.state

pub returns-in-Ok-clause-holds : goal.returns-in-Ok-clause-holds
returns-in-Ok-clause-holds g c = load_holds g.D.Desk.tells g.D.Desk.seen c.in-Ok.store c.open.new.desk c.load.new.desk c.load.result c.load.ensures.state c.load.ensures.turned

pub returns-in-Ok-clause-opened : goal.returns-in-Ok-clause-opened
returns-in-Ok-clause-opened g c =
    load_bounds g.D.Desk.tells g.D.Desk.seen c.args.bounds c.in-Ok.store c.open.new.desk c.load.new.desk c.load.result c.in-Ok.ensures.opened.0 c.load.ensures.state c.load.ensures.turned c.load.ensures.unspent

pub returns-in-Ok-clause-created : goal.returns-in-Ok-clause-created
returns-in-Ok-clause-created g c =
    let opened = opened_as g.D.Desk.tells c.args.bounds (g.D.Desk.seen c.args.desk.now).reads (g.D.Desk.seen c.open.new.desk).reads c.in-Ok.store c.in-Ok.ensures.opened.0
    c.in-Ok.ensures.created c.in-Ok.ensures.opens c.in-Ok.ensures.format (λ told. (c.in-Ok.ensures.stands told).kept) in
    load_created g.D.Desk.tells g.D.Desk.seen c.args.bounds (g.D.Desk.seen c.args.desk.now).reads c.in-Ok.store c.open.new.desk c.load.new.desk c.load.result opened c.load.ensures.state c.load.ensures.turned

pub returns-in-Ok-clause-kept : goal.returns-in-Ok-clause-kept
returns-in-Ok-clause-kept g c = λ told some.
    let opened = opened_as g.D.Desk.tells c.args.bounds (g.D.Desk.seen c.args.desk.now).reads (g.D.Desk.seen c.open.new.desk).reads c.in-Ok.store c.in-Ok.ensures.opened.0
    c.in-Ok.ensures.created c.in-Ok.ensures.opens c.in-Ok.ensures.format (λ told. (c.in-Ok.ensures.stands told).kept) told in
    kept_or c.args.bounds (g.D.Desk.seen c.args.desk.now).reads (g.D.Desk.seen c.open.new.desk).reads c.in-Ok.store c.args.desk.now c.open.new.desk c.load.new.desk c.load.result
    (record { parts = c.open.ensures.kept told some; others = c.open.ensures.others; stops = c.open.ensures.unwritten told some; remembers = c.open.ensures.remembers })
    opened (c.load.ensures.stops told) c.load.ensures.quiet_or

pub returns-in-Ok-clause-second : goal.returns-in-Ok-clause-second
returns-in-Ok-clause-second g c =
    let opened = opened_as g.D.Desk.tells c.args.bounds (g.D.Desk.seen c.args.desk.now).reads (g.D.Desk.seen c.open.new.desk).reads c.in-Ok.store c.in-Ok.ensures.opened.0
    c.in-Ok.ensures.created c.in-Ok.ensures.opens c.in-Ok.ensures.format (λ told. (c.in-Ok.ensures.stands told).kept) in
    or_migrates (λ d. (g.D.Desk.seen d).reads One ≡ (g.D.Desk.seen c.args.desk.now).reads One) g.D.Desk.tells c.args.bounds (g.D.Desk.seen c.args.desk.now).reads (g.D.Desk.seen c.open.new.desk).reads
    c.in-Ok.store c.open.new.desk c.load.new.desk c.load.result c.open.ensures.second opened c.load.ensures.quiet_or

pub returns-in-Ok-clause-small : goal.returns-in-Ok-clause-small
returns-in-Ok-clause-small g c =
    let opened = opened_as g.D.Desk.tells c.args.bounds (g.D.Desk.seen c.args.desk.now).reads (g.D.Desk.seen c.open.new.desk).reads c.in-Ok.store c.in-Ok.ensures.opened.0
    c.in-Ok.ensures.created c.in-Ok.ensures.opens c.in-Ok.ensures.format (λ told. (c.in-Ok.ensures.stands told).kept) in
    or_migrates (λ d. HoldsRoom g.D.Desk.tells empty_size g.D.Desk.seen g.D.Desk.stopped c.args.desk.now d) g.D.Desk.tells c.args.bounds (g.D.Desk.seen c.args.desk.now).reads (g.D.Desk.seen c.open.new.desk).reads
    c.in-Ok.store c.open.new.desk c.load.new.desk c.load.result c.open.ensures.room opened c.load.ensures.quiet_or

pub returns-in-Ok-clause-stops : goal.returns-in-Ok-clause-stops
returns-in-Ok-clause-stops g c = λ told.
    let opened = opened_as g.D.Desk.tells c.args.bounds (g.D.Desk.seen c.args.desk.now).reads (g.D.Desk.seen c.open.new.desk).reads c.in-Ok.store c.in-Ok.ensures.opened.0
    c.in-Ok.ensures.created c.in-Ok.ensures.opens c.in-Ok.ensures.format (λ told. (c.in-Ok.ensures.stands told).kept) told in
    stops_or _ c.args.bounds (g.D.Desk.seen c.args.desk.now).reads (g.D.Desk.seen c.open.new.desk).reads c.in-Ok.store c.args.desk.now c.open.new.desk c.load.new.desk c.load.result
    (c.open.ensures.stops told) opened (c.load.ensures.stops told) c.load.ensures.quiet_or

pub returns-in-Ok-clause-room : goal.returns-in-Ok-clause-room
returns-in-Ok-clause-room g c = room_loaded c.args.bounds c.in-Ok.store c.in-Ok.ensures.opened.0 c.open.ensures.room c.load.ensures.room

pub returns-in-Ok-clause-others : goal.returns-in-Ok-clause-others
returns-in-Ok-clause-others g c = OnlyDisk-then c.open.ensures.others c.load.ensures.others

pub returns-in-Ok-clause-quiet : goal.returns-in-Ok-clause-quiet
returns-in-Ok-clause-quiet g c = Leaves-then _ c.open.ensures.quiet c.load.ensures.quiet (λ i p. tt) (λ i p. tt)

pub returns-in-Ok-clause-remembers : goal.returns-in-Ok-clause-remembers
returns-in-Ok-clause-remembers g c = Remembers-then c.open.ensures.quiet.time.later c.open.ensures.remembers c.load.ensures.remembers

pub returns-in-Err-clause-kept : goal.returns-in-Err-clause-kept
returns-in-Err-clause-kept g c = λ told some.
    inl (record { parts = c.open.ensures.kept told some; others = c.open.ensures.others; stops = c.open.ensures.unwritten told some; remembers = c.open.ensures.remembers })

pub returns-in-Err-clause-second : goal.returns-in-Err-clause-second
returns-in-Err-clause-second g c = inl c.open.ensures.second

pub returns-in-Err-clause-small : goal.returns-in-Err-clause-small
returns-in-Err-clause-small g c = inl c.open.ensures.room

pub returns-in-Err-clause-stops : goal.returns-in-Err-clause-stops
returns-in-Err-clause-stops g c = λ told. Leaves-weaker _ (c.open.ensures.stops told) (λ i p. inl p)

pub returns-in-Err-clause-room : goal.returns-in-Err-clause-room
returns-in-Err-clause-room g c = room_opened c.args.bounds c.open.ensures.room
