use Rattle.std.proofs.Common.{◌⊎◌, inl, refl, sym, ap, ◌∙◌, subst, true≢false}
use Rattle.std.proofs.lemmas.Result.{IfErr-weaker}
use Rattle.std.specs.Prelude.{IsTrue}
use Rattle.ziti_outside.specs.Images.{Image}
use Rattle.ziti_outside.proofs.MomentLaws.{Leaves-weaker}
use Rattle.ctrl_model.specs.declared.replies.Reply.{Reply}
use Rattle.ctrl_model.specs.Controller.{carry, counted}
use Rattle.row_store.specs.StoredRows.{ReadsAs}
use Rattle.row_store.specs.OpenedStates.{OpensToState}
use Rattle.ctrl_keep.specs.KeptMachine.{Machine, step}
use Rattle.ctrl_keep.specs.KeptController.{Controlled, machine_with, machine_of, made_of}
use Rattle.ctrl_keep.proofs.AdvancedPlans.{is_planned, step_is, submit_fails, quiet_stops}
use Rattle.ctrl_keep.proofs.SubmittedCommands.{still_state, refused_is, either_same, steps_as, never_compacts, room_of_all, else_of_all}
use Rattle.ctrl_keep.proofs.CompactedStates.{compact_is, still_before, never_spent, folder_of_all, fits_all, fits_none}
use Rattle.ctrl_keep.proofs.FollowedSteps.{follows_still, still_of_all, follows_of_all}
use Rattle.ctrl_keep.proofs.keeper.Kept.submit.Goals as goal

pub returns-then-not-permitted-clause-step : goal.returns-then-not-permitted-clause-step
returns-then-not-permitted-clause-step g c =
    refused_is c.args.who.now c.args.command.now c.args.self.now c.self.inside.core c.self.inside.store c.self.inside.spent c.self.view_is (c.self.invariant c.if-self.false).valid
    (sym c.permitted.ensures ∙ c.if-not-permitted.true)

pub returns-then-not-permitted-clause-stops : goal.returns-then-not-permitted-clause-stops
returns-then-not-permitted-clause-stops g c = λ fresh told.
    quiet_stops c.args.desk.now c.args.desk.now _ refl (λ (image : Image) m. inl
    (still_state c.args.self.now c.self.inside.core c.self.inside.store c.self.inside.spent (g.D.Desk.seen c.args.desk.now).reads (g.D.Desk.stopped c.args.desk.now).images
    c.self.view_is (c.self.invariant c.if-self.false) (c.requires.stands fresh told) image m))

pub returns-in_err-planned-clause-stops : goal.returns-in_err-planned-clause-stops
returns-in_err-planned-clause-stops g c = λ fresh told.
    quiet_stops c.args.desk.now c.args.desk.now _ refl (λ (image : Image) m. inl
    (still_state c.args.self.now c.self.inside.core c.self.inside.store c.self.inside.spent (g.D.Desk.seen c.args.desk.now).reads (g.D.Desk.stopped c.args.desk.now).images
    c.self.view_is (c.self.invariant c.if-self.false) (c.requires.stands fresh told) image m))

pub advance-requires-clause-planned : goal.advance-requires-clause-planned
advance-requires-clause-planned g c =
    is_planned c.in_ok-planned.planned c.self.inside.core c.self.inside.store (counted c.self.inside.core.state (carry c.args.command.now c.self.inside.core.state).1)
    (c.self.invariant c.if-self.false) c.in_ok-planned.ensures.leads

pub advance-requires-clause-stands : goal.advance-requires-clause-stands
advance-requires-clause-stands g c = λ told.
    subst (λ (k : Controlled). ReadsAs k.stored (g.D.Desk.seen c.args.desk.now).reads (g.D.Desk.stopped c.args.desk.now).images) (sym c.self.view_is)
    (c.requires.stands (sym (ap (λ (k : Controlled). k.spent) c.self.view_is) ∙ c.if-self.false) told)

pub returns-clause-step : goal.returns-clause-step
returns-clause-step g c =
    let same = step_is c.args.who.now c.args.command.now c.args.self.now c.self.inside.core c.self.inside.store c.self.inside.spent c.in_ok-planned.planned c.self.view_is
    (sym c.permitted.ensures ∙ c.if-not-permitted.false) (sym c.is_compact.ensures ∙ c.if-is_compact.false) c.in_ok-planned.ensures.reply c.in_ok-planned.ensures.leads c.in_ok-planned.ensures.batch in
    steps_as c.advance.result (machine_with c.advance.new.core.state c.advance.new.store) (made_of c.in_ok-planned.planned c.self.inside.core.state c.self.inside.store)
    (step c.args.self.now.stored.bounds c.args.who.now c.args.command.now (machine_of c.args.self.now)) same c.advance.ensures.step

pub returns-clause-fault : goal.returns-clause-fault
returns-clause-fault g c =
    IfErr-weaker c.advance.result _ _
    (λ fault a. submit_fails c.args.self.now _ c.self.inside.core c.advance.new.core c.self.inside.store c.advance.new.store c.self.inside.spent c.advance.new.spent
    c.args.desk.now c.advance.new.desk fault c.self.view_is refl c.if-self.false a)
    c.advance.ensures.fault

pub returns-clause-behind : goal.returns-clause-behind
returns-clause-behind g c = λ none fresh spent told image m.
    let same = step_is c.args.who.now c.args.command.now c.args.self.now c.self.inside.core c.self.inside.store c.self.inside.spent c.in_ok-planned.planned c.self.view_is
    (sym c.permitted.ensures ∙ c.if-not-permitted.false) (sym c.is_compact.ensures ∙ c.if-is_compact.false) c.in_ok-planned.ensures.reply c.in_ok-planned.ensures.leads c.in_ok-planned.ensures.batch in
    subst (λ (a : Reply × Machine). OpensToState image a.1.state) (sym same) (c.advance.ensures.behind none spent told image m)

pub returns-clause-stops : goal.returns-clause-stops
returns-clause-stops g c = λ fresh told.
    let same = step_is c.args.who.now c.args.command.now c.args.self.now c.self.inside.core c.self.inside.store c.self.inside.spent c.in_ok-planned.planned c.self.view_is
    (sym c.permitted.ensures ∙ c.if-not-permitted.false) (sym c.is_compact.ensures ∙ c.if-is_compact.false) c.in_ok-planned.ensures.reply c.in_ok-planned.ensures.leads c.in_ok-planned.ensures.batch in
    Leaves-weaker {X = λ image. OpensToState image c.self.inside.core.state ⊎ OpensToState image (made_of c.in_ok-planned.planned c.self.inside.core.state c.self.inside.store).1.state} _
    (c.advance.ensures.stops told) (λ image o. either_same image _ _ _ _ (ap (λ (k : Controlled). k.state) c.self.view_is) (sym same) o)

pub returns-then-is_compact-clause-step : goal.returns-then-is_compact-clause-step
returns-then-is_compact-clause-step g c =
    let same = compact_is c.args.who.now c.args.command.now c.args.self.now c.self.inside.core c.self.inside.store c.self.inside.spent c.self.view_is
    (sym c.permitted.ensures ∙ c.if-not-permitted.false) (sym c.is_compact.ensures ∙ c.if-is_compact.true) in
    steps_as c.compact.result (machine_with c.self.inside.core.state c.compact.new.store) _
    (step c.args.self.now.stored.bounds c.args.who.now c.args.command.now (machine_of c.args.self.now)) same c.compact.ensures.step

pub returns-then-is_compact-clause-fault : goal.returns-then-is_compact-clause-fault
returns-then-is_compact-clause-fault g c =
    IfErr-weaker c.compact.result _ _
    (λ fault a. submit_fails c.args.self.now _ c.self.inside.core c.self.inside.core c.self.inside.store c.compact.new.store c.self.inside.spent c.compact.new.spent
    c.args.desk.now c.compact.new.desk fault c.self.view_is refl c.if-self.false a)
    c.compact.ensures.fault

pub returns-then-is_compact-clause-behind : goal.returns-then-is_compact-clause-behind
returns-then-is_compact-clause-behind g c = λ none fresh spent told image m. never_spent c.compact.new.spent (c.compact.ensures.memory none) spent

pub returns-then-is_compact-clause-stops : goal.returns-then-is_compact-clause-stops
returns-then-is_compact-clause-stops g c = λ fresh told.
    Leaves-weaker _ (c.compact.ensures.stops told) (λ image p. still_before image c.self.inside.core.state c.args.self.now.state
    (step c.args.self.now.stored.bounds c.args.who.now c.args.command.now (machine_of c.args.self.now)) (ap (λ (k : Controlled). k.state) c.self.view_is) p)

pub compact-requires-clause-keeps : goal.compact-requires-clause-keeps
compact-requires-clause-keeps g c = c.self.invariant c.if-self.false

pub compact-requires-clause-stands : goal.compact-requires-clause-stands
compact-requires-clause-stands g c = λ told.
    subst (λ (k : Controlled). ReadsAs k.stored (g.D.Desk.seen c.args.desk.now).reads (g.D.Desk.stopped c.args.desk.now).images) (sym c.self.view_is)
    (c.requires.stands (sym (ap (λ (k : Controlled). k.spent) c.self.view_is) ∙ c.if-self.false) told)

pub returns-then-is_compact-clause-compacted : goal.returns-then-is_compact-clause-compacted
returns-then-is_compact-clause-compacted g c =
    folder_of_all c.compact.result c.args.command.now c.args.self.now c.self.inside.core c.self.inside.store c.self.inside.spent (IsTrue g.D.Desk.tells)
    (g.D.Desk.seen c.args.desk.now).reads (g.D.Desk.seen c.compact.new.desk).reads c.self.view_is c.compact.ensures.folder

pub returns-clause-compacted : goal.returns-clause-compacted
returns-clause-compacted g c = never_compacts c.advance.result c.args.command.now _ (sym c.is_compact.ensures ∙ c.if-is_compact.false)

pub returns-then-is_compact-clause-fits : goal.returns-then-is_compact-clause-fits
returns-then-is_compact-clause-fits g c =
    fits_all c.compact.result c.args.who.now c.args.command.now c.args.self.now c.self.inside.core c.self.inside.store c.self.inside.spent c.self.view_is
    (sym c.permitted.ensures ∙ c.if-not-permitted.false) (sym c.is_compact.ensures ∙ c.if-is_compact.true) c.compact.ensures.fits

pub returns-clause-fits : goal.returns-clause-fits
returns-clause-fits g c = fits_none c.advance.result c.args.command.now _ _ (sym c.is_compact.ensures ∙ c.if-is_compact.false)

pub returns-then-not-permitted-clause-follows : goal.returns-then-not-permitted-clause-follows
returns-then-not-permitted-clause-follows g c = λ told. follows_still _ _ _ _ refl refl

pub returns-then-is_compact-clause-still : goal.returns-then-is_compact-clause-still
returns-then-is_compact-clause-still g c =
    still_of_all c.compact.result c.args.self.now c.self.inside.core c.self.inside.store c.self.inside.spent (machine_with c.self.inside.core.state c.compact.new.store) _
    c.self.view_is c.compact.ensures.still

pub returns-then-is_compact-clause-follows : goal.returns-then-is_compact-clause-follows
returns-then-is_compact-clause-follows g c =
    follows_of_all c.compact.result c.args.self.now c.self.inside.core c.self.inside.store c.self.inside.spent (machine_with c.self.inside.core.state c.compact.new.store)
    (IsTrue g.D.Desk.tells) (g.D.Desk.seen c.args.desk.now).reads (g.D.Desk.seen c.compact.new.desk).reads c.self.view_is c.compact.ensures.follows

pub returns-clause-still : goal.returns-clause-still
returns-clause-still g c =
    still_of_all c.advance.result c.args.self.now c.self.inside.core c.self.inside.store c.self.inside.spent (machine_with c.advance.new.core.state c.advance.new.store) _
    c.self.view_is c.advance.ensures.still

pub returns-clause-follows : goal.returns-clause-follows
returns-clause-follows g c =
    follows_of_all c.advance.result c.args.self.now c.self.inside.core c.self.inside.store c.self.inside.spent (machine_with c.advance.new.core.state c.advance.new.store)
    (IsTrue g.D.Desk.tells) (g.D.Desk.seen c.args.desk.now).reads (g.D.Desk.seen c.advance.new.desk).reads c.self.view_is c.advance.ensures.follows

pub returns-then-not-permitted-clause-still : goal.returns-then-not-permitted-clause-still
returns-then-not-permitted-clause-still g c = λ _. refl

pub returns-then-is_compact-clause-room : goal.returns-then-is_compact-clause-room
returns-then-is_compact-clause-room g c =
    room_of_all c.args.self.now c.self.inside.core c.self.inside.store c.self.inside.spent c.self.view_is c.compact.ensures.room

pub returns-then-is_compact-clause-elsewhere : goal.returns-then-is_compact-clause-elsewhere
returns-then-is_compact-clause-elsewhere g c = λ other. absurd (true≢false (sym (sym c.is_compact.ensures ∙ c.if-is_compact.true) ∙ other))

pub returns-clause-room : goal.returns-clause-room
returns-clause-room g c = room_of_all c.args.self.now c.self.inside.core c.self.inside.store c.self.inside.spent c.self.view_is c.advance.ensures.room

pub returns-clause-elsewhere : goal.returns-clause-elsewhere
returns-clause-elsewhere g c = λ _.
    else_of_all c.args.self.now c.self.inside.core c.self.inside.store c.self.inside.spent _ _ c.self.view_is c.advance.ensures.elsewhere
