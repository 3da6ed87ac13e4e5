use Rattle.std.proofs.Common.{refl, rules}
use Rattle.slot_files.proofs.SwitchLaws.{switches_alone, switched_opened}
use Rattle.slot_files.proofs.switching.switch.Goals as goal

pub returns-in_err-put_down-clause-alone : goal.returns-in_err-put_down-clause-alone
returns-in_err-put_down-clause-alone g c =
    let e = c.put_down.ensures in
    switches_alone g.D.Desk.tells c.args.standing c.args.format c.requires.named c.requires.ready e.others e.stops e.remembers e.elsewhere

pub returns-clause-alone : goal.returns-clause-alone
returns-clause-alone g c =
    let e = c.put_down.ensures in
    switches_alone g.D.Desk.tells c.args.standing c.args.format c.requires.named c.requires.ready e.others e.stops e.remembers e.elsewhere

pub returns-clause-room : goal.returns-clause-room
returns-clause-room g c = search rules

pub returns-clause-switched : goal.returns-clause-switched
returns-clause-switched g c = search rules

pub returns-clause-opened : goal.returns-clause-opened
returns-clause-opened g c = λ told.
    switched_opened c.args.standing _ c.args.format _ _ _ _ (c.requires.ready told) (record { mark = refl; part = c.slot_of.ensures }) refl (c.in_ok-put_down.ensures.written told) c.put_down.ensures.elsewhere
    c.in_ok-put_down.ensures.stable c.put_down.ensures.stops.found
