use Rattle.std.proofs.Common.{subst}
use Rattle.ctrl_keep.specs.Faults.{PeekFails}
use Rattle.ctrl_keep.specs.declared.faults.KeepFault.{KeepFault}
use Rattle.zitilook.proofs.FindingLaws.{judged_damage}
use Rattle.zitilook.proofs.examining.judge.Goals as goal

pub returns-in-Err-Damaged-clause-verdict : goal.returns-in-Err-Damaged-clause-verdict
returns-in-Err-Damaged-clause-verdict g c =
    let image = (g.D.Desk.seen c.args.desk.now).reads in
    let none = subst (λ (f : KeepFault). PeekFails g.D.Desk.tells image f) c.in-Err-Damaged.field-0-is c.in-Err-Damaged.ensures.fault in
    judged_damage g.D.Desk.tells image (g.D.Desk.seen c.peek.new.desk).reads _ _ c.damage_at.result
    c.peek.ensures.reads.parts none c.damage_at.ensures.found
