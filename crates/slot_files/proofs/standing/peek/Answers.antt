use Rattle.std.proofs.Common.{rules, refl, subst, arith, None, Option}
use Rattle.ctrl_model.specs.declared.formats.Format.{Format}
use Rattle.slot_files.specs.FolderImage.{BeginsAs}
use Rattle.slot_files.proofs.HeaderLaws.{no_header}
use Rattle.slot_files.proofs.standing.peek.Goals as goal

pub returns-then-mark-eq0-clause-fault : goal.returns-then-mark-eq0-clause-fault
returns-then-mark-eq0-clause-fault g c = search rules

pub returns-in-None-clause-fault : goal.returns-in-None-clause-fault
returns-in-None-clause-fault g c = (
  refl,
  λ told. no_header (g.D.Desk.seen c.args.desk.now).reads (g.D.Desk.seen c.len.new.self).reads c.in_ok-mark.mark c.slot_of-part.result c.len.ensures.parts
      (c.in_ok-mark.ensures.length told) (omega (arith, c.if-mark-eq0.false)) c.slot_of-part.ensures
      (subst (λ (o : Option Format). BeginsAs ((g.D.Desk.seen c.len.new.self).reads c.slot_of-part.result) o) c.in-None.is (c.in_ok-format.ensures.begins told)),
)
