use Rattle.std.proofs.Common.{true, false, not, is_some, sym, ◌∙◌, ap}
use Rattle.ctrl_model.specs.Numbered.{Table, is_present}
use Rattle.ctrl_model.specs.State.{Entity}
use Rattle.record_flaws.proofs.ClaimFlaws.{said_behind, told_claim}
use Rattle.record_flaws.proofs.claims.claim_flaw.Goals as goal

pub returns-then-is_none : goal.returns-then-is_none
returns-then-is_none c = λ i s form of_entities last.
    told_claim true false c.args.service.0 i s
    (sym c.if-not-comes_behind.false ∙ c.comes_behind.ensures ∙ said_behind c.args.last s.services.next c.args.service.0 s.intercepts last) form
    (ap not (sym c.if-is_none.true) ∙ sym c.is_none.ensures ∙ ap is_some c.entity.ensures ∙ ap (λ (t : Table Entity). is_present t.rows c.args.service.0) (sym of_entities.services))

pub returns : goal.returns
returns c = λ i s form of_entities last.
    told_claim true true c.args.service.0 i s
    (sym c.if-not-comes_behind.false ∙ c.comes_behind.ensures ∙ said_behind c.args.last s.services.next c.args.service.0 s.intercepts last) form
    (ap not (sym c.if-is_none.false) ∙ sym c.is_none.ensures ∙ ap is_some c.entity.ensures ∙ ap (λ (t : Table Entity). is_present t.rows c.args.service.0) (sym of_entities.services))
