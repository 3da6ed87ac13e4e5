use Rattle.std.proofs.Common.{◌&&◌, not, sym, ◌∙◌, ap}
use Rattle.ctrl_model.specs.ValueForms.{is_distinct}
use Rattle.record_flaws.proofs.soundness.are_distinct.Goals as goal

pub returns-then-has_name : goal.returns-then-has_name
returns-then-has_name c =
    sym (sym c.names.invariant ∙ ap is_distinct c.in-Some.ensures.cases.0 ∙ ap (λ b. not b && is_distinct c.in-Some.others.now) (sym c.has_name.ensures ∙ c.if-has_name.true))
