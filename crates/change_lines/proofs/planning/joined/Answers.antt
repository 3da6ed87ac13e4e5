use Rattle.std.proofs.Common.{List, ℕ, ◌++◌, ◌∙◌, ap}
use Rattle.change_lines.proofs.PlanLaws.{some_text}
use Rattle.change_lines.proofs.planning.joined.Goals as goal

pub returns : goal.returns
returns c = record {
  told = c.of.ensures ∙ c.in_ok-extend_from_slice.ensures.items ∙ ap (λ (text : List ℕ). text ++ c.args.refused.now) c.in_ok-text.ensures.items;
  refuses = some_text c.args.refused.now c.is_empty.result c.is_empty.ensures;
}
