use Rattle.std.proofs.Common.{refl, sym, ◌∙◌}
use Rattle.std.proofs.lemmas.Bool.{true≢false}
use Rattle.zitilook.proofs.planning.run_over.Goals as goal

pub returns-then-is_plan : goal.returns-then-is_plan
returns-then-is_plan g c = record {
  runs = record {
    others = λ other. absurd (true≢false (sym (sym c.is_plan.ensures ∙ c.if-is_plan.true) ∙ other));
    plans = λ is. (c.run_plan.ensures, refl);
  };
}

pub returns : goal.returns
returns g c = record {
  runs = record {
    others = λ is. (c.run_beside.ensures.runs, refl);
    plans = λ other. absurd (true≢false (sym other ∙ sym c.is_plan.ensures ∙ c.if-is_plan.false));
  };
}
