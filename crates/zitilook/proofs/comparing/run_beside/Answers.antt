use Rattle.std.proofs.Common.{refl, sym, ◌∙◌}
use Rattle.std.proofs.lemmas.Bool.{true≢false}
use Rattle.zitilook.proofs.comparing.run_beside.Goals as goal

pub returns-then-is_diff : goal.returns-then-is_diff
returns-then-is_diff g c = record {
  runs = record {
    alone = λ other. absurd (true≢false (sym (sym c.is_diff.ensures ∙ c.if-is_diff.true) ∙ other));
    beside = λ is. c.run_diff.ensures;
  };
}

pub returns : goal.returns
returns g c = record {
  runs = record {
    alone = λ is. (c.run.ensures.runs, refl);
    beside = λ other. absurd (true≢false (sym other ∙ sym c.is_diff.ensures ∙ c.if-is_diff.false));
  };
}
