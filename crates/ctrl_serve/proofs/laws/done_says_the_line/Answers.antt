use Rattle.std.proofs.Common.{◌++◌, List, ℕ, Some, ap, ◌∙◌, subst}
use Rattle.std.specs.declared.option.Option.{Option}
use Rattle.ziti_outside.specs.Told.{Took}
use Rattle.serve_loop.proofs.EndingLaws.{told_took, nothing_is_front}
use Rattle.ctrl_serve.proofs.laws.done_says_the_line.Goals as goal

pub returns-clause-said : goal.returns-clause-said
returns-clause-said c line said before now told s =
    told_took said s.said now.said (subst (λ (x : Option (List ℕ)). Took x now.said s.said) told s.took) ∙ ap (λ (l : List ℕ). Some (said ++ l)) s.says

pub returns-clause-noted : goal.returns-clause-noted
returns-clause-noted c line before now s = nothing_is_front before.noted now.noted s.notes.part.0 s.notes.part.1 s.notes.part.2
