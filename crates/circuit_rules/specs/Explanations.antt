-- What explains a decision: the explanation of the best candidate where no rule fails, and else the first rule that fails
-- (docs/RULES.md, "Explanations and claims").
use Rattle.std.specs.Prelude.{◌≡◌, ⊤, None, Some, Ok, Err, unwrap_or}
use Rattle.std.specs.declared.result.Result.{Result}
use Rattle.ctrl_model.specs.declared.claims.Explanation.{Explanation}
use Rattle.ctrl_model.specs.Networks.{Network}
use Rattle.ctrl_model.specs.Choices.{Ask, Candidate, best, first_rule}
use Rattle.ctrl_model.specs.Claims.{explanation_of}
use Rattle.circuit_rules.specs.declared.views.DecideFault.{DecideFault}
use Rattle.circuit_rules.specs.declared.views.DecideFault.TheVariants as fault

-- No rule of the request fails, and this is the explanation of the best candidate.
pub record IsExplained (w : Network) (ask : Ask) (e : Explanation) : Type 0 where
  pub passes : first_rule w ask ≡ None
  pub chosen : Candidate
  pub is_best : best w ask ≡ Some chosen
  pub explained : e ≡ explanation_of w ask (unwrap_or ask.service 0) chosen

-- What explains: an explanation, or the first rule that fails. Of want of memory a clause of its own says when it may come.
abbrev pub Explains : Network → Ask → Result Explanation DecideFault → Type 0
Explains w ask (Ok e) = IsExplained w ask e
Explains w ask (Err (fault.Denied d)) = first_rule w ask ≡ Some d
Explains w ask (Err fault.NoMemory) = ⊤
