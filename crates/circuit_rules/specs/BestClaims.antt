-- What a justified claim means: its route is one that the request may take, and none is better (docs/RULES.md, "Explanations and
-- claims").
use Rattle.std.specs.Prelude.{◌≡◌, Some}
use Rattle.ctrl_model.specs.declared.claims.Explanation.{Explanation}
use Rattle.ctrl_model.specs.Numbered.{at}
use Rattle.ctrl_model.specs.State.{Terminator}
use Rattle.ctrl_model.specs.Networks.{Network}
use Rattle.ctrl_model.specs.Choices.{Ask, IsCandidate, place_of}
use Rattle.model_laws.specs.ClaimedRoutes.{NoneIsBetter, claimed_candidate}

-- The claimed terminator is present, the claimed route to it is a candidate of the request, and no candidate has a better
-- precedence, or the same and a lower total.
pub record IsBestClaim (w : Network) (ask : Ask) (claim : Explanation) : Type 0 where
  pub named : Terminator
  pub present : at w.terminators claim.terminator.0 ≡ Some named
  pub is_candidate : IsCandidate w ask (claimed_candidate claim named)
  pub none_is_better : NoneIsBetter w ask (place_of named.precedence) claim.total
