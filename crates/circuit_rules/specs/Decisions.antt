-- What is decided of a circuit request: the route of the best candidate where no rule fails, and else the first rule that fails
-- (docs/RULES.md, "Circuits").
use Rattle.std.specs.Prelude.{◌≡◌, ℕ, ⊤, None, Some, Ok, Err}
use Rattle.std.specs.declared.result.Result.{Result}
use Rattle.ctrl_model.specs.Networks.{Network}
use Rattle.ctrl_model.specs.Choices.{Ask, Candidate, best, first_rule}
use Rattle.model_laws.specs.Denials.{MayEnter}
use Rattle.circuit_rules.specs.declared.views.Route.{Route}
use Rattle.circuit_rules.specs.declared.views.DecideFault.{DecideFault}
use Rattle.circuit_rules.specs.declared.views.DecideFault.TheVariants as fault

-- The route of a candidate.
abbrev pub route_of : Candidate → Route
route_of c = record {
  ingress = record { 0 = c.ingress };
  links = c.links;
  terminator = record { 0 = c.terminator };
  total = c.total;
}

-- No rule of the request fails, and the best candidate has this route.
pub record Grants (w : Network) (ask : Ask) (r : Route) : Type 0 where
  pub passes : first_rule w ask ≡ None
  pub chosen : Candidate
  pub is_best : best w ask ≡ Some chosen
  pub route : r ≡ route_of chosen

-- What is decided: a route that is granted, or the first rule that fails. Of want of memory a clause of its own says when it may come.
abbrev pub Decides : Network → Ask → Result Route DecideFault → Type 0
Decides w ask (Ok r) = Grants w ask r
Decides w ask (Err (fault.Denied d)) = first_rule w ask ≡ Some d
Decides w ask (Err fault.NoMemory) = ⊤

-- Memory can be wanting only for a request that the rules without need of memory pass: its identity and its service are present, the
-- identity is granted Dial on the service, and there is a router where the circuit may enter. What else denies a request is found with
-- memory: the rules on terminators by a list of them, and those on the way, of which that of full circuits is the last, by a search.
abbrev pub MayWantMemory : Network → Ask → Type 0
MayWantMemory w ask = (i : ℕ) × (s : ℕ) × MayEnter w ask i s
