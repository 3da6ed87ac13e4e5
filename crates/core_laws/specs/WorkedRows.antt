-- A terminator and intercepts for worked examples of rows.
use Rattle.std.specs.Prelude.{ℕ, true, false, List, [], ◌∷◌, codes}
use Rattle.ctrl_model.specs.declared.addresses.Address.TheVariants.{Under}
use Rattle.ctrl_model.specs.declared.intercepts.Intercept.{Intercept}
use Rattle.ctrl_model.specs.declared.kinds.Precedence.{Precedence}
use Rattle.ctrl_model.specs.declared.commands.Command.TheVariants.{CreateService, SetIntercept}
use Rattle.ctrl_model.specs.State.{State, Terminator, start}
use Rattle.ctrl_model.specs.WorkedStates.{after}
use Rattle.core_laws.specs.WorkedSettling.{offer}

-- The terminator of service 2 on router 3, of a precedence.
abbrev pub offer_of : Precedence → Terminator
offer_of p = record offer { precedence = p }

-- What is under `example.org`, over tcp at port 443.
abbrev pub any_claim : Intercept
any_claim = record { tcp = true; udp = false; addresses = Under (codes "example.org") ∷ []; ports = record { low = 443; high = 443 } ∷ [] }

-- It, claimed by services 1 and 2.
abbrev pub two_claims : List (ℕ × Intercept)
two_claims = (1, any_claim) ∷ (2, any_claim) ∷ []

-- A service, web, and nothing else.
abbrev pub with_web : State
with_web = after (CreateService (codes "web") [] ∷ []) start

-- Web with that intercept.
abbrev pub web_claimed : State
web_claimed = after (SetIntercept (codes "web") any_claim ∷ []) with_web
