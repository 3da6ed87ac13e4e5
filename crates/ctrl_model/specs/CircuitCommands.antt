-- The commands on circuits, and what explains and verifies their routes (docs/RULES.md, "Circuits", "Explanations and
-- claims").
use Rattle.std.specs.Prelude.{ℕ, false, not, List, [], None, Some, unwrap_or}
use Rattle.std.specs.declared.option.Option.{Option}
use Rattle.std.specs.Option.{option_map_or}
use Rattle.ctrl_model.specs.declared.claims.Reach.{Reach}
use Rattle.ctrl_model.specs.declared.claims.Explanation.{Explanation}
use Rattle.ctrl_model.specs.declared.kinds.Kind.TheVariants as kind
use Rattle.ctrl_model.specs.declared.refusals.Denial.{Denial}
use Rattle.ctrl_model.specs.declared.refusals.Denial.TheVariants.{NoPath}
use Rattle.ctrl_model.specs.declared.refusals.Field.TheVariants as field
use Rattle.ctrl_model.specs.declared.refusals.Refusal.{Refusal}
use Rattle.ctrl_model.specs.declared.refusals.Refusal.TheVariants.{Denied, Unknown}
use Rattle.ctrl_model.specs.declared.replies.Reply.{Reply}
use Rattle.ctrl_model.specs.declared.replies.Reply.TheVariants.{Done, Refused, Explained, Verified, Shown}
use Rattle.ctrl_model.specs.declared.replies.Reply.TheVariants as reply
use Rattle.ctrl_model.specs.Numbered.{at, is_present}
use Rattle.ctrl_model.specs.State.{State, Entity, Router, Circuit, entity_named, router_named}
use Rattle.ctrl_model.specs.Networks.{network_of}
use Rattle.ctrl_model.specs.Choices.{Wanted, Any, Absent, One, Ask, Candidate, best, first_rule}
use Rattle.ctrl_model.specs.Claims.{explanation_of, justified}
use Rattle.ctrl_model.specs.Settling.{settle}
use Rattle.ctrl_model.specs.Rules.{carried_out, shown, refuse_if}
use Rattle.ctrl_model.specs.RecordCommands.{after_create, after_remove}

-- The ingress that a request names, its name looked up.
abbrev pub wanted_ingress : State → Option (List ℕ) → Wanted
wanted_ingress s None = Any
wanted_ingress s (Some name) = option_map_or One (router_named s.routers.rows name) Absent

-- A circuit request, its names looked up.
abbrev pub ask_of : List ℕ → List ℕ → Option (List ℕ) → List ℕ → State → Ask
ask_of identity service ingress instance s = record {
  identity = entity_named s.identities.rows identity;
  service = entity_named s.services.rows service;
  ingress = wanted_ingress s ingress;
  instance = instance;
}

-- The name of the identity or service of a number.
abbrev pub name_of : List (ℕ × Entity) → ℕ → List ℕ
name_of rows n = option_map_or (λ (e : Entity). e.name) (at rows n) []

-- The name of the router of a number.
abbrev pub router_name : State → ℕ → List ℕ
router_name s n = option_map_or (λ (r : Router). r.name) (at s.routers.rows n) []

-- What a route request is answered: the first rule that fails, or the best candidate. Where no rule fails there is one.
abbrev pub decided : Option Denial → Option Candidate → (Denial → Reply × State) → (Candidate → Reply × State) → Reply × State
decided (Some d) c denied granted = denied d
decided None None denied granted = denied NoPath
decided None (Some c) denied granted = granted c

-- The circuit of a candidate, added under the next number.
abbrev pub after_create_circuit : Ask → Candidate → State → State
after_create_circuit ask c s = after_create kind.Circuit (record {
  identity = unwrap_or ask.identity 0;
  service = unwrap_or ask.service 0;
  terminator = c.terminator;
  ingress = c.ingress;
  links = c.links;
}) s

-- A granted circuit, as its reply shows it.
abbrev pub granted_reply : Candidate → State → Reply
granted_reply c s = reply.Circuit (record { 0 = s.circuits.next }) (router_name s c.ingress) c.links (record { 0 = c.terminator }) c.total

-- The answer to CreateCircuit.
abbrev pub create_circuit : Ask → State → Reply × State
create_circuit ask s = decided (first_rule (network_of s) ask) (best (network_of s) ask)
    (λ d. (Refused (Denied d), s))
    (λ c. (granted_reply c s, settle (after_create_circuit ask c s)))

-- The answer to Explain: the route that a circuit would get now, with what shows that it is the least.
abbrev pub explain : Ask → State → Reply × State
explain ask s = decided (first_rule (network_of s) ask) (best (network_of s) ask)
    (λ d. (Refused (Denied d), s))
    (λ c. (Explained (router_name s c.ingress) (explanation_of (network_of s) ask (unwrap_or ask.service 0) c), s))

-- The claim of a VerifyRoute from a present ingress.
abbrev pub claim_from : List ℕ → List Reach → List ℕ → ℕ → ℕ → ℕ → Explanation
claim_from links potentials routers terminator total ingress = record {
  ingress = record { 0 = ingress };
  links = links;
  potentials = potentials;
  routers = routers;
  terminator = record { 0 = terminator };
  total = total;
}

-- The answer to VerifyRoute: whether the claim is justified; a claim from an absent ingress is not.
abbrev pub verify_route : Ask → List ℕ → List ℕ → List Reach → List ℕ → ℕ → ℕ → State → Reply × State
verify_route ask chosen links potentials routers terminator total s = shown None s (Verified (option_map_or
    (λ r. justified (network_of s) ask (claim_from links potentials routers terminator total r)) (router_named s.routers.rows chosen) false))

-- The refusal of a number that no circuit has.
abbrev pub no_such_circuit : ℕ → State → Option Refusal
no_such_circuit n s = refuse_if (not (is_present s.circuits.rows n)) (Unknown field.No)

-- The answer to DeleteCircuit, which removes it.
abbrev pub delete_circuit : ℕ → State → Reply × State
delete_circuit n s = carried_out (no_such_circuit n s) s Done (after_remove kind.Circuit n s)

-- A circuit, as its reply shows it.
abbrev pub shown_circuit : State → Circuit → Reply
shown_circuit s c =
    Shown (name_of s.identities.rows c.identity) (router_name s c.ingress) c.links (name_of s.services.rows c.service) (record { 0 = c.terminator })

-- The answer to ShowCircuit.
abbrev pub show_circuit : ℕ → State → Reply × State
show_circuit n s = shown (no_such_circuit n s) s (option_map_or (shown_circuit s) (at s.circuits.rows n) Done)
