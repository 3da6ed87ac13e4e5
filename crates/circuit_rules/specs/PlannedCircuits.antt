-- What the steps of a plan find and make. Only private functions and proofs of this crate cite this file.
use Rattle.std.specs.Prelude.{ℕ, List, map}
use Rattle.ctrl_model.specs.declared.kinds.Kind.{Kind}
use Rattle.ctrl_model.specs.declared.kinds.RouterSeen.{RouterSeen}
use Rattle.ctrl_model.specs.declared.replies.Reply.{Reply}
use Rattle.ctrl_model.specs.Choices.{Ask}
use Rattle.ctrl_model.specs.CircuitCommands.{ask_of, name_of, router_name}
use Rattle.ctrl_model.specs.Networks.{Network, seen}
use Rattle.ctrl_model.specs.State.{State, start}
use Rattle.ctrl_model.specs.ValidState.{ValidState}
use Rattle.circuits.specs.CircuitTables.{is_full}
use Rattle.entity_store.specs.EntityTables.{Tables, entities}
use Rattle.circuit_rules.specs.declared.circuit_asking.Request.{Request}
use Rattle.circuits.specs.declared.changes.CircuitChange.{CircuitChange}
use Rattle.model_laws.specs.declared.plans.Plan.{Plan}
use Rattle.circuit_rules.specs.declared.circuit_parts.Parts.{Parts}
use Rattle.circuit_rules.specs.CircuitParts.{with_parts, AreGrants}
use Rattle.circuit_rules.specs.CircuitPlans.{PlansCircuits}
use Rattle.circuit_rules.specs.Views.{network_by}

-- A plan of an answer in every valid state with these parts and these grant counts.
abbrev pub Answers : (State → Reply × State) → Parts → Plan CircuitChange → Type 0
Answers answer p plan = (s : State) → ValidState (with_parts p s) → AreGrants p (with_parts p s)
    → PlansCircuits plan (answer (with_parts p s)) (with_parts p s)

-- The state of these entities alone.
abbrev pub with_entities : Tables → State
with_entities t = record start { identities = t.identities; services = t.services; routers = t.routers }

-- A request, its names looked up in a state.
abbrev pub ask_at : Request → State → Ask
ask_at r s = ask_of r.identity.now r.service.now r.ingress.now r.instance.now s

-- The name of the entity of a kind and number.
abbrev pub name_at : Kind → ℕ → Tables → List ℕ
name_at k n t = name_of (entities k t) n

-- The name of the router of a number.
abbrev pub router_at : ℕ → Tables → List ℕ
router_at n t = router_name (with_entities t) n

-- The network of these parts, with some routers in place of their own.
abbrev pub network_over : Parts → List RouterSeen → Network
network_over p routers =
    network_by routers p.fabric.now p.terminators.now p.dial.now p.bind.now p.identity_router.now p.service_router.now (is_full p.circuits.now)

-- The network of these parts.
abbrev pub network_in : Parts → Network
network_in p = network_over p (map seen p.entities.now.routers.rows)
