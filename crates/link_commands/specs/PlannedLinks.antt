-- What the private functions of planning promise. Nothing public cites it.
use Rattle.std.specs.Prelude.{◌≡◌, ℕ, cond, List, None, Some, Ok}
use Rattle.std.specs.declared.option.Option.{Option}
use Rattle.std.specs.Option.{option_map_or}
use Rattle.ctrl_model.specs.declared.refusals.Refusal.{Refusal}
use Rattle.ctrl_model.specs.declared.replies.Reply.{Reply}
use Rattle.ctrl_model.specs.LinkCommands.{is_end_of, refusal_of_create_link, refusal_of_report}
use Rattle.ctrl_model.specs.Numbered.{at}
use Rattle.ctrl_model.specs.State.{State, Link, link_named, router_named}
use Rattle.ctrl_model.specs.ValidState.{ValidState}
use Rattle.entity_store.specs.EntityTables.{Tables}
use Rattle.fabric_graph.specs.FabricTables.{FabricSeen}
use Rattle.fabric_graph.specs.FabricRules.{may_add}
use Rattle.fabric_graph.specs.declared.changes.LinkChange.{LinkChange}
use Rattle.model_laws.specs.declared.plans.Plan.{Plan}
use Rattle.link_commands.specs.LinkChanges.{over}
use Rattle.link_commands.specs.LinkPlans.{PlansLinks}

-- A plan of an answer in every valid state with these routers and these links.
abbrev pub Answers : (State → Reply × State) → Tables → FabricSeen → Plan LinkChange → Type 0
Answers answer t f p = (s : State) → ValidState (over t f s) → PlansLinks p (answer (over t f s)) (over t f s)

-- A link of a name may join two routers, whose numbers these are.
pub record Joins (name a b : List ℕ) (t : Tables) (f : FabricSeen) (from to : ℕ) : Type 0 where
  pub starts : router_named t.routers.rows a ≡ Some from
  pub ends : router_named t.routers.rows b ≡ Some to
  pub may : may_add name from to f ≡ Ok tt

-- The refusal of making a link, in every valid state with these routers and these links.
abbrev pub RefusesJoin : List ℕ → List ℕ → List ℕ → Tables → FabricSeen → Refusal → Type 0
RefusesJoin name a b t f r = (s : State) → ValidState (over t f s) → refusal_of_create_link name a b (over t f s) ≡ Some r

-- A link of a name stands under a number.
pub record IsLink (name : List ℕ) (f : FabricSeen) (n : ℕ) (l : Link) : Type 0 where
  pub named : link_named f.links.rows name ≡ Some n
  pub stands : at f.links.rows n ≡ Some l

-- The number of the router of a name, if it is an end of a link.
abbrev pub end_of : List ℕ → Link → Tables → Option ℕ
end_of router l t = option_map_or (λ r. cond (is_end_of r l) (Some r) None) (router_named t.routers.rows router) None

-- A router of a name, whose number this is, reports of a link of a name, which stands under its number.
pub record Reports (link router : List ℕ) (t : Tables) (f : FabricSeen) (n : ℕ) (l : Link) (reporter : ℕ) : Type 0 where
  pub is_link : IsLink link f n l
  pub is_end : end_of router l t ≡ Some reporter

-- The refusal of a report, in every state with these routers and these links.
abbrev pub RefusesReport : List ℕ → List ℕ → Tables → FabricSeen → Refusal → Type 0
RefusesReport link router t f r = (s : State) → refusal_of_report link router (over t f s) ≡ Some r
