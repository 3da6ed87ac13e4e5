-- Of which state the parts are that an advice is made of (docs/PROMISES.md, "Advice").
use Rattle.std.specs.Prelude.{◌≡◌, ℕ, List, true, map}
use Rattle.std.specs.List.{list_all}
use Rattle.ctrl_model.specs.declared.kinds.Relation.TheVariants.{Dial, Bind, IdentityRouter, ServiceRouter}
use Rattle.ctrl_model.specs.Grants.{count}
use Rattle.ctrl_model.specs.Networks.{seen, circuits_full}
use Rattle.ctrl_model.specs.Numbered.{is_present}
use Rattle.ctrl_model.specs.State.{State, Router}
use Rattle.circuit_rules.specs.declared.views.View.{View}
use Rattle.entity_store.specs.EntityTables.{Tables}
use Rattle.grant_denorm.specs.MovedCounts.{AreCountsOf}
use Rattle.policy_store.specs.PolicyTables.{PolicyTables}
use Rattle.policy_advisor.specs.declared.advised.Advice.{Advice}

-- A view shows a state: all its routers, its links and terminators, its grant counts, and whether no circuit can be added.
pub record IsViewOf (v : View) (s : State) : Type 0 where
  pub routers : v.routers.now ≡ map seen s.routers.rows
  pub links : v.fabric.now.links ≡ s.links
  pub least : v.fabric.now.least ≡ s.least_router_cost
  pub terminators : v.terminators.now.terminators ≡ s.terminators
  pub dial : AreCountsOf (count Dial s) v.dial.now
  pub bind : AreCountsOf (count Bind s) v.bind.now
  pub identity_router : AreCountsOf (count IdentityRouter s) v.identity_router.now
  pub service_router : AreCountsOf (count ServiceRouter s) v.service_router.now
  pub full : v.circuits_full ≡ circuits_full s

-- A view, entities and policies are parts of a state.
pub record ArePartsOf (v : View) (t : Tables) (p : PolicyTables) (s : State) : Type 0 where
  pub view : IsViewOf v s
  pub identities : t.identities ≡ s.identities
  pub services : t.services ≡ s.services
  pub routers : t.routers ≡ s.routers
  pub service_policies : p.service_policies ≡ s.service_policies

-- The routers of an advice are among these.
pub record HasRouters (routers : List (ℕ × Router)) (a : Advice) : Type 0 where
  pub common : list_all (is_present routers) a.common ≡ true
  pub online : list_all (is_present routers) a.online ≡ true
