-- A state of which entities, grant counts and numbers of records are shown (docs/PROMISES.md, "What is shown").
use Rattle.std.specs.Prelude.{◌≡◌, ◌+◌, length}
use Rattle.ctrl_model.specs.declared.kinds.Relation.TheVariants.{Dial, Bind, IdentityRouter, ServiceRouter}
use Rattle.ctrl_model.specs.Grants.{count}
use Rattle.ctrl_model.specs.State.{State}
use Rattle.ctrl_model.specs.ValidState.{ValidState}
use Rattle.entity_store.specs.HeldUses.{with_entities}
use Rattle.grant_denorm.specs.MovedCounts.{AreCountsOf}
use Rattle.show_commands.specs.declared.shown_parts.Shown.{Shown}

-- A state with the entities that are shown in place of its own.
abbrev pub with_shown : Shown → State → State
with_shown p s = with_entities p.entities.now s

-- The state of what is shown is valid, there are as many records in it, and the counts are its grant counts.
pub record Shows (p : Shown) (s : State) : Type 0 where
  pub valid : ValidState (with_shown p s)
  pub circuits_are : p.circuits ≡ length s.circuits.rows
  pub links_are : p.links ≡ length s.links.rows
  pub policies_are : p.policies ≡ length s.service_policies.rows + length s.edge_router_policies.rows + length s.service_edge_router_policies.rows
  pub terminators_are : p.terminators ≡ length s.terminators.rows
  pub dial : AreCountsOf (count Dial (with_shown p s)) p.dial.now
  pub bind : AreCountsOf (count Bind (with_shown p s)) p.bind.now
  pub identity_router : AreCountsOf (count IdentityRouter (with_shown p s)) p.identity_router.now
  pub service_router : AreCountsOf (count ServiceRouter (with_shown p s)) p.service_router.now

-- What is shown is that of some state.
pub record AreShown (p : Shown) : Type 0 where
  pub state : State
  pub shows : Shows p state
