-- The counts and the steps that are lent to make rows are those of the stores and of the plan, relation by relation.
use Rattle.std.proofs.Common.{◌≡◌, sym, subst}
use Rattle.ctrl_model.specs.declared.kinds.Relation.{Relation}
use Rattle.ctrl_model.specs.declared.kinds.Relation.TheVariants.{Dial, Bind, IdentityRouter, ServiceRouter}
use Rattle.ctrl_model.specs.Grants.{count}
use Rattle.ctrl_model.specs.State.{State}
use Rattle.grant_denorm.specs.MovedCounts.{AreCountsOf, Moves}
use Rattle.grant_denorm.specs.TakenSteps.{HaveRoom}
use Rattle.grant_rows.specs.declared.moves.GrantMoves.{GrantMoves}
use Rattle.grant_rows.specs.CountChanges as rows
use Rattle.policy_store.specs.declared.steps.GrantSteps.{GrantSteps}
use Rattle.policy_store.specs.StepsOfRelations.{steps_of}
use Rattle.core_stores.specs.declared.stores.Stores.{Stores}
use Rattle.grant_steps.specs.LeadingSteps.{LeadAllCounts}
use Rattle.ctrl_core.specs.KeptState.{Keeps}
use Rattle.core_stores.specs.StoredState.{counts_of, state_of}

module _ (m : GrantMoves) (steps : GrantSteps) (dial : m.dial.steps.now ≡ steps.dial.items) (bind : m.bind.steps.now ≡ steps.bind.items)
    (identity_router : m.identity_router.steps.now ≡ steps.identity_router.items) (service_router : m.service_router.steps.now ≡ steps.service_router.items) where
  pub same_steps : (r : Relation) → rows.steps_of r m ≡ steps_of r steps
  same_steps Dial = dial
  same_steps Bind = bind
  same_steps IdentityRouter = identity_router
  same_steps ServiceRouter = service_router

  pub moves_each : (s t : State) → LeadAllCounts s t steps → (r : Relation) → Moves (count r s) (count r t) (rows.steps_of r m)
  moves_each s t leads r = subst (λ ds. Moves (count r s) (count r t) ds) (sym (same_steps r)) (leads r).moves

module _ (m : GrantMoves) (st : Stores) (dial : m.dial.counted.now ≡ st.grants.dial) (bind : m.bind.counted.now ≡ st.grants.bind)
    (identity_router : m.identity_router.counted.now ≡ st.grants.identity_router) (service_router : m.service_router.counted.now ≡ st.grants.service_router) where
  pub same_counts : (r : Relation) → rows.counts_of r m ≡ counts_of r st.grants
  same_counts Dial = dial
  same_counts Bind = bind
  same_counts IdentityRouter = identity_router
  same_counts ServiceRouter = service_router

  pub counts_each : Keeps st → (r : Relation) → AreCountsOf (count r (state_of st)) (rows.counts_of r m)
  counts_each keeps r = subst (λ cs. AreCountsOf (count r (state_of st)) cs) (sym (same_counts r)) (keeps.counts r)

-- what steps need of the counts
pub room_each : (m : GrantMoves) (st : Stores) (steps : GrantSteps) → ((r : Relation) → rows.steps_of r m ≡ steps_of r steps) → ((r : Relation) → rows.counts_of r m ≡ counts_of r st.grants)
    → ((r : Relation) → HaveRoom (counts_of r st.grants) (steps_of r steps)) → (r : Relation) → HaveRoom (rows.counts_of r m) (rows.steps_of r m)
room_each m st steps taken same room r =
    subst (λ ds. HaveRoom (rows.counts_of r m) ds) (sym (taken r)) (subst (λ cs. HaveRoom cs (steps_of r steps)) (sym (same r)) (room r))
