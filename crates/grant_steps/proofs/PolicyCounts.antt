-- Where a policy comes, is replaced or goes, its steps lead from the grant counts before to those after, at every relation.
use Rattle.std.proofs.Common.{◌≡◌, ◌≢◌, ℕ, ◌+◌, ◌≤◌, ◌==◌, true, cond, List, [], Option, None, Some, refl, sym, ◌∙◌, ap, subst, arith, eq-eqb}
use Rattle.std.proofs.lemmas.Bool.{false≢true, cond-true}
use Rattle.std.specs.Option.{option_map}
use Rattle.ctrl_model.specs.declared.kinds.Kind.{Kind}
use Rattle.ctrl_model.specs.declared.kinds.Kind.TheVariants as kind
use Rattle.ctrl_model.specs.declared.kinds.Relation.{Relation}
use Rattle.ctrl_model.specs.declared.kinds.Relation.TheVariants.{Dial, Bind, IdentityRouter, ServiceRouter}
use Rattle.ctrl_model.specs.Numbered.{at, with_last, edit_at, without, Between}
use Rattle.ctrl_model.specs.State.{State, Policy}
use Rattle.ctrl_model.specs.Grants.{policies_for, count}
use Rattle.ctrl_model.specs.PolicyCommands.{replaced_by}
use Rattle.ctrl_model.specs.ValidState.{ValidState}
use Rattle.ctrl_model.proofs.NumberedLaws.{at-past, at-with_last, at-with_last-other, at-edit_at, at-edit_at-other, at-without, at-without-other, Between-with_last, Between-edit_at, Between-without}
use Rattle.grant_denorm.specs.declared.deltas.Delta.{Delta}
use Rattle.grant_moves.specs.EntitySides.{left_rows, right_rows}
use Rattle.grant_moves.specs.CountMoves.{LeadCounts}
use Rattle.grant_moves.proofs.LeadingCounts.{unchanged_leads}
use Rattle.grant_moves.proofs.PolicyMoves.{policy_leads}
use Rattle.policy_store.specs.PolicyTables.{is_policy_kind}
use Rattle.policy_store.specs.declared.steps.GrantSteps.{GrantSteps}
use Rattle.policy_store.specs.PolicyChanges.{policies_in, with_policy, with_replaced, without_policy}
use Rattle.policy_store.specs.StepsOfRelations.{steps_of}
use Rattle.grant_steps.specs.GrantChanges.{ArePolicySteps, StepsOfPolicy}
use Rattle.grant_moves.proofs.OrderedSides.{left_high, right_high, policies_high, left_ordered, right_ordered, policies_ordered}

-- ---- a state with other policies of a kind

-- the number of the next policy of a kind
abbrev pub next_in : Kind → State → ℕ
next_in kind.ServicePolicy s = s.service_policies.next
next_in kind.EdgeRouterPolicy s = s.edge_router_policies.next
next_in kind.ServiceEdgeRouterPolicy s = s.service_edge_router_policies.next
next_in _ s = 1

-- the state with other policies of a kind and another next number
abbrev pub with_rows : Kind → List (ℕ × Policy) → ℕ → State → State
with_rows kind.ServicePolicy rows next s = record s { service_policies = record { rows = rows; next = next } }
with_rows kind.EdgeRouterPolicy rows next s = record s { edge_router_policies = record { rows = rows; next = next } }
with_rows kind.ServiceEdgeRouterPolicy rows next s = record s { service_edge_router_policies = record { rows = rows; next = next } }
with_rows _ rows next s = s

-- one policy of a kind differs in some rows
pub record OneMoves (k : Kind) (n : ℕ) (was is : Option Policy) (rows : List (ℕ × Policy)) (s : State) : Type 0 where
  pub policy_was : at (policies_in k s) n ≡ was
  pub policy_is : at rows n ≡ is
  pub others : (m : ℕ) → m ≢ n → at rows m ≡ at (policies_in k s) m
  pub high : ℕ
  pub ordered : Between 1 high rows

-- ---- the counts of each relation

-- a relation that the kind can be of
leads_at : (r : Relation) (n : ℕ) (was is : Option Policy) (s t : State) (high : ℕ) (ds : List Delta) → ValidState s
    → left_rows r t ≡ left_rows r s → right_rows r t ≡ right_rows r s → at (policies_for r s) n ≡ was → at (policies_for r t) n ≡ is
    → ((m : ℕ) → m ≢ n → at (policies_for r t) m ≡ at (policies_for r s) m) → Between 1 high (policies_for r t) → ArePolicySteps r was is s ds
    → LeadCounts (count r s) (count r t) ds
leads_at r n was is s t high ds valid left right policy_was policy_is others ordered steps =
    policy_leads r n was is s t ds (record {
      left = left;
      right = right;
      policy_was = policy_was;
      policy_is = policy_is;
      others = others;
      high = policies_high r s;
      ordered = policies_ordered r s valid;
      high_after = high;
      ordered_after = ordered;
      left_high = left_high r s;
      left_ordered = left_ordered r s valid;
      right_high = right_high r s;
      right_ordered = right_ordered r s valid;
    }) steps.up steps.down

-- a relation that it cannot be of
stays_at : (r : Relation) (s t : State) (ds : List Delta) → policies_for r t ≡ policies_for r s → left_rows r t ≡ left_rows r s → right_rows r t ≡ right_rows r s
    → ds ≡ [] → LeadCounts (count r s) (count r t) ds
stays_at r s t ds policies left right none = subst (λ (steps : List Delta). LeadCounts (count r s) (count r t) steps) (sym none) (unchanged_leads r s t policies left right)

pub one_leads : (k : Kind) (n : ℕ) (was is : Option Policy) (rows : List (ℕ × Policy)) (next : ℕ) (s : State) (steps : GrantSteps) → is_policy_kind k ≡ true → ValidState s
    → OneMoves k n was is rows s → StepsOfPolicy k was is s steps → (r : Relation) → LeadCounts (count r s) (count r (with_rows k rows next s)) (steps_of r steps)
one_leads kind.ServicePolicy n was is rows next s steps fits valid m t Dial =
    leads_at Dial n was is s (with_rows kind.ServicePolicy rows next s) m.high steps.dial.items valid refl refl m.policy_was m.policy_is m.others m.ordered t.dial
one_leads kind.ServicePolicy n was is rows next s steps fits valid m t Bind =
    leads_at Bind n was is s (with_rows kind.ServicePolicy rows next s) m.high steps.bind.items valid refl refl m.policy_was m.policy_is m.others m.ordered t.bind
one_leads kind.ServicePolicy n was is rows next s steps fits valid m t IdentityRouter =
    stays_at IdentityRouter s (with_rows kind.ServicePolicy rows next s) steps.identity_router.items refl refl refl t.identity_router
one_leads kind.ServicePolicy n was is rows next s steps fits valid m t ServiceRouter =
    stays_at ServiceRouter s (with_rows kind.ServicePolicy rows next s) steps.service_router.items refl refl refl t.service_router
one_leads kind.EdgeRouterPolicy n was is rows next s steps fits valid m t Dial =
    stays_at Dial s (with_rows kind.EdgeRouterPolicy rows next s) steps.dial.items refl refl refl t.dial
one_leads kind.EdgeRouterPolicy n was is rows next s steps fits valid m t Bind =
    stays_at Bind s (with_rows kind.EdgeRouterPolicy rows next s) steps.bind.items refl refl refl t.bind
one_leads kind.EdgeRouterPolicy n was is rows next s steps fits valid m t IdentityRouter =
    leads_at IdentityRouter n was is s (with_rows kind.EdgeRouterPolicy rows next s) m.high steps.identity_router.items valid refl refl m.policy_was m.policy_is m.others m.ordered t.identity_router
one_leads kind.EdgeRouterPolicy n was is rows next s steps fits valid m t ServiceRouter =
    stays_at ServiceRouter s (with_rows kind.EdgeRouterPolicy rows next s) steps.service_router.items refl refl refl t.service_router
one_leads kind.ServiceEdgeRouterPolicy n was is rows next s steps fits valid m t Dial =
    stays_at Dial s (with_rows kind.ServiceEdgeRouterPolicy rows next s) steps.dial.items refl refl refl t.dial
one_leads kind.ServiceEdgeRouterPolicy n was is rows next s steps fits valid m t Bind =
    stays_at Bind s (with_rows kind.ServiceEdgeRouterPolicy rows next s) steps.bind.items refl refl refl t.bind
one_leads kind.ServiceEdgeRouterPolicy n was is rows next s steps fits valid m t IdentityRouter =
    stays_at IdentityRouter s (with_rows kind.ServiceEdgeRouterPolicy rows next s) steps.identity_router.items refl refl refl t.identity_router
one_leads kind.ServiceEdgeRouterPolicy n was is rows next s steps fits valid m t ServiceRouter =
    leads_at ServiceRouter n was is s (with_rows kind.ServiceEdgeRouterPolicy rows next s) m.high steps.service_router.items valid refl refl m.policy_was m.policy_is m.others m.ordered t.service_router
one_leads _ n was is rows next s steps fits valid m t r = absurd (false≢true fits)

-- ---- the three changes

-- the numbers of a kind ascend
pub kind_ordered : (k : Kind) (s : State) → ValidState s → Between 1 (next_in k s) (policies_in k s)
kind_ordered kind.ServicePolicy s valid = (valid.kinds kind.ServicePolicy).numbers.ordered
kind_ordered kind.EdgeRouterPolicy s valid = (valid.kinds kind.EdgeRouterPolicy).numbers.ordered
kind_ordered kind.ServiceEdgeRouterPolicy s valid = (valid.kinds kind.ServiceEdgeRouterPolicy).numbers.ordered
kind_ordered _ s valid = tt

kind_first : (k : Kind) (s : State) → ValidState s → 1 ≤ next_in k s
kind_first kind.ServicePolicy s valid = (valid.kinds kind.ServicePolicy).numbers.first
kind_first kind.EdgeRouterPolicy s valid = (valid.kinds kind.EdgeRouterPolicy).numbers.first
kind_first kind.ServiceEdgeRouterPolicy s valid = (valid.kinds kind.ServiceEdgeRouterPolicy).numbers.first
kind_first _ s valid = omega arith

pub created_leads : (k : Kind) (p : Policy) (s : State) (steps : GrantSteps) → is_policy_kind k ≡ true → ValidState s → StepsOfPolicy k None (Some p) s steps
    → (r : Relation) → LeadCounts (count r s) (count r (with_policy k p s)) (steps_of r steps)
created_leads k p s steps fits valid stepped r =
    subst (λ t. LeadCounts (count r s) (count r t) (steps_of r steps)) (by k) (one_leads k n None (Some p) (with_last rows n p) (n + 1) s steps fits valid moves stepped r)
  where
    n : ℕ
    n = next_in k s

    rows : List (ℕ × Policy)
    rows = policies_in k s

    absent : at rows n ≡ None
    absent = at-past n rows 1 n (kind_ordered k s valid) (omega arith)

    moves : OneMoves k n None (Some p) (with_last rows n p) s
    moves = record {
      policy_was = absent;
      policy_is = at-with_last rows n n p absent ∙ cond-true (n == n) (Some p) (at rows n) (eq-eqb n n refl);
      others = λ m other. at-with_last-other rows n m p other;
      high = n + 1;
      ordered = Between-with_last n rows 1 p (kind_first k s valid) (kind_ordered k s valid);
    }

    by : (k : Kind) → with_rows k (with_last (policies_in k s) (next_in k s) p) (next_in k s + 1) s ≡ with_policy k p s
    by kind.ServicePolicy = refl
    by kind.EdgeRouterPolicy = refl
    by kind.ServiceEdgeRouterPolicy = refl
    by _ = refl

pub replaced_leads : (k : Kind) (n : ℕ) (old p : Policy) (s : State) (steps : GrantSteps) → is_policy_kind k ≡ true → ValidState s → at (policies_in k s) n ≡ Some old
    → replaced_by p old ≡ p → StepsOfPolicy k (Some old) (Some p) s steps → (r : Relation) → LeadCounts (count r s) (count r (with_replaced k n p s)) (steps_of r steps)
replaced_leads k n old p s steps fits valid stands same stepped r =
    subst (λ t. LeadCounts (count r s) (count r t) (steps_of r steps)) (by k)
    (one_leads k n (Some old) (Some p) (edit_at rows n (replaced_by p)) (next_in k s) s steps fits valid moves stepped r)
  where
    rows : List (ℕ × Policy)
    rows = policies_in k s

    moves : OneMoves k n (Some old) (Some p) (edit_at rows n (replaced_by p)) s
    moves = record {
      policy_was = stands;
      policy_is = at-edit_at rows n n (replaced_by p) ∙ ap (option_map (λ q. cond (n == n) (replaced_by p q) q)) stands
          ∙ ap Some (cond-true (n == n) (replaced_by p old) old (eq-eqb n n refl) ∙ same);
      others = λ m other. at-edit_at-other rows n m (replaced_by p) other;
      high = next_in k s;
      ordered = Between-edit_at (next_in k s) rows 1 n (replaced_by p) (kind_ordered k s valid);
    }

    by : (k : Kind) → with_rows k (edit_at (policies_in k s) n (replaced_by p)) (next_in k s) s ≡ with_replaced k n p s
    by kind.ServicePolicy = refl
    by kind.EdgeRouterPolicy = refl
    by kind.ServiceEdgeRouterPolicy = refl
    by _ = refl

pub removed_leads : (k : Kind) (n : ℕ) (old : Policy) (s : State) (steps : GrantSteps) → is_policy_kind k ≡ true → ValidState s → at (policies_in k s) n ≡ Some old
    → StepsOfPolicy k (Some old) None s steps → (r : Relation) → LeadCounts (count r s) (count r (without_policy k n s)) (steps_of r steps)
removed_leads k n old s steps fits valid stands stepped r =
    subst (λ t. LeadCounts (count r s) (count r t) (steps_of r steps)) (by k)
    (one_leads k n (Some old) None (without rows n) (next_in k s) s steps fits valid moves stepped r)
  where
    rows : List (ℕ × Policy)
    rows = policies_in k s

    moves : OneMoves k n (Some old) None (without rows n) s
    moves = record {
      policy_was = stands;
      policy_is = at-without (next_in k s) rows 1 n n (kind_ordered k s valid) ∙ cond-true (n == n) None (at rows n) (eq-eqb n n refl);
      others = λ m other. at-without-other rows n m other;
      high = next_in k s;
      ordered = Between-without (next_in k s) rows 1 n (kind_ordered k s valid);
    }

    by : (k : Kind) → with_rows k (without (policies_in k s) n) (next_in k s) s ≡ without_policy k n s
    by kind.ServicePolicy = refl
    by kind.EdgeRouterPolicy = refl
    by kind.ServiceEdgeRouterPolicy = refl
    by _ = refl
