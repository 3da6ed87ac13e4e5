-- The flaws of a policy in the state of the stores of a core.
use Rattle.std.proofs.Common.{◌≡◌, ℕ, ◌+◌, ◌<◌, ◌≤◌, Bool, true, false, not, ◌&&◌, ◌||◌, nat_lt, nat_le, List, [], length, Option, None, Some, Result, Ok, Err, is_some, refl, sym, ◌∙◌, ap, arith}
use Rattle.std.proofs.Math.Bool.{not-not}
use Rattle.std.proofs.lemmas.Bool.{false≢true}
use Rattle.std.proofs.lemmas.Bool.Decides.{nat_tests}
use Rattle.std.specs.Option.{ok_or}
use Rattle.std.specs.Result.{is_ok, result_map_both}
use Rattle.ctrl_model.specs.declared.kinds.Kind.{Kind}
use Rattle.ctrl_model.specs.declared.kinds.Kind.TheVariants as kind
use Rattle.ctrl_model.specs.Limits.{limit}
use Rattle.ctrl_model.specs.Rules.{attributes_full, attributes_in_use}
use Rattle.ctrl_model.specs.State.{State, Policy}
use Rattle.ctrl_model.specs.Tables.{is_policy_kind, left_kind, right_kind}
use Rattle.ctrl_model.specs.ValidState.{are_found}
use Rattle.entity_store.specs.AttributeUses.{times, has_attribute_room}
use Rattle.entity_store.specs.EntityTables.{number_of}
use Rattle.entity_store.proofs.InUseLaws.{room_in_state}
use Rattle.policy_store.specs.PolicyTables.{policies, next_of}
use Rattle.policy_store.specs.PolicyTables as tables
use Rattle.policy_commands.proofs.PolicyUses.{names_of, policy_added}
use Rattle.state_building.specs.declared.flaws.Flaw.TheVariants.{NoRecord, OutOfOrder, NameTaken, Hanging, TooMany}
use Rattle.state_building.specs.JoinedRecords.{skipped, joined, is_sound_policy, flaw_if, unsupported}
use Rattle.core_stores.specs.declared.stores.Stores.{Stores}
use Rattle.core_stores.specs.StoredState.{HoldsPolicies}
use Rattle.ctrl_core.specs.KeptState.{Keeps}
use Rattle.core_stores.specs.StoredState.{state_of}
use Rattle.ctrl_core.specs.NewRecords.{policy_flaw_of}

-- ---- policies

-- there are too many attributes with one more policy exactly where the store has no room for its attributes
full_where_no_room : (p : Policy) (st : Stores) (after : State) → HoldsPolicies st
    → ((x : List ℕ) → times x (attributes_in_use after) ≡ times x (attributes_in_use (state_of st)) + times x (names_of p))
    → not (has_attribute_room st.entities [] (names_of p)) ≡ attributes_full after
full_where_no_room p st after held more =
    ap not (room_in_state st.entities (state_of st) [] (names_of p) after held (λ x. let one = more x in omega (arith, one))) ∙ not-not (attributes_full after)

-- what is looked up is found exactly where a number has it
pub found_ok : {A F G : Type 0} (f : A → ℕ) (g : F → G) (r : Result A F) (o : Option ℕ) (e : G) → result_map_both f g r ≡ ok_or o e → is_ok r ≡ is_some o
found_ok f g (Ok a) (Some n) e same = refl
found_ok f g (Ok a) None e same = absurd (cc)
found_ok f g (Err x) (Some n) e same = absurd (cc)
found_ok f g (Err x) None e same = refl

-- a test after another one, which holds, and which fails
pub both_then : (found a b first second : Bool) → found ≡ b → a ≡ true → a ≡ first → b ≡ second → found ≡ (first && second)
both_then found a b first second is holds a_is b_is = is ∙ b_is ∙ ap (λ x. x && second) (sym holds ∙ a_is)

pub both_else : (found a first second : Bool) → found ≡ a → a ≡ false → a ≡ first → found ≡ (first && second)
both_else found a first second is fails a_is = is ∙ fails ∙ ap (λ x. x && second) (sym fails ∙ a_is)

-- a kind that is full, and one that has room
pub many_then : (found : Bool) (most rows : ℕ) (room : Bool) → found ≡ nat_le most rows → most ≤ rows → found ≡ (nat_le most rows || not room)
many_then found most rows room is over = let full : nat_le most rows ≡ true = grind (arith, nat_tests) in is ∙ full ∙ ap (λ b. b || not room) (sym full)

pub many_else : (found : Bool) (most rows : ℕ) (has room : Bool) → found ≡ not has → rows < most → has ≡ room → found ≡ (nat_le most rows || not room)
many_else found most rows has room is under has_is =
    let few : nat_le most rows ≡ false = grind (arith, nat_tests) in is ∙ ap not has_is ∙ ap (λ b. b || not room) (sym few)

-- what is found of a policy, and the first flaw of it
pub told_policy : (k : Kind) (number end : ℕ) (order sound taken there many : Bool) (p : Policy) (st : Stores) → is_policy_kind k ≡ true → Keeps st
    → order ≡ (nat_lt number (next_of k st.policies) || nat_le end number) → sound ≡ is_sound_policy k p → taken ≡ is_some (tables.number_of k p.name st.policies)
    → there ≡ (are_found (λ name. number_of (left_kind k) name st.entities) p.left && are_found (λ name. number_of (right_kind k) name st.entities) p.right)
    → many ≡ (nat_le (limit k) (length (policies k st.policies)) || not (has_attribute_room st.entities [] (names_of p)))
    → flaw_if order OutOfOrder (flaw_if (not sound) NoRecord (flaw_if taken NameTaken (flaw_if (not there) (unsupported k) (flaw_if many TooMany None))))
    ≡ policy_flaw_of end k number p (state_of st)
told_policy kind.ServicePolicy number end order sound taken there many p st is keeps order_is sound_is taken_is there_is many_is =
    let full = full_where_no_room p st (joined kind.ServicePolicy number p (state_of st)) keeps.held (policy_added kind.ServicePolicy p (skipped kind.ServicePolicy number (state_of st)) refl) in
    let all = many_is ∙ ap (λ b. nat_le 512 (length st.policies.service_policies.rows) || b) full in
    λ i. flaw_if (order_is i) OutOfOrder (flaw_if (not (sound_is i)) NoRecord (flaw_if (taken_is i) NameTaken (flaw_if (not (there_is i)) Hanging (flaw_if (all i) TooMany None))))
told_policy kind.EdgeRouterPolicy number end order sound taken there many p st is keeps order_is sound_is taken_is there_is many_is =
    let full = full_where_no_room p st (joined kind.EdgeRouterPolicy number p (state_of st)) keeps.held (policy_added kind.EdgeRouterPolicy p (skipped kind.EdgeRouterPolicy number (state_of st)) refl) in
    let all = many_is ∙ ap (λ b. nat_le 256 (length st.policies.edge_router_policies.rows) || b) full in
    λ i. flaw_if (order_is i) OutOfOrder (flaw_if (not (sound_is i)) NoRecord (flaw_if (taken_is i) NameTaken (flaw_if (not (there_is i)) Hanging (flaw_if (all i) TooMany None))))
told_policy kind.ServiceEdgeRouterPolicy number end order sound taken there many p st is keeps order_is sound_is taken_is there_is many_is =
    let full = full_where_no_room p st (joined kind.ServiceEdgeRouterPolicy number p (state_of st)) keeps.held (policy_added kind.ServiceEdgeRouterPolicy p (skipped kind.ServiceEdgeRouterPolicy number (state_of st)) refl) in
    let all = many_is ∙ ap (λ b. nat_le 256 (length st.policies.service_edge_router_policies.rows) || b) full in
    λ i. flaw_if (order_is i) OutOfOrder (flaw_if (not (sound_is i)) NoRecord (flaw_if (taken_is i) NameTaken (flaw_if (not (there_is i)) Hanging (flaw_if (all i) TooMany None))))
told_policy _ number end order sound taken there many p st is keeps order_is sound_is taken_is there_is many_is = absurd (false≢true is)
