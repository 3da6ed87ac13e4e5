-- The refusal of a policy that is put is the controller's: of its name, of an absent `@` name, of a full kind, of attributes.
use Rattle.std.proofs.Common.{◌≡◌, ℕ, suc, ◌+◌, ◌<◌, ◌≤◌, nat_lt, min, Bool, true, false, not, ◌&&◌, cond, List, [], ◌∷◌, length, slice_index_or, Option, None, Some, Result, Ok, Err, is_some, is_none, refl, sym, ◌∙◌, ap, subst, arith, ltb-true}
use Rattle.std.proofs.Math.Bool.{not-not}
use Rattle.std.proofs.Math.Nat.{min-eq_left, min-le_left}
use Rattle.std.proofs.lemmas.Bool.{false≢true}
use Rattle.std.proofs.lemmas.Bool.Decides.{nat_tests}
use Rattle.std.proofs.lemmas.Option.{same_Some, none-some}
use Rattle.std.specs.List.{position, position_or_len}
use Rattle.std.specs.Option.{option_map, option_map_or}
use Rattle.std.specs.Prelude.{⊤}
use Rattle.ctrl_model.specs.declared.kinds.Kind.{Kind}
use Rattle.ctrl_model.specs.declared.kinds.Kind.TheVariants as kind
use Rattle.ctrl_model.specs.declared.refusals.Field.{Field}
use Rattle.ctrl_model.specs.declared.refusals.Field.TheVariants as field
use Rattle.ctrl_model.specs.declared.refusals.Refusal.{Refusal}
use Rattle.ctrl_model.specs.declared.refusals.Refusal.TheVariants.{Full, UnknownRef}
use Rattle.ctrl_model.specs.Numbered.{at, Between}
use Rattle.ctrl_model.specs.State.{State, Policy, policy_named}
use Rattle.ctrl_model.specs.RecordCommands.{first_absent}
use Rattle.ctrl_model.specs.Rules.{or_then, refuse_if, exists_if_present, unknown_if_absent, at_number, attributes_full}
use Rattle.entity_store.specs.EntityTables.{Tables, number_of}
use Rattle.entity_store.specs.AttributeUses.{has_attribute_room}
use Rattle.policy_store.specs.declared.policies.PolicyFault.{PolicyFault}
use Rattle.policy_store.specs.declared.policies.PolicyFault.TheVariants as fault
use Rattle.policy_store.specs.PolicyTables.{PolicyTables, is_policy_kind, left_kind, right_kind}
use Rattle.policy_store.specs.PolicyRules.{has_kind_room, has_fitting_name}
use Rattle.policy_commands.specs.PutPolicies.{absent_place, absent_name, may_put}
use Rattle.entity_store.proofs.InUseLaws.{room_in_state}
use Rattle.policy_store.specs.PolicyChanges.{policies_in, with_policy, with_replaced}
use Rattle.policy_commands.specs.PlannedPolicies.{AreShort, IsPlaced, roles_field, refusal_for, refusal_judged, refusal_to_put, refusal_of_new, refusal_of_replace}
use Rattle.policy_commands.proofs.Arounds.{Around, HoldsPolicies, state_of}
use Rattle.policy_commands.proofs.PolicyUses.{names_of, policy_added, policy_replaced}

-- ---- the first absent `@` name, by its place

-- the refusal of the name at a place, if the place is within the list
told : Field → List (List ℕ) → ℕ → Bool → Option Refusal
told field ids i within = cond within (Some (UnknownRef field (slice_index_or ids i []))) None

-- whether no entity has a name
abbrev absent_test : (List ℕ → Option ℕ) → List ℕ → Bool
absent_test find_number name = is_none (find_number name)

first_told : (field : Field) (find_number : List ℕ → Option ℕ) (ids : List (List ℕ))
    → first_absent field find_number ids ≡ told field ids (position_or_len (absent_test find_number) ids) (nat_lt (position_or_len (absent_test find_number) ids) (length ids))
unfolding told
first_told field find_number [] = refl
first_told field find_number (x ∷ xs) = by (find_number x) (first_told field find_number xs)
  where
    m : ℕ
    m = position_or_len (absent_test find_number) xs

    next : 1 + m ≡ suc m
    next = omega arith

    within : nat_lt (suc m) (suc (length xs)) ≡ nat_lt m (length xs)
    within = grind (arith, nat_tests)

    here : true ≡ nat_lt 0 (suc (length xs))
    here = grind (arith, nat_tests)

    by : (o : Option ℕ) → first_absent field find_number xs ≡ told field xs m (nat_lt m (length xs))
        → cond (is_some o) (first_absent field find_number xs) (Some (UnknownRef field x)) ≡ told field (x ∷ xs) (cond (not (is_none o)) (1 + m) 0) (nat_lt (cond (not (is_none o)) (1 + m) 0) (suc (length xs)))
    by None k = λ i. told field (x ∷ xs) 0 (here i)
    by (Some n) k = k ∙ sym ((λ i. told field (x ∷ xs) (next i) (nat_lt (next i) (suc (length xs)))) ∙ ap (told field (x ∷ xs) (suc m)) within)

-- at most 64 names have places of 32 bits
pub place_told : (field : Field) (find_number : List ℕ → Option ℕ) (ids : List (List ℕ)) → length ids ≤ 64
    → option_map (λ i. UnknownRef field (slice_index_or ids i [])) (option_map (λ i. min i 4294967295) (position (absent_test find_number) ids)) ≡ first_absent field find_number ids
unfolding told
place_told field find_number ids few = by (nat_lt m (length ids)) refl ∙ sym (first_told field find_number ids)
  where
    m : ℕ
    m = position_or_len (absent_test find_number) ids

    by : (b : Bool) → nat_lt m (length ids) ≡ b
        → option_map (λ i. UnknownRef field (slice_index_or ids i [])) (option_map (λ i. min i 4294967295) (cond b (Some m) None)) ≡ told field ids m b
    by true within =
        let below = ltb-true m (length ids) within in
        let small : m ≤ 4294967295 = omega (arith, below, few) in
        ap (λ i. Some (UnknownRef field (slice_index_or ids i []))) (min-eq_left small)
    by false within = refl

pub place_below : (find_number : List ℕ → Option ℕ) (ids : List (List ℕ)) (i : ℕ) → option_map (λ j. min j 4294967295) (position (absent_test find_number) ids) ≡ Some i → i < length ids
place_below find_number ids i e = by (nat_lt m (length ids)) refl e
  where
    m : ℕ
    m = position_or_len (absent_test find_number) ids

    by : (b : Bool) → nat_lt m (length ids) ≡ b → option_map (λ j. min j 4294967295) (cond b (Some m) None) ≡ Some i → i < length ids
    by true within s =
        let below = ltb-true m (length ids) within in
        let same = same_Some (min m 4294967295) i s in
        let least = min-le_left m 4294967295 in
        omega (arith, below, same, least)
    by false within s = absurd (none-some i s)

-- the fault of an absent name is the refusal of it
absent_refused : (k : Kind) (p : Policy) (e : Tables) → AreShort p
    → option_map (refusal_for k p) (absent_name k p e)
    ≡ or_then (first_absent (roles_field k false) (λ name. number_of (left_kind k) name e) p.left.ids) (first_absent (roles_field k true) (λ name. number_of (right_kind k) name e) p.right.ids)
absent_refused k p e short =
    by (absent_place (left_kind k) p.left.ids e) (absent_place (right_kind k) p.right.ids e) _ _
    (place_told (roles_field k false) (λ name. number_of (left_kind k) name e) p.left.ids short.left)
    (place_told (roles_field k true) (λ name. number_of (right_kind k) name e) p.right.ids short.right)
  where
    by : (left right : Option ℕ) (a b : Option Refusal) → option_map (λ i. UnknownRef (roles_field k false) (slice_index_or p.left.ids i [])) left ≡ a
        → option_map (λ i. UnknownRef (roles_field k true) (slice_index_or p.right.ids i [])) right ≡ b
        → option_map (refusal_for k p) (option_map_or (λ i. Some (fault.UnknownRef false i)) left (option_map (λ i. fault.UnknownRef true i) right)) ≡ or_then a b
    by None None a b f g = λ i. or_then (f i) (g i)
    by None (Some n) a b f g = λ i. or_then (f i) (g i)
    by (Some m) right a b f g = λ i. or_then (f i) (g i)

absent_placed : (k : Kind) (p : Policy) (e : Tables) (f : PolicyFault) → absent_name k p e ≡ Some f → IsPlaced f p
absent_placed k p e f is =
    by (absent_place (left_kind k) p.left.ids e) (absent_place (right_kind k) p.right.ids e)
    (place_below (λ name. number_of (left_kind k) name e) p.left.ids) (place_below (λ name. number_of (right_kind k) name e) p.right.ids) is
  where
    by : (left right : Option ℕ) → ((i : ℕ) → left ≡ Some i → i < length p.left.ids) → ((i : ℕ) → right ≡ Some i → i < length p.right.ids)
        → option_map_or (λ i. Some (fault.UnknownRef false i)) left (option_map (λ i. fault.UnknownRef true i) right) ≡ Some f → IsPlaced f p
    by None None l r s = absurd (none-some f s)
    by None (Some n) l r s = subst (λ g. IsPlaced g p) (same_Some (fault.UnknownRef true n) f s) (r n refl)
    by (Some m) right l r s = subst (λ g. IsPlaced g p) (same_Some (fault.UnknownRef false m) f s) (l m refl)

-- the fault of a policy that may not be put tells a place of its sides, if it tells one
pub put_placed : (k : Kind) (p : Policy) (fresh : Bool) (t : PolicyTables) (e : Tables) (f : PolicyFault) → ◌≡◌ {A = Result ⊤ PolicyFault} (Err f) (may_put k p fresh t e) → IsPlaced f p
put_placed k p fresh t e f is = by (has_fitting_name k p.name fresh t) (absent_name k p e) fresh (not (has_kind_room k t)) (absent_placed k p e) is
  where
    by : (fits : Bool) (absent : Option PolicyFault) (new full : Bool) → ((g : PolicyFault) → absent ≡ Some g → IsPlaced g p)
        → ◌≡◌ {A = Result ⊤ PolicyFault} (Err f) (cond fits (option_map_or (λ g. Err g) absent (cond (new && full) (Err (fault.Full k)) (Ok tt))) (Err (cond new fault.Exists fault.Unknown)))
        → IsPlaced f p
    by true (Some g) new full placed s = let same : g ≡ f = cc in placed f (ap Some same)
    by true None true true placed s = let same : fault.Full k ≡ f = cc in subst (λ g. IsPlaced g p) same tt
    by true None true false placed s = absurd (cc)
    by true None false full placed s = absurd (cc)
    by false absent true full placed s = let same : fault.Exists ≡ f = cc in subst (λ g. IsPlaced g p) same tt
    by false absent false full placed s = let same : fault.Unknown ≡ f = cc in subst (λ g. IsPlaced g p) same tt

-- ---- what is judged of a policy, part by part

judged_fresh : (k : Kind) (p : Policy) (gone : List (List ℕ)) (t : Tables) (found : Option ℕ) (absent : Option PolicyFault) (refused : Option Refusal) (room full : Bool)
    → option_map (refusal_for k p) absent ≡ refused → not (has_attribute_room t gone (names_of p)) ≡ full
    → refusal_judged k p gone t (cond (is_none found) (option_map_or (λ f. Err f) absent (cond (not room) (Err (fault.Full k)) (Ok tt))) (Err fault.Exists))
    ≡ or_then (exists_if_present found) (or_then refused (or_then (refuse_if (not room) (Full k)) (refuse_if full (Full kind.Attribute))))
judged_fresh k p gone t (Some n) absent refused room full e f = refl
judged_fresh k p gone t None (Some g) refused room full e f = ap (λ o. or_then o (or_then (refuse_if (not room) (Full k)) (refuse_if full (Full kind.Attribute)))) e
judged_fresh k p gone t None None refused false full e f = ap (λ o. or_then o (or_then (refuse_if true (Full k)) (refuse_if full (Full kind.Attribute)))) e
judged_fresh k p gone t None None refused true full e f = ap (λ b. refuse_if b (Full kind.Attribute)) f ∙ ap (λ o. or_then o (refuse_if full (Full kind.Attribute))) e

judged_again : (k : Kind) (p : Policy) (gone : List (List ℕ)) (t : Tables) (found : Option ℕ) (absent : Option PolicyFault) (refused : Option Refusal) (full : Bool)
    → option_map (refusal_for k p) absent ≡ refused → not (has_attribute_room t gone (names_of p)) ≡ full
    → refusal_judged k p gone t (cond (is_some found) (option_map_or (λ f. Err f) absent (Ok tt)) (Err fault.Unknown))
    ≡ or_then (unknown_if_absent field.Name found) (or_then refused (refuse_if full (Full kind.Attribute)))
judged_again k p gone t None absent refused full e f = refl
judged_again k p gone t (Some n) (Some g) refused full e f = ap (λ o. or_then o (refuse_if full (Full kind.Attribute))) e
judged_again k p gone t (Some n) None refused full e f = ap (λ b. refuse_if b (Full kind.Attribute)) f ∙ ap (λ o. or_then o (refuse_if full (Full kind.Attribute))) e

-- ---- the controller's refusals

room_created : (k : Kind) (p : Policy) (st : Around) → is_policy_kind k ≡ true → HoldsPolicies st
    → not (has_attribute_room st.entities [] (names_of p)) ≡ attributes_full (with_policy k p (state_of st))
room_created k p st is held =
    ap not (room_in_state st.entities (state_of st) [] (names_of p) (with_policy k p (state_of st)) held (λ x. let more = policy_added k p (state_of st) is x in omega (arith, more)))
    ∙ not-not (attributes_full (with_policy k p (state_of st)))

room_replaced : (k : Kind) (n : ℕ) (p : Policy) (st : Around) (high : ℕ) (old : Policy) → is_policy_kind k ≡ true → HoldsPolicies st → Between 1 high (policies_in k (state_of st))
    → at (policies_in k (state_of st)) n ≡ Some old
    → not (has_attribute_room st.entities (names_of old) (names_of p)) ≡ attributes_full (with_replaced k n p (state_of st))
room_replaced k n p st high old is held b stands =
    ap not (room_in_state st.entities (state_of st) (names_of old) (names_of p) (with_replaced k n p (state_of st)) held (policy_replaced k n p (state_of st) high old is b stands))
    ∙ not-not (attributes_full (with_replaced k n p (state_of st)))

pub refused_create : (k : Kind) (p : Policy) (st : Around) → is_policy_kind k ≡ true → AreShort p → HoldsPolicies st
    → refusal_to_put k p true [] st.policies st.entities ≡ refusal_of_new k p (state_of st)
refused_create kind.ServicePolicy p st is short held =
    judged_fresh kind.ServicePolicy p [] st.entities _ _ _ (has_kind_room kind.ServicePolicy st.policies) _ (absent_refused kind.ServicePolicy p st.entities short) (room_created kind.ServicePolicy p st is held)
refused_create kind.EdgeRouterPolicy p st is short held =
    judged_fresh kind.EdgeRouterPolicy p [] st.entities _ _ _ (has_kind_room kind.EdgeRouterPolicy st.policies) _ (absent_refused kind.EdgeRouterPolicy p st.entities short) (room_created kind.EdgeRouterPolicy p st is held)
refused_create kind.ServiceEdgeRouterPolicy p st is short held =
    judged_fresh kind.ServiceEdgeRouterPolicy p [] st.entities _ _ _ (has_kind_room kind.ServiceEdgeRouterPolicy st.policies) _ (absent_refused kind.ServiceEdgeRouterPolicy p st.entities short) (room_created kind.ServiceEdgeRouterPolicy p st is held)
refused_create _ p st is short held = absurd (false≢true is)

-- the state that replacing leads to, of the number that the name finds
effect_full : (found : Option ℕ) (s : State) (effect : ℕ → State) (n : ℕ) → found ≡ Some n → attributes_full (effect n) ≡ attributes_full (at_number found s effect)
effect_full found s effect n e = sym (ap (λ o. attributes_full (at_number o s effect)) e)

pub refused_replace : (k : Kind) (n : ℕ) (p : Policy) (st : Around) (high : ℕ) (old : Policy) → is_policy_kind k ≡ true → AreShort p → HoldsPolicies st
    → Between 1 high (policies_in k (state_of st)) → policy_named (policies_in k (state_of st)) p.name ≡ Some n → at (policies_in k (state_of st)) n ≡ Some old
    → refusal_to_put k p false (names_of old) st.policies st.entities ≡ refusal_of_replace k p (state_of st)
refused_replace kind.ServicePolicy n p st high old is short held b named stands =
    judged_again kind.ServicePolicy p (names_of old) st.entities _ _ _ _ (absent_refused kind.ServicePolicy p st.entities short)
    (room_replaced kind.ServicePolicy n p st high old is held b stands ∙ effect_full _ (state_of st) (λ m. with_replaced kind.ServicePolicy m p (state_of st)) n named)
refused_replace kind.EdgeRouterPolicy n p st high old is short held b named stands =
    judged_again kind.EdgeRouterPolicy p (names_of old) st.entities _ _ _ _ (absent_refused kind.EdgeRouterPolicy p st.entities short)
    (room_replaced kind.EdgeRouterPolicy n p st high old is held b stands ∙ effect_full _ (state_of st) (λ m. with_replaced kind.EdgeRouterPolicy m p (state_of st)) n named)
refused_replace kind.ServiceEdgeRouterPolicy n p st high old is short held b named stands =
    judged_again kind.ServiceEdgeRouterPolicy p (names_of old) st.entities _ _ _ _ (absent_refused kind.ServiceEdgeRouterPolicy p st.entities short)
    (room_replaced kind.ServiceEdgeRouterPolicy n p st high old is held b stands ∙ effect_full _ (state_of st) (λ m. with_replaced kind.ServiceEdgeRouterPolicy m p (state_of st)) n named)
refused_replace _ n p st high old is short held b named stands = absurd (false≢true is)
