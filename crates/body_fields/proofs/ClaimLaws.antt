-- The potentials of a claimed route in bodies: which keys one has, and what form it has.
use Rattle.std.proofs.Common.{◌≡◌, ℕ, ◌==◌, nat_le, Bool, true, false, cond, ◌&&◌, ◌||◌, List, [], ◌∷◌, map, length, codes, Some, None, refl, ap, subst, le-leb}
use Rattle.std.specs.Prelude.{String, string_bytes, is_some, option_map, option_and_then}
use Rattle.std.specs.List.{list_all}
use Rattle.std.specs.Str.{bytes_eq}
use Rattle.std.specs.declared.alloc.Global.{Global}
use Rattle.std.proofs.lemmas.Bool.{and_from, and_parts}
use Rattle.std.proofs.lemmas.Option.{option_and_then_some, same_Some}
use Rattle.serde_json.specs.Data.{Data, null, boolean, number, string, array, object, Members}
use Rattle.serde_json.specs.Find.{as_null, as_object, get}
use Rattle.serde_json.specs.View.{members_view}
use Rattle.serde_json.specs.declared.value.Value.{Value}
use Rattle.ctrl_model.specs.Words.{word_of}
use Rattle.ctrl_model.specs.declared.claims.Reach.{Reach}
use Rattle.ctrl_model.specs.declared.refusals.Field.TheVariants as field
use Rattle.ctrl_model.specs.ValueForms.{is_number, is_value, is_reach, are_numbers}
use Rattle.json_body.specs.FieldKinds.{as_number_in}
use Rattle.body_fields.specs.FieldValues.{as_no}
use Rattle.body_fields.specs.ItemLists.{as_each_of}
use Rattle.body_fields.specs.RouteClaims.{as_numbers, as_value, are_reach_keys, has_reach_keys, router_in, values_in, as_reach, as_potentials}
use Rattle.body_fields.proofs.ItemLaws.{by_mapped, as_each_of-form}
use Rattle.body_fields.proofs.FieldLaws.{number_form}

-- ---- the keys of a potential

-- Whether bytes are a key of a potential.
abbrev pub is_reach_key : List ℕ → Bool
is_reach_key key = bytes_eq key (word_of field.Router) || bytes_eq key (codes "values")

pub are_reach_keys-members_view : (ms : List (String Global × Value)) → list_all (λ k. is_reach_key (string_bytes k)) (map (λ m. m.0) ms) ≡ are_reach_keys (members_view ms)
are_reach_keys-members_view [] = refl
are_reach_keys-members_view (m ∷ ms) = ap (λ b. is_reach_key (string_bytes m.0) && b) (are_reach_keys-members_view ms)

pub has_reach_keys-object : (d : Data) (ms : Members) → Some ms ≡ as_object d → are_reach_keys ms ≡ has_reach_keys d
has_reach_keys-object null ms h = absurd (cc)
has_reach_keys-object (boolean b) ms h = absurd (cc)
has_reach_keys-object (number n) ms h = absurd (cc)
has_reach_keys-object (string s) ms h = absurd (cc)
has_reach_keys-object (array ds) ms h = absurd (cc)
has_reach_keys-object (object ns) ms h = let same : ms ≡ ns = cc in ap are_reach_keys same

-- ---- the form of numbers and potentials

pub as_numbers-form : (most : ℕ) (d : Data) (ns : List ℕ) → as_numbers most d ≡ Some ns → are_numbers most ns ≡ true
as_numbers-form most d ns e =
    as_each_of-form most as_no is_number (number_form 1 4294967295) d ns e (λ few numbers.
    and_from (nat_le (length ns) most) (list_all is_number ns) (le-leb (length ns) most few) numbers)

as_value-form : (d : Data) (n : ℕ) → as_value d ≡ Some n → is_value n ≡ true
as_value-form d n e = by (is_some (as_null d)) e
  where
    small : (b : Bool) → nat_le n 4294967295 ≡ true → (nat_le n 4294967295 || b) ≡ true
    small b h = ap (λ x. x || b) h

    by : (b : Bool) → cond b (Some 18446744073709551615) (as_number_in 0 4294967295 d) ≡ Some n → is_value n ≡ true
    by true e = subst (λ k. is_value k ≡ true) (same_Some 18446744073709551615 n e) refl
    by false e = small (n == 18446744073709551615) (and_parts (nat_le 0 n) (nat_le n 4294967295) (number_form 0 4294967295 d n e)).1

-- What a potential gives: a router's number, and at most 256 values.
reach-form : (n : ℕ) (vs : List ℕ) (d : Data) → router_in d ≡ Some n → values_in d ≡ Some vs → is_reach (record { router = record { 0 = n }; values = vs }) ≡ true
reach-form n vs d is_router are_values =
    option_and_then_some as_no (get (word_of field.Router) d) n is_router (λ r there is_number_there.
    option_and_then_some (as_each_of 256 as_value) (get (codes "values") d) vs are_values (λ w here listed.
    as_each_of-form 256 as_value is_value as_value-form w vs listed (λ few values.
    and_from (is_number n) (nat_le (length vs) 256 && list_all is_value vs) (number_form 1 4294967295 r n is_number_there)
    (and_from (nat_le (length vs) 256) (list_all is_value vs) (le-leb (length vs) 256 few) values))))

as_reach-form : (d : Data) (e : Reach) → as_reach d ≡ Some e → is_reach e ≡ true
as_reach-form d e h = by (has_reach_keys d) h
  where
    by : (b : Bool) → cond b (option_and_then (λ n. option_map (λ vs. record { router = record { 0 = n }; values = vs }) (values_in d)) (router_in d)) None ≡ Some e → is_reach e ≡ true
    by true h =
        option_and_then_some (λ n. option_map (λ vs. record { router = record { 0 = n }; values = vs }) (values_in d)) (router_in d) e h (λ n is more.
        by_mapped (λ vs. record { router = record { 0 = n }; values = vs }) (values_in d) e more (λ vs are same. subst (λ (r : Reach). is_reach r ≡ true) same (reach-form n vs d is are)))
    by false h = absurd (cc)

pub as_potentials-form : {P : Type 0} (d : Data) (es : List Reach) → as_potentials d ≡ Some es → (nat_le (length es) 256 ≡ true → list_all is_reach es ≡ true → P) → P
as_potentials-form d es e k = as_each_of-form 256 as_reach is_reach as_reach-form d es e (λ few reaches. k (le-leb (length es) 256 few) reaches)
