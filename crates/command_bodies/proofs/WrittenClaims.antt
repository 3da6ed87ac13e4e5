-- The numbers and the potentials of a claimed route are read as they were written.
use Rattle.std.proofs.Common.{◌≡◌, ℕ, ◌==◌, nat_le, Bool, true, false, cond, ◌&&◌, ◌||◌, List, length, map, Some, refl, sym, ap, ◌∙◌, eqb-true}
use Rattle.std.specs.Prelude.{option_map, option_and_then}
use Rattle.std.specs.List.{list_all}
use Rattle.std.proofs.lemmas.Bool.{and_parts}
use Rattle.serde_json.specs.Data.{null, array}
use Rattle.serde_json.specs.View.{items_of}
use Rattle.ctrl_model.specs.Claims.{no_path}
use Rattle.ctrl_model.specs.ValueForms.{is_number, is_value, is_reach, are_numbers}
use Rattle.ctrl_model.specs.declared.claims.Reach.{Reach}
use Rattle.command_bodies.specs.WrittenFields.{natural, value_or_null, potential, list_of}
use Rattle.body_fields.specs.FieldValues.{as_no}
use Rattle.body_fields.specs.ItemLists.{as_each_of}
use Rattle.body_fields.specs.RouteClaims.{as_numbers, as_value, as_reach, as_potentials}
use Rattle.command_bodies.proofs.WrittenKinds.{number_read, from_zero, list_read}

pub numbers_read : (most : ℕ) (ns : List ℕ) → are_numbers most ns ≡ true → as_numbers most (list_of natural ns) ≡ Some ns
numbers_read most ns h =
    let p = and_parts (nat_le (length ns) most) (list_all is_number ns) h in
    list_read most as_no natural is_number (number_read 1 4294967295) ns p.0 p.1

value_read : (n : ℕ) → is_value n ≡ true → as_value (value_or_null n) ≡ Some n
value_read n h = by (n == no_path) refl h
  where
    by : (b : Bool) → (n == no_path) ≡ b → (nat_le n 4294967295 || b) ≡ true → as_value (cond b null (natural n)) ≡ Some n
    by true is h = ap (λ m. Some m) (sym (eqb-true n no_path is))
    by false is h = number_read 0 4294967295 n (from_zero 4294967295 n (small (nat_le n 4294967295) h))
      where
        small : (c : Bool) → (c || false) ≡ true → c ≡ true
        small true h = refl
        small false h = h

reach_read : (e : Reach) → is_reach e ≡ true → as_reach (potential e) ≡ Some e
reach_read e h =
    let p = and_parts (is_number e.router.0) (nat_le (length e.values) 256 && list_all is_value e.values) h in
    let q = and_parts (nat_le (length e.values) 256) (list_all is_value e.values) p.1 in
    ap (λ o. option_and_then (λ n. option_map (λ vs. record { router = record { 0 = n }; values = vs }) (as_each_of 256 as_value (array (items_of (map value_or_null e.values))))) o)
    (number_read 1 4294967295 e.router.0 p.0)
    ∙ ap (option_map (λ vs. record { router = record { 0 = e.router.0 }; values = vs })) (list_read 256 as_value value_or_null is_value value_read e.values q.0 q.1)

pub potentials_read : (es : List Reach) → nat_le (length es) 256 ≡ true → list_all is_reach es ≡ true → as_potentials (list_of potential es) ≡ Some es
potentials_read es few all = list_read 256 as_reach potential is_reach reach_read es few all
