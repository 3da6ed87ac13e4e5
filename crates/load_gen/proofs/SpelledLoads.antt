-- Some body spells each command of a load.
use Rattle.std.proofs.Common.{◌≡◌, ℕ, ◌+◌, ◌<◌, ◌^◌, ◌==◌, Bool, true, false, not, cond, ◌&&◌, ◌||◌, nat_le, List, [], ◌∷◌, length, codes, refl, ap, arith, le-leb, bytes_eq}
use Rattle.std.proofs.lemmas.Bool.{and_from}
use Rattle.ctrl_model.specs.NameForm.{is_name}
use Rattle.ctrl_model.specs.Matches.{has_name}
use Rattle.ctrl_model.specs.ValueForms.{is_distinct, are_names, are_attributes, is_stored_side, is_side, is_service_relation, is_cost, is_link_cost}
use Rattle.ctrl_model.specs.declared.kinds.Relation.TheVariants.{Dial, Bind}
use Rattle.load_gen.specs.LoadCommands.{numbered, two_attributes, with_attributes}
use Rattle.load_gen.proofs.NumberedNames.{is_name-numbered}

-- ---- names, numbers and lists

pub name_form : (letter : List ℕ) (n : ℕ) → (is_name letter && nat_le (length letter) 10) ≡ true → n < 2 ^ 32 → is_name (numbered letter n) ≡ true
name_form letter n form small = is_name-numbered letter n small form

pub cost_form : (n : ℕ) → n < 200 → is_cost n ≡ true
cost_form n h = and_from (nat_le 0 n) (nat_le n 65535) (le-leb 0 n (omega arith)) (le-leb n 65535 (omega arith))

pub link_cost_form : (n : ℕ) → n < 100 → is_link_cost (1 + n) ≡ true
link_cost_form n h = and_from (nat_le 1 (1 + n)) (nat_le (1 + n) 65535) (le-leb 1 (1 + n) (omega arith)) (le-leb (1 + n) 65535 (omega arith))

one_name : (x : List ℕ) → is_name x ≡ true → are_names (x ∷ []) ≡ true
one_name x h = and_from (is_name x && true) (not false && true) (and_from (is_name x) true h refl) refl

two_names : (g h : ℕ) → g < 2 ^ 32 → h < 2 ^ 32 → are_names (two_attributes g h) ≡ true
two_names g h small few =
    let x = numbered (codes "g") g in
    let y = numbered (codes "h") h in
    and_from (is_name x && (is_name y && true)) (is_distinct (two_attributes g h))
    (and_from (is_name x) (is_name y && true) (name_form (codes "g") g refl small) (and_from (is_name y) true (name_form (codes "h") h refl few) refl)) refl

pub one_form : (x : List ℕ) → is_name x ≡ true → are_attributes (x ∷ []) ≡ true
one_form x h = and_from (nat_le 1 64) (are_names (x ∷ [])) refl (one_name x h)

pub two_form : (g h : ℕ) → g < 2 ^ 32 → h < 2 ^ 32 → are_attributes (two_attributes g h) ≡ true
two_form g h small few = and_from (nat_le 2 64) (are_names (two_attributes g h)) refl (two_names g h small few)

-- A side of one attribute that is not named all.
pub one_side : (x : List ℕ) → is_name x ≡ true → bytes_eq x (codes "all") ≡ false → is_side (with_attributes (x ∷ [])) ≡ true
one_side x h other =
    and_from (is_stored_side (with_attributes (x ∷ []))) (not (has_name (x ∷ []) (codes "all")))
    (and_from true (nat_le 1 64 && (are_names [] && are_names (x ∷ []))) refl
    (and_from (nat_le 1 64) (are_names [] && are_names (x ∷ [])) refl (and_from (are_names []) (are_names (x ∷ [])) refl (one_name x h))))
    (ap (λ b. not (b || false)) other)

pub two_side : (g h : ℕ) → g < 2 ^ 32 → h < 2 ^ 32 → is_side (with_attributes (two_attributes g h)) ≡ true
two_side g h small few =
    and_from (is_stored_side (with_attributes (two_attributes g h))) (not (has_name (two_attributes g h) (codes "all")))
    (and_from true (nat_le 2 64 && (are_names [] && are_names (two_attributes g h))) refl
    (and_from (nat_le 2 64) (are_names [] && are_names (two_attributes g h)) refl
    (and_from (are_names []) (are_names (two_attributes g h)) refl (two_names g h small few)))) refl

pub relation_form : (drawn : ℕ) → is_service_relation (cond (drawn == 0) Bind Dial) ≡ true
relation_form drawn = by (drawn == 0)
  where
    by : (b : Bool) → is_service_relation (cond b Bind Dial) ≡ true
    by true = refl
    by false = refl

-- ---- some tests that all hold

pub both_hold : (a b : Bool) → a ≡ true → b ≡ true → (a && b) ≡ true
both_hold a b p q = and_from a b p q
