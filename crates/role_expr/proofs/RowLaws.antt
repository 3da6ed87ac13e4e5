-- Whether attributes are had is told by the rows of bits of those that are wanted and of those that are had.
use Rattle.std.proofs.Common.{◌≡◌, ℕ, ◌*◌, ◌<◌, get_or, ◌↔◌, Bool, true, false, cond, List, [], length, Option, Some, None, IsSome, is_some, refl, sym, ◌∙◌, ap, subst, arith, bytes_eq, IsTrue}
use Rattle.std.proofs.lemmas.Bool.{false≢true}
use Rattle.std.specs.List.{list_any, list_all}
use Rattle.bit_lanes.specs.Lanes.{bit_of, bit_row, AllIn, AnyIn}
use Rattle.ctrl_model.specs.Matches.{has_name}
use Rattle.ctrl_model.specs.Membership.{Among}
use Rattle.ctrl_model.proofs.DistinctLaws.{same_name, same_bytes}
use Rattle.ctrl_model.proofs.Members.{list_all-among, list_all-from_among, by_list_any, list_any-from_among}
use Rattle.attr_pool.specs.AttributeRows.{row_words, AreRows}
use Rattle.attr_pool.specs.Slots.{Slot, holds, slot_at, slot_of, row_bit}
use Rattle.attr_pool.proofs.SlotLemmas.{held_name, number_within}

-- two tests that each follow from the other are one
pub same_test : (a b : Bool) → (a ≡ true → b ≡ true) → (b ≡ true → a ≡ true) → a ≡ b
same_test true b f g = sym (f refl)
same_test false true f g = absurd (false≢true (g refl))
same_test false false f g = refl

abbrev one : ℕ
one = 1

pub by_bit : {P : Type 0} (slots : List Slot) (names : List (List ℕ)) (n : ℕ) → row_bit slots names n ≡ one → ((name : List ℕ) → Among name names → holds name (slot_at slots n) ≡ true → P) → P
by_bit {P} slots names n e k = by (list_any (λ name. holds name (slot_at slots n)) names) refl e
  where
    by : (b : Bool) → list_any (λ name. holds name (slot_at slots n)) names ≡ b → cond b 1 0 ≡ one → P
    by true is h = by_list_any (λ name. holds name (slot_at slots n)) names is k
    by false is h = absurd (omega (arith, h))

bit_from : (slots : List Slot) (names : List (List ℕ)) (n : ℕ) (name : List ℕ) → Among name names → holds name (slot_at slots n) ≡ true → row_bit slots names n ≡ one
bit_from slots names n name among h = ap (λ b. cond b 1 0) (list_any-from_among (λ m. holds m (slot_at slots n)) names name among h)

module _ (slots : List Slot) (had wanted : List (List ℕ)) (held : (name : List ℕ) → Among name had → IsSome (slot_of name slots)) where
  by_slot : {P : Type 0} (name : List ℕ) → IsSome (slot_of name slots) → ((n : ℕ) → holds name (slot_at slots n) ≡ true → P) → P
  by_slot {P} name some k = by (slot_of name slots) refl some
    where
      by : (o : Option ℕ) → slot_of name slots ≡ o → IsSome o → P
      by None e s = absurd (false≢true s)
      by (Some n) e s = k n (number_within name slots n e).1

  -- names that one slot holds are one
  one_name : (n : ℕ) (a b : List ℕ) → holds a (slot_at slots n) ≡ true → holds b (slot_at slots n) ≡ true → a ≡ b
  one_name n a b x y = sym (held_name a (slot_at slots n) x) ∙ held_name b (slot_at slots n) y

  had_from : (a b : List ℕ) → Among a had → a ≡ b → has_name had b ≡ true
  had_from a b among e = list_any-from_among (λ m. bytes_eq m b) had a among (same_bytes a b e)

  by_had : {P : Type 0} (b : List ℕ) → has_name had b ≡ true → (Among b had → P) → P
  by_had b h k = by_list_any (λ m. bytes_eq m b) had h (λ a among e. k (subst (λ x. Among x had) (same_name a b e) among))

  -- where all are had, the pool holds each
  pub had_are_held : list_all (has_name had) wanted ≡ true → list_all (λ name. is_some (slot_of name slots)) wanted ≡ true
  had_are_held h = list_all-from_among (λ name. is_some (slot_of name slots)) wanted (λ b among_b.
      by_had b (list_all-among (has_name had) wanted b h among_b) (λ among. held b among))

  module _ (row want : List ℕ) (row_is : (n : ℕ) → bit_of row n ≡ row_bit slots had n) (want_is : (n : ℕ) → bit_of want n ≡ row_bit slots wanted n) where
    pub any_told : AnyIn row want ↔ (list_any (has_name had) wanted ≡ true)
    any_told = (to, from)
      where
        to : AnyIn row want → list_any (has_name had) wanted ≡ true
        to h =
            by_bit slots had h.0 (sym (row_is h.0) ∙ h.1) (λ a among_a x.
            by_bit slots wanted h.0 (sym (want_is h.0) ∙ h.2) (λ b among_b y.
            list_any-from_among (has_name had) wanted b among_b (had_from a b among_a (one_name h.0 a b x y))))

        from : list_any (has_name had) wanted ≡ true → AnyIn row want
        from h =
            by_list_any (has_name had) wanted h (λ b among_b e. by_had b e (λ among. by_slot b (held b among) (λ n x.
            (n, row_is n ∙ bit_from slots had n b among x, want_is n ∙ bit_from slots wanted n b among_b x))))

    pub all_told : ((b : List ℕ) → Among b wanted → IsSome (slot_of b slots)) → AllIn row want ↔ (list_all (has_name had) wanted ≡ true)
    all_told wanted_held = (to, from)
      where
        to : AllIn row want → list_all (has_name had) wanted ≡ true
        to h = list_all-from_among (has_name had) wanted (λ b among_b.
            by_slot b (wanted_held b among_b) (λ n y.
            by_bit slots had n (sym (row_is n) ∙ h n (want_is n ∙ bit_from slots wanted n b among_b y)) (λ a among_a x.
            had_from a b among_a (one_name n a b x y))))

        from : list_all (has_name had) wanted ≡ true → AllIn row want
        from h n e =
            by_bit slots wanted n (sym (want_is n) ∙ e) (λ b among_b y.
            by_had b (list_all-among (has_name had) wanted b h among_b) (λ among. row_is n ∙ bit_from slots had n b among y))

-- ---- what the rows of some lists tell of the list at a place

module _ (slots : List Slot) (lists : List (List (List ℕ))) (words : List ℕ) (rows : AreRows slots lists words) (count place : ℕ) (long : length words ≡ row_words * count) (inside : place < count) (wanted : List (List ℕ)) where
  abbrev had_at : List (List ℕ)
  had_at = get_or lists place []

  within : place < length lists
  within = let whole = rows.long in omega (arith, whole, long, inside)

  module _ (want : List ℕ) (want_is : (n : ℕ) → bit_of want n ≡ row_bit slots wanted n) (mark : Bool) where
    pub any_marked : IsTrue mark ↔ AnyIn (bit_row words row_words place) want → mark ≡ list_any (has_name had_at) wanted
    any_marked told =
        let rule = any_told slots had_at wanted (rows.held place within) (bit_row words row_words place) want (rows.bits place within) want_is in
        same_test mark (list_any (has_name had_at) wanted) (λ e. rule.0 (told.0 e)) (λ e. told.1 (rule.1 e))

    pub every_marked : list_all (λ name. is_some (slot_of name slots)) wanted ≡ true → IsTrue mark ↔ AllIn (bit_row words row_words place) want → mark ≡ list_all (has_name had_at) wanted
    every_marked held told =
        let rule = all_told slots had_at wanted (rows.held place within) (bit_row words row_words place) want (rows.bits place within) want_is (λ b among. list_all-among (λ name. is_some (slot_of name slots)) wanted b held among) in
        same_test mark (list_all (has_name had_at) wanted) (λ e. rule.0 (told.0 e)) (λ e. told.1 (rule.1 e))

  -- where the pool lacks one, not all are had
  pub none_marked : list_all (λ name. is_some (slot_of name slots)) wanted ≡ false → list_all (has_name had_at) wanted ≡ false
  none_marked lacks = same_test (list_all (has_name had_at) wanted) false
      (λ e. absurd (false≢true (sym lacks ∙ had_are_held slots had_at wanted (rows.held place within) e)))
      (λ e. absurd (false≢true e))
