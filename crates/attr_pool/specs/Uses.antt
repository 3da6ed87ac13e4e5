-- How often names are used: how often one stands in a list, how many uses slots count of it, and whether names can still be held.
use Rattle.std.specs.Prelude.{◌≡◌, ℕ, ◌+◌, ◌<◌, ◌≤◌, nat_lt, nat_le, not, Bool, cond, List, ◌++◌, map, filter, count_by}
use Rattle.std.specs.List.{sum_by, list_all}
use Rattle.std.specs.Set.{distinct_count}
use Rattle.std.specs.Str.{bytes_eq}
use Rattle.attr_pool.specs.Slots.{Slot, is_free, holds, slot_at, most_slots, most_uses}

-- How often a name stands in a list.
abbrev pub times : List ℕ → List (List ℕ) → ℕ
times name names = count_by (λ n. bytes_eq n name) names

-- The uses of a name that slots count.
abbrev pub uses_of : List ℕ → List Slot → ℕ
uses_of name slots = sum_by (λ slot. cond (bytes_eq slot.name name) slot.uses 0) slots

-- The names that slots hold.
abbrev pub held_names : List Slot → List (List ℕ)
held_names slots = map (λ slot. slot.name) (filter (λ slot. not (is_free slot)) slots)

-- Whether a name would be held once the uses of some names are taken away and some are added.
abbrev pub stays_held : List Slot → List (List ℕ) → List (List ℕ) → List ℕ → Bool
stays_held slots gone fresh name = nat_lt (times name gone) (uses_of name slots + times name fresh)

-- Whether there would be a slot for each name that is held then.
abbrev pub has_slots : List Slot → List (List ℕ) → List (List ℕ) → Bool
has_slots slots gone fresh = nat_le (distinct_count bytes_eq (filter (stays_held slots gone fresh) (held_names slots ++ fresh))) most_slots

-- Each of these names has as many uses as it stands among them.
abbrev pub AreInUse : List Slot → List (List ℕ) → Type 0
AreInUse slots names = (name : List ℕ) → times name names ≤ uses_of name slots

-- Whether a use more of each of these names can be counted.
abbrev pub can_be_counted : List Slot → List (List ℕ) → Bool
can_be_counted slots names = list_all (λ name. nat_le (uses_of name slots + times name names) most_uses) names

-- A name that has uses before and after a change is held by the same slot.
abbrev pub KeepsSlots : List Slot → List Slot → Type 0
KeepsSlots old new = (name : List ℕ) → 0 < uses_of name old → 0 < uses_of name new → (n : ℕ) → holds name (slot_at new n) ≡ holds name (slot_at old n)
