-- The slots of attributes in use. A pool is a list of slots; the slot at place 0 has the number 0.
use Rattle.std.specs.Prelude.{◌≡◌, ℕ, ◌+◌, ◌-◌, ◌^◌, ◌<◌, ◌==◌, Bool, true, not, ◌&&◌, cond, List, [], length, get_or, slice_set, Option, Some, None, count_by, position}
use Rattle.std.specs.List.{list_any}
use Rattle.std.specs.Str.{bytes_eq}
use Rattle.ctrl_model.specs.declared.kinds.Kind.TheVariants as kind
use Rattle.ctrl_model.specs.Limits.{limit}

-- A slot: the attribute that it numbers, and how many uses this has. A free slot has no name and no use.
pub record Slot : Type 0 where
  pub name : List ℕ
  pub uses : ℕ

-- A slot with this name and as many uses.
abbrev pub slot_with : List ℕ → ℕ → Slot
slot_with name uses = record { name = name; uses = uses }

-- A slot without a name.
abbrev pub free_slot : Slot
free_slot = slot_with [] 0

-- How many attributes may be in use.
abbrev pub most_slots : ℕ
most_slots = limit kind.Attribute

-- The greatest number of uses that is counted.
abbrev pub most_uses : ℕ
most_uses = 2 ^ 64 - 1

-- Whether a slot is free.
abbrev pub is_free : Slot → Bool
is_free slot = slot.uses == 0

-- Whether a slot holds a name.
abbrev pub holds : List ℕ → Slot → Bool
holds name slot = not (is_free slot) && bytes_eq slot.name name

-- The slot with a number. Past the last one there are no names.
abbrev pub slot_at : List Slot → ℕ → Slot
slot_at slots n = get_or slots n free_slot

-- The number of the slot that holds a name.
abbrev pub slot_of : List ℕ → List Slot → Option ℕ
slot_of name slots = position (holds name) slots

-- The first of two numbers that there is.
abbrev pub or_else : Option ℕ → Option ℕ → Option ℕ
or_else None other = other
or_else (Some n) other = Some n

-- The number that a name has or gets: that of the slot that holds it, or else of the first free one.
abbrev pub number_for : List ℕ → List Slot → Option ℕ
number_for name slots = or_else (slot_of name slots) (position is_free slots)

-- How many names are held.
abbrev pub held_count : List Slot → ℕ
held_count slots = count_by (λ slot. not (is_free slot)) slots

-- A slot with one use more, which is one of this name.
abbrev pub with_use : List ℕ → Slot → Slot
with_use name slot = slot_with name (slot.uses + 1)

-- A slot with one use less. Without a use it is free.
abbrev pub without_use : Slot → Slot
without_use slot = cond (slot.uses == 1) free_slot (slot_with slot.name (slot.uses - 1))

-- The bit of a slot in the row of some names: it is set where the slot holds one of them.
abbrev pub row_bit : List Slot → List (List ℕ) → ℕ → ℕ
row_bit slots names n = cond (list_any (λ name. holds name (slot_at slots n)) names) 1 0

-- One use of a name is added in a slot, its own or else the first free one, and all other slots stay.
pub record Interned (name : List ℕ) (n : ℕ) (old new : List Slot) : Type 0 where
  pub number : number_for name old ≡ Some n
  pub changed : new ≡ slice_set old n (with_use name (slot_at old n))

-- What is so of each pool: there are 4,096 slots, no two of them hold one name, and a slot without a use has no name.
pub record IsPool (slots : List Slot) : Type 0 where
  pub long : length slots ≡ most_slots
  pub apart : (i j : ℕ) → i < length slots → j < length slots → (name : List ℕ) → holds name (slot_at slots i) ≡ true → holds name (slot_at slots j) ≡ true → i ≡ j
  pub free : (i : ℕ) → (slot_at slots i).uses ≡ 0 → slot_at slots i ≡ free_slot
