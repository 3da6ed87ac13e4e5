-- Small slots for worked examples.
use Rattle.std.specs.Prelude.{ℕ, ◌-◌, List, [], ◌∷◌, codes, replicate}
use Rattle.attr_pool.specs.AttributeRows.{row_words}
use Rattle.attr_pool.specs.Slots.{Slot, slot_with, free_slot}

-- Red has two uses and blue has one, and two slots are free.
abbrev pub four_slots : List Slot
four_slots = slot_with (codes "red") 2 ∷ free_slot ∷ slot_with (codes "blue") 1 ∷ free_slot ∷ []

-- The same once a use of red and the one of blue went, and one of green came.
abbrev pub later_slots : List Slot
later_slots = slot_with (codes "red") 1 ∷ slot_with (codes "green") 1 ∷ free_slot ∷ free_slot ∷ []

-- Red and blue have changed places.
abbrev pub swapped_slots : List Slot
swapped_slots = slot_with (codes "blue") 1 ∷ free_slot ∷ slot_with (codes "red") 2 ∷ free_slot ∷ []

-- Two lists of names: blue alone, then blue and red.
abbrev pub two_lists : List (List (List ℕ))
two_lists = (codes "blue" ∷ []) ∷ (codes "blue" ∷ codes "red" ∷ []) ∷ []

-- A row of which the first word alone may have bits.
abbrev pub row_from : ℕ → List ℕ
row_from word = word ∷ replicate (row_words - 1) 0
