-- Rows of bits behind each other, as one list of words.
use Rattle.std.specs.Prelude.{◌≡◌, ℕ, ◌*◌, ◌/◌, ◌<◌, List, [], IsSome, length, get_or}
use Rattle.bit_lanes.specs.Lanes.{bit_of, bit_row}
use Rattle.ctrl_model.specs.Membership.{Among}
use Rattle.attr_pool.specs.Slots.{Slot, most_slots, slot_of, row_bit}

-- How many words a row has: one bit for each slot.
abbrev pub row_words : ℕ
row_words = most_slots / 64

-- Words are the rows of some lists of names, one behind the other: each of the names is held, each list has its words, and in its row
-- exactly the bits of the slots that hold one of its names are set.
pub record AreRows (slots : List Slot) (lists : List (List (List ℕ))) (words : List ℕ) : Type 0 where
  pub held : (place : ℕ) → place < length lists → (name : List ℕ) → Among name (get_or lists place []) → IsSome (slot_of name slots)
  pub long : length words ≡ row_words * length lists
  pub bits : (place : ℕ) → place < length lists → (n : ℕ) → bit_of (bit_row words row_words place) n ≡ row_bit slots (get_or lists place []) n
