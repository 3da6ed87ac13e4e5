-- How a slot is found by its name: the slots that hold names stand in chains, each in one that its name tells, ascending, and links
-- lead along them. Only private functions and proofs of this crate cite this file.
use Rattle.std.specs.Prelude.{◌≡◌, ℕ, zero, suc, ◌+◌, ◌*◌, ◌%◌, ◌<◌, ◌≤◌, ◌==◌, ◌&&◌, not, Bool, true, false, List, length, get_or}
use Rattle.std.specs.List.{fold}
use Rattle.attr_pool.specs.Slots.{Slot, is_free, slot_at, held_count, most_slots}

-- The chain of a name. There are as many chains as slots.
abbrev pub chain_of : List ℕ → ℕ
chain_of name = fold (λ chain byte. (chain * 31 + byte) % most_slots) 0 name

-- Whether a slot stands in a chain.
abbrev pub in_chain : ℕ → Slot → Bool
in_chain chain slot = not (is_free slot) && (chain_of slot.name == chain)

-- Where the link stands that leads from a number on: those of the chains stand first, and behind them one for each slot, which
-- leads on from behind it.
abbrev pub link_place : ℕ → ℕ → ℕ
link_place chain zero = chain
link_place chain (suc number) = most_slots + number

-- Whether a chain has a link from a number on: it has one from its start on, and one from behind each of its slots on.
abbrev pub has_link : List Slot → ℕ → ℕ → Bool
has_link slots chain zero = true
has_link slots chain (suc number) = in_chain chain (slot_at slots number)

-- The first slot of a chain from a number on, or the number of slots where there is none.
pub record IsNext (slots : List Slot) (chain from next : ℕ) : Type 0 where
  pub behind : from ≤ next
  pub within : next ≤ length slots
  pub there : next < length slots → in_chain chain (slot_at slots next) ≡ true
  pub first : (n : ℕ) → from ≤ n → n < next → in_chain chain (slot_at slots n) ≡ false

-- Each link of a chain leads to its next slot.
pub record AreLinked (slots : List Slot) (links : List ℕ) : Type 0 where
  pub slots_long : length slots ≡ most_slots
  pub links_long : length links ≡ most_slots + most_slots
  pub next : (chain from : ℕ) → chain < most_slots → has_link slots chain from ≡ true → IsNext slots chain from (get_or links (link_place chain from) 0)

-- A place of a link of a chain that leads from a number on, which is at most this one.
pub record IsLinkTo (slots : List Slot) (chain number place : ℕ) : Type 0 where
  pub from : ℕ
  pub here : place ≡ link_place chain from
  pub link : has_link slots chain from ≡ true
  pub before : from ≤ number

-- What is kept beside the slots: the links of the chains, how many slots are held, and a number below which none is free.
pub record AreFound (slots : List Slot) (links : List ℕ) (held first : ℕ) : Type 0 where
  pub linked : AreLinked slots links
  pub count : held ≡ held_count slots
  pub within : first ≤ most_slots
  pub low : (n : ℕ) → n < first → is_free (slot_at slots n) ≡ false
