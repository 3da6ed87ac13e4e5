-- The bytes of one slot: a header, records behind open gates, and a closed gate (docs/FORMATS.md, "Slots").
use Rattle.std.specs.Prelude.{◌≡◌, ◌≢◌, ◌⊎◌, ℕ, ◌+◌, ◌-◌, ◌^◌, ◌<◌, List, [], ◌∷◌, ◌++◌, length, take, drop, None, Some}
use Rattle.std.specs.declared.option.Option.{Option}
use Rattle.std.specs.Int.{w32, to_le_bytes}
use Rattle.std.specs.List.{AllByRecursion}
use Rattle.ctrl_model.specs.declared.formats.Format.{Format}
use Rattle.ctrl_model.specs.declared.formats.Format.TheVariants.{One, Two}

-- The number of a format.
abbrev pub format_number : Format → ℕ
format_number One = 1
format_number Two = 2

-- The eight bytes with which a slot of a format begins: `ZCTL`, the number of the format, and zeros.
abbrev pub header : Format → List ℕ
header format = 90 ∷ 67 ∷ 84 ∷ 76 ∷ format_number format ∷ 0 ∷ 0 ∷ 0 ∷ []

-- A record: the payload's length as four bytes, the least first, and the payload.
abbrev pub record_of : List ℕ → List ℕ
record_of payload = to_le_bytes w32 (length payload) ++ payload

-- Records in order, each behind an open gate.
abbrev pub records_of : List (List ℕ) → List ℕ
records_of [] = []
records_of (payload ∷ payloads) = 1 ∷ (record_of payload ++ records_of payloads)

-- A payload whose length fits four bytes.
abbrev pub IsPayload : List ℕ → Type 0
IsPayload payload = length payload < 2 ^ 32

-- The bytes are a slot of a format that stands for these payloads: the header, their records behind open gates, and a closed gate. What
-- follows the closed gate is no part of the slot.
pub record Slot (format : Format) (bytes : List ℕ) (payloads : List (List ℕ)) : Type 0 where
  pub gate : ℕ
  pub more : List ℕ
  pub split : bytes ≡ header format ++ (records_of payloads ++ gate ∷ more)
  pub closed : gate ≢ 1
  pub short : AllByRecursion IsPayload payloads

-- A gate that is not open stands at this place.
pub record IsClosed (at : ℕ) (bytes : List ℕ) : Type 0 where
  pub front : List ℕ
  pub gate : ℕ
  pub more : List ℕ
  pub split : bytes ≡ front ++ gate ∷ more
  pub place : length front ≡ at
  pub closed : gate ≢ 1

-- An open gate stands at this place, with a whole record of this payload behind it.
pub record IsRecord (at : ℕ) (payload bytes : List ℕ) : Type 0 where
  pub front : List ℕ
  pub more : List ℕ
  pub split : bytes ≡ front ++ 1 ∷ (record_of payload ++ more)
  pub place : length front ≡ at
  pub short : IsPayload payload

-- No gate stands at this place, or it is open and its record passes the end of the bytes.
pub record IsDamaged (at : ℕ) (bytes : List ℕ) : Type 0 where
  pub not_closed : IsClosed at bytes → ⊥
  pub no_record : (payload : List ℕ) → IsRecord at payload bytes → ⊥

-- What the gate at a place gives: nothing where it is closed, and the payload of the record behind it where it is open.
abbrev pub GateGives : ℕ → List ℕ → Option (List ℕ) → Type 0
GateGives at bytes None = IsClosed at bytes
GateGives at bytes (Some payload) = IsRecord at payload bytes

-- What is written behind a gate: a record and a closed gate.
abbrev pub text_of : List ℕ → List ℕ
text_of payload = record_of payload ++ 0 ∷ []

-- The payload in what is written behind a gate.
abbrev pub payload_in : List ℕ → List ℕ
payload_in text = take (length text - 5) (drop 4 text)

-- The bytes after the gate at a place was opened over a text that was written behind it.
abbrev pub added : ℕ → List ℕ → List ℕ → List ℕ
added at text old = take at old ++ 1 ∷ (text ++ drop (at + 1 + length text) old)

-- The bytes before a place stay, and the gate at it is not open.
pub record Shut (at : ℕ) (old new : List ℕ) : Type 0 where
  pub gate : ℕ
  pub more : List ℕ
  pub split : new ≡ take at old ++ gate ∷ more
  pub closed : gate ≢ 1

-- Nothing was added at a place, or a text was, whole.
abbrev pub ShutOrAdded : ℕ → List ℕ → List ℕ → List ℕ → Type 0
ShutOrAdded at text old new = Shut at old new ⊎ (new ≡ added at text old)

-- The place of the gate that closes a slot of these payloads.
abbrev pub slot_end : List (List ℕ) → ℕ
slot_end payloads = 8 + length (records_of payloads)

-- The bytes of a slot of a format that was created and to which these payloads were appended.
abbrev pub slot_bytes : Format → List (List ℕ) → List ℕ
slot_bytes format payloads = header format ++ (records_of payloads ++ 0 ∷ [])

-- The bytes begin as a slot of a format with these payloads does, whatever stands at the gate behind them.
pub record SlotFront (format : Format) (bytes : List ℕ) (payloads : List (List ℕ)) : Type 0 where
  pub more : List ℕ
  pub split : bytes ≡ header format ++ (records_of payloads ++ more)
  pub short : AllByRecursion IsPayload payloads
