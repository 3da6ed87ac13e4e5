-- Whole records of a slot, one behind another, and the gate at which they end (docs/FORMATS.md, "Slots").
use Rattle.std.specs.Prelude.{ℕ, zero, suc, ◌+◌, ◌==◌, ◌&&◌, nat_le, cond, List, [], ◌∷◌, ◌++◌, length, take, drop, None, Some}
use Rattle.std.specs.declared.option.Option.{Option}
use Rattle.std.specs.Int.{w32, from_le_bytes}
use Rattle.folder_findings.specs.declared.spans.Gate.{Gate}
use Rattle.folder_findings.specs.declared.spans.Gate.TheVariants.{Closed, Missing, Cut}
use Rattle.folder_findings.specs.declared.spans.Span.{Span}

-- The number that four bytes at the front of some bytes are, the least first.
abbrev pub number_of : List ℕ → ℕ
number_of bytes = from_le_bytes w32 (take 4 bytes)

-- How many bytes the payload has of the record with which some bytes begin, if that is whole: four bytes for the length, and the payload.
abbrev pub record_len : List ℕ → Option ℕ
record_len bytes = cond (nat_le 4 (length bytes) && nat_le (4 + number_of bytes) (length bytes)) (Some (number_of bytes)) None

-- So many records, which end at a place where this stands.
abbrev pub ended : Gate → (at records : ℕ) → Span
ended gate at records = record { records = records; at = at; gate = gate }

-- The records from an open gate at a place on, by the length of the one behind it: none where that is cut, else that one and those that
-- go on behind so many bytes more.
abbrev pub behind_open : Option ℕ → (at records : ℕ) → (ℕ → ℕ → ℕ → Span) → Span
behind_open None at records go_on = ended Cut at records
behind_open (Some n) at records go_on = go_on (4 + n) (at + 1) (records + 1)

-- The records in some bytes that begin at a place, behind so many bytes that are passed over and so many records before.
abbrev pub span_past : List ℕ → (skipped at records : ℕ) → Span
span_past [] skipped at records = ended Missing at records
span_past (byte ∷ bytes) (suc skipped) at records = span_past bytes skipped (at + 1) records
span_past (byte ∷ bytes) zero at records = cond (byte == 1) (behind_open (record_len bytes) at records (span_past bytes)) (ended Closed at records)

-- The records from a gate on.
abbrev pub span_from : (at : ℕ) → List ℕ → Span
span_from at bytes = span_past (drop at bytes) 0 at 0

-- The records from a gate on, if it were open.
abbrev pub span_if_open : (at : ℕ) → List ℕ → Span
span_if_open at bytes = behind_open (record_len (drop (at + 1) bytes)) at 0 (span_past (drop (at + 1) bytes))

-- How many records stand before a gate, where it is closed.
abbrev pub closed_by : Gate → ℕ → ℕ
closed_by Closed records = records
closed_by _ records = 0

-- How many records a closed gate hides: those that a slot would have more if it were open. Without a closed gate it hides none, and none
-- where the records behind it end at no closed one, as old bytes do.
abbrev pub hidden_by : Span → List ℕ → ℕ
hidden_by span bytes = closed_by span.gate (closed_by (span_if_open span.at bytes).gate (span_if_open span.at bytes).records)

-- The bytes with another byte at a place, or one more at their end, as the ways back write it.
abbrev pub with_byte : (at byte : ℕ) → List ℕ → List ℕ
with_byte at byte bytes = take at bytes ++ byte ∷ drop (at + 1) bytes
