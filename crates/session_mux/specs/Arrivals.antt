-- A trace read as records (docs/FORMATS.md, "Traces and tagged replies"). The reading is given twice: as a relation on whole
-- inputs (`ReadsRecords`), and as functions that compute it; a law says that they are one.
use Rattle.std.specs.Prelude.{◌≡◌, ℕ, zero, suc, ◌+◌, ◌-◌, ◌<◌, ◌≤◌, ◌==◌, nat_lt, Bool, true, false, ◌||◌, if◌then◌else◌, List, [], ◌∷◌, ◌++◌, length, take, drop, set, get_or, replicate, slice_index, None, Some, ⊤}
use Rattle.std.specs.declared.option.Option.{Option}
use Rattle.std.specs.Int.{w16, to_le_bytes, from_le_bytes}
use Rattle.std.specs.List.{flat_map}
use Rattle.ctrl_model.specs.declared.kinds.Who.{Who}
use Rattle.ctrl_model.specs.declared.kinds.Who.TheVariants.{Admin, Router, Identity}
use Rattle.ctrl_model.specs.NameForm.{is_name}
use Rattle.session_mux.specs.declared.sessions.Stage.{Stage}
use Rattle.session_mux.specs.declared.sessions.Stage.TheVariants.{Unopened, Opened, Closed}

-- How many session numbers there are.
abbrev pub session_numbers : ℕ
session_numbers = 256

-- The most bytes that one data record brings.
abbrev pub most_data : ℕ
most_data = 65535

-- What a record of a trace says: a session is opened by someone, bytes of a session come, or a session is closed.
pub data Arrival : Type 0 where
  Open : ℕ → Who → Arrival
  Data : ℕ → List ℕ → Arrival
  Close : ℕ → Arrival

-- ---- how a record is spelled

-- The byte of a role.
abbrev pub role_byte : Who → ℕ
role_byte Admin = 0
role_byte (Router name) = 1
role_byte (Identity name) = 2

-- The name that a role has; an administrator has none.
abbrev pub name_bytes : Who → List ℕ
name_bytes Admin = []
name_bytes (Router name) = name
name_bytes (Identity name) = name

-- The bytes of a record: its kind, its session, and what its kind has.
abbrev pub record_bytes : Arrival → List ℕ
record_bytes (Open s who) = 1 ∷ s ∷ role_byte who ∷ length (name_bytes who) ∷ name_bytes who
record_bytes (Data s bytes) = 2 ∷ s ∷ (to_le_bytes w16 (length bytes) ++ bytes)
record_bytes (Close s) = 3 ∷ s ∷ []

-- ---- which record may follow which

-- A trace starts with no session opened.
abbrev pub no_sessions : List Stage
no_sessions = replicate session_numbers Unopened

-- The stage of a session number.
abbrev pub stage_at : List Stage → ℕ → Stage
stage_at stages s = get_or stages s Unopened

-- The stages once a record was read.
abbrev pub stages_after : Arrival → List Stage → List Stage
stages_after (Open s who) stages = set stages s Opened
stages_after (Data s bytes) stages = stages
stages_after (Close s) stages = set stages s Closed

-- The stages once some records were read.
abbrev pub stages_along : List Stage → List Arrival → List Stage
stages_along stages [] = stages
stages_along stages (a ∷ arrivals) = stages_along (stages_after a stages) arrivals

-- A role with a name has one by the grammar of names.
abbrev pub IsRole : Who → Type 0
IsRole Admin = ⊤
IsRole (Router name) = is_name name ≡ true
IsRole (Identity name) = is_name name ≡ true

-- A record that may come at these stages: a session number is opened once, and data and the close are of an open session.
abbrev pub IsAllowed : List Stage → Arrival → Type 0
IsAllowed stages (Open s who) = (s < session_numbers) × IsRole who × (stage_at stages s ≡ Unopened)
IsAllowed stages (Data s bytes) = (s < session_numbers) × (length bytes ≤ most_data) × (stage_at stages s ≡ Opened)
IsAllowed stages (Close s) = (s < session_numbers) × (stage_at stages s ≡ Opened)

-- Records each of which may come after those before it.
abbrev pub AreAllowed : List Stage → List Arrival → Type 0
AreAllowed stages [] = ⊤
AreAllowed stages (a ∷ arrivals) = IsAllowed stages a × AreAllowed (stages_after a stages) arrivals

-- A tail: no record that may come is spelled at its front.
abbrev pub IsRecordTail : List Stage → List ℕ → Type 0
IsRecordTail stages tail = (a : Arrival) (more : List ℕ) → IsAllowed stages a → tail ≡ record_bytes a ++ more → ⊥

-- The input is the spellings of these records in order, each of which may come where it stands, followed by this tail.
pub record ReadsRecords (stages : List Stage) (input : List ℕ) (arrivals : List Arrival) (tail : List ℕ) : Type 0 where
  pub text : input ≡ flat_map record_bytes arrivals ++ tail
  pub each : AreAllowed stages arrivals
  pub tail_is : IsRecordTail (stages_along stages arrivals) tail

-- ---- what stands at the front of some bytes

-- An unfinished record, a bad one, or a whole one with how many bytes it takes.
pub data RecordFront : Type 0 where
  Unfinished : RecordFront
  Bad : RecordFront
  Whole : Arrival → ℕ → RecordFront

-- The role that a role byte and the bytes of a name say, if they say one.
abbrev pub role_at : ℕ → List ℕ → Option Who
role_at role name =
    if role == 0 then (if length name == 0 then Some Admin else None)
    else (if role == 1 then (if is_name name then Some (Router name) else None)
    else (if role == 2 then (if is_name name then Some (Identity name) else None) else None))

-- An open of a session whose number was not opened before, by a role.
abbrev pub opening : Stage → ℕ → Option Who → ℕ → RecordFront
opening Unopened s (Some who) n = Whole (Open s who) n
opening Unopened s None n = Bad
opening Opened s who n = Bad
opening Closed s who n = Bad

-- Data or a close of a session that is open.
abbrev pub within : Stage → Arrival → ℕ → RecordFront
within Unopened a n = Bad
within Opened a n = Whole a n
within Closed a n = Bad

-- How many bytes a data record brings.
abbrev pub data_len : List ℕ → ℕ
data_len bytes = from_le_bytes w16 (slice_index bytes 2 ∷ slice_index bytes 3 ∷ [])

-- An open: the session, the role, the length of the name, and the name.
abbrev pub open_at : List Stage → List ℕ → RecordFront
open_at stages bytes =
    if nat_lt (length bytes) 4 || nat_lt (length bytes) (4 + slice_index bytes 3)
    then Unfinished
    else opening (stage_at stages (slice_index bytes 1)) (slice_index bytes 1) (role_at (slice_index bytes 2) (take (slice_index bytes 3) (drop 4 bytes))) (4 + slice_index bytes 3)

-- Data: the session, the length of the bytes, and the bytes.
abbrev pub data_at : List Stage → List ℕ → RecordFront
data_at stages bytes =
    if nat_lt (length bytes) 4 || nat_lt (length bytes) (4 + data_len bytes)
    then Unfinished
    else within (stage_at stages (slice_index bytes 1)) (Data (slice_index bytes 1) (take (data_len bytes) (drop 4 bytes))) (4 + data_len bytes)

-- A close: the session.
abbrev pub close_at : List Stage → List ℕ → RecordFront
close_at stages bytes =
    if nat_lt (length bytes) 2 then Unfinished else within (stage_at stages (slice_index bytes 1)) (Close (slice_index bytes 1)) 2

-- What stands at the front of some bytes, judged by the records before them. A kind that is none is bad as soon as it is there;
-- any other record is unfinished until it is whole.
abbrev pub record_front : List Stage → List ℕ → RecordFront
record_front stages bytes =
    if length bytes == 0 then Unfinished
    else (if slice_index bytes 0 == 1 then open_at stages bytes
    else (if slice_index bytes 0 == 2 then data_at stages bytes
    else (if slice_index bytes 0 == 3 then close_at stages bytes else Bad)))

-- ---- the records of an input

-- A whole record, and what is read behind it.
abbrev pub and_then_records : List Stage → RecordFront → (List Stage → ℕ → List Arrival) → List Arrival
and_then_records stages Unfinished rest = []
and_then_records stages Bad rest = []
and_then_records stages (Whole a n) rest = a ∷ rest (stages_after a stages) (n - 1)

-- The records of some bytes, once so many bytes of them are passed over.
abbrev pub records_past : List ℕ → List Stage → ℕ → List Arrival
records_past [] stages n = []
records_past (b ∷ bytes) stages (suc n) = records_past bytes stages n
records_past (b ∷ bytes) stages zero = and_then_records stages (record_front stages (b ∷ bytes)) (records_past bytes)

-- The records that an input is read as, from these stages on.
abbrev pub records_of : List Stage → List ℕ → List Arrival
records_of stages input = records_past input stages 0

-- The tail from a place on where no record stands, or what comes behind the record there.
abbrev pub and_then_tail : List ℕ → List Stage → RecordFront → (List Stage → ℕ → List ℕ) → List ℕ
and_then_tail bytes stages Unfinished rest = bytes
and_then_tail bytes stages Bad rest = bytes
and_then_tail bytes stages (Whole a n) rest = rest (stages_after a stages) (n - 1)

-- The tail of some bytes, once so many bytes of them are passed over.
abbrev pub tail_past : List ℕ → List Stage → ℕ → List ℕ
tail_past [] stages n = []
tail_past (b ∷ bytes) stages (suc n) = tail_past bytes stages n
tail_past (b ∷ bytes) stages zero = and_then_tail (b ∷ bytes) stages (record_front stages (b ∷ bytes)) (tail_past bytes)

-- The tail that is left of an input behind its records.
abbrev pub tail_of : List Stage → List ℕ → List ℕ
tail_of stages input = tail_past input stages 0

-- Whether a tail begins with a bad record.
abbrev pub is_bad : RecordFront → Bool
is_bad Unfinished = false
is_bad Bad = true
is_bad (Whole a n) = false
