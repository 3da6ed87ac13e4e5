-- A leader's history, what is shipped of it, and a copy that is some state of it (docs/RULES.md, "Following").
use Rattle.std.specs.Prelude.{◌≡◌, ⊤, ℕ, zero, suc, ◌+◌, ◌<◌, ◌≤◌, List, [], ◌∷◌, None, Some}
use Rattle.std.specs.declared.option.Option.{Option}
use Rattle.std.specs.Option.{option_map_or}
use Rattle.ctrl_model.specs.declared.formats.Format.TheVariants.{Two}
use Rattle.ctrl_model.specs.State.{State, start}
use Rattle.ctrl_model.specs.ValidState.{ValidState}
use Rattle.channel_frame.specs.declared.frames.Frame.{Frame}
use Rattle.ship_frames.specs.declared.shipments.Shipment.{Shipment}
use Rattle.ship_frames.specs.declared.shipments.Sort.{Sort}
use Rattle.ship_frames.specs.declared.shipments.Sort.TheVariants.{Whole, Next}
use Rattle.ship_frames.specs.Pieces.{piece_count, piece_frame}
use Rattle.row_codec.specs.Batches.{batch_bytes, batch_between}
use Rattle.slot_reading.specs.BatchRows.{ByteRows}
use Rattle.row_store.specs.OpenedStates.{byte_rows_of}
use Rattle.follow_core.specs.declared.taken.Taken.{Taken}
use Rattle.follow_core.specs.declared.taken.Taken.TheVariants.{Full, MarkFull, BadShip, BadBatch, Differs}
use Rattle.follow_core.specs.Following.{Copy}

-- ---- a history

-- States count on from a serial: each is valid, and has the serial behind that of the one before it.
abbrev pub CountFrom : (serial : ℕ) → List State → Type 0
CountFrom serial [] = ⊤
CountFrom serial (s ∷ more) = ValidState s × (s.serial ≡ serial) × CountFrom (serial + 1) more

-- A history: the states through which a leader's folder went, one of each serial from 0 on.
abbrev pub IsHistory : List State → Type 0
IsHistory states = CountFrom 0 states

-- The state at a place, if there is one. In a history it is the one of this serial.
abbrev pub state_at : List State → ℕ → Option State
state_at [] serial = None
state_at (s ∷ states) zero = Some s
state_at (s ∷ states) (suc serial) = state_at states serial

-- The rows of a serial.
abbrev pub rows_at : List State → (serial : ℕ) → ByteRows
rows_at states serial = option_map_or (byte_rows_of Two) (state_at states serial) []

-- The state to whose rows a batch of a sort and a serial is applied: a Whole to that at the start, which has no rows, and a Next to that of the serial
-- before.
abbrev pub state_before : List State → Sort → (serial : ℕ) → Option State
state_before states Whole serial = Some start
state_before states Next zero = None
state_before states Next (suc serial) = state_at states serial

-- The batch between two states, if there are both, as bytes.
abbrev pub between : (before after : Option State) → List ℕ
between (Some before) (Some after) = batch_bytes (batch_between Two before after)
between _ _ = []

-- The batch of a sort and a serial of a history, as bytes. Where the history has none there are no bytes.
abbrev pub history_of : List State → Sort → (serial : ℕ) → List ℕ
history_of states sort serial = between (state_before states sort serial) (state_at states serial)

-- It as it is shipped.
abbrev pub shipment_of : List State → Sort → (serial : ℕ) → Shipment
shipment_of states sort serial = record { sort = sort; serial = serial; bytes = history_of states sort serial }

-- A frame is one of a history: a piece of one of its batches, at some place of some output.
pub record IsFrameOf (states : List State) (frame : Frame) : Type 0 where
  pub place : ℕ
  pub sort : Sort
  pub serial : ℕ
  pub number : ℕ
  pub within : number < piece_count (history_of states sort serial)
  pub same : frame ≡ piece_frame place (shipment_of states sort serial) number

-- ---- a copy of it

-- So many Nexts of a history, from the one behind a serial on.
abbrev pub nexts_behind : List State → (serial count : ℕ) → List (List ℕ)
nexts_behind states serial zero = []
nexts_behind states serial (suc count) = history_of states Next (serial + 1) ∷ nexts_behind states (serial + 1) count

-- Rows are those of a serial of a history, and records are its batches: the Whole of a first serial, and the Nexts from there to this serial.
pub record StandsAt (states : List State) (serial : ℕ) (rows : ByteRows) (records : List (List ℕ)) : Type 0 where
  pub state : State
  pub there : state_at states serial ≡ Some state
  pub rows_are : rows ≡ byte_rows_of Two state
  pub first : ℕ
  pub behind : ℕ
  pub last : first + behind ≡ serial
  pub kept : records ≡ history_of states Whole first ∷ nexts_behind states first behind

-- A copy stands at a serial of a history, or has no rows and no record.
abbrev pub IsAt : List State → Option ℕ → Copy → Type 0
IsAt states None c = (c.rows ≡ []) × (c.records ≡ [])
IsAt states (Some serial) c = StandsAt states serial c.rows c.records

-- A serial is none before another, where none is before all.
abbrev pub IsNotBefore : (earlier later : Option ℕ) → Type 0
IsNotBefore None later = ⊤
IsNotBefore (Some earlier) None = ⊥
IsNotBefore (Some earlier) (Some later) = earlier ≤ later

-- A copy stands at no serial of a history that is before another one.
pub record StandsFrom (states : List State) (earlier : Option ℕ) (c : Copy) : Type 0 where
  pub later : Option ℕ
  pub further : IsNotBefore earlier later
  pub at : IsAt states later c

-- ---- answers

-- An answer is none of the three that tell that frames of no history came.
abbrev pub IsOfHistory : Taken → Type 0
IsOfHistory BadShip = ⊥
IsOfHistory BadBatch = ⊥
IsOfHistory (Differs serial at) = ⊥
IsOfHistory _ = ⊤

-- An answer is no refusal by a limit.
abbrev pub IsWithinLimits : Taken → Type 0
IsWithinLimits Full = ⊥
IsWithinLimits MarkFull = ⊥
IsWithinLimits _ = ⊤

-- ---- all in order

-- So many Nexts behind a serial, as they are shipped.
abbrev pub nexts_shipped : List State → (serial count : ℕ) → List Shipment
nexts_shipped states serial zero = []
nexts_shipped states serial (suc count) = shipment_of states Next (serial + 1) ∷ nexts_shipped states (serial + 1) count

-- The Whole of a serial and so many Nexts behind it, as they are shipped.
abbrev pub shipped_from : List State → (serial count : ℕ) → List Shipment
shipped_from states serial count = shipment_of states Whole serial ∷ nexts_shipped states serial count
