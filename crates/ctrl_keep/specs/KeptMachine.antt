-- The controller with a folder: a command is answered as the controller does, unless its change has no room in the journal
-- (docs/RULES.md, "The controller with a folder"). Without a folder it is the controller alone.
use Rattle.std.specs.Prelude.{ℕ, ◌+◌, ◌==◌, Bool, true, false, ◌&&◌, ◌||◌, cond, nat_lt, List, [], ◌∷◌, length, None, Some}
use Rattle.std.specs.declared.option.Option.{Option}
use Rattle.ctrl_model.specs.declared.commands.Command.{Command}
use Rattle.ctrl_model.specs.declared.commands.Command.TheVariants.{Compact}
use Rattle.ctrl_model.specs.declared.kinds.Who.{Who}
use Rattle.ctrl_model.specs.declared.refusals.Refusal.TheVariants.{JournalFull, MarkFull}
use Rattle.ctrl_model.specs.declared.replies.Reply.{Reply}
use Rattle.ctrl_model.specs.declared.replies.Reply.TheVariants.{Done, Refused}
use Rattle.ctrl_model.specs.State.{State}
use Rattle.ctrl_model.specs.Permitted.{is_permitted}
use Rattle.ctrl_model.specs.Controller.{answer, counted}
use Rattle.ctrl_model.specs.Limits.{last_serial}
use Rattle.journal_core.specs.Slots.{slot_end}
use Rattle.row_codec.specs.declared.changes.Op.{Op}
use Rattle.row_codec.specs.Batches.{batch_between, batch_bytes}
use Rattle.row_store.specs.declared.bounds.StoreBounds.{StoreBounds}
use Rattle.row_store.specs.RewrittenStores.{compacted, compacted_size}
use Rattle.row_store.specs.OpenedStates.{byte_rows_of}
use Rattle.ctrl_core.specs.KeptFormat.{kept_format}

-- Where the journal goes on: the place of the closed gate of the slot that stands, and the length of the mark.
pub record Place : Type 0 where
  pub end : ℕ
  pub mark : ℕ

-- The controller's state, and the place in its folder if it has one.
pub record Machine : Type 0 where
  pub state : State
  pub place : Option Place

-- The bytes that a slot has with one batch more at its end: the gate, the length, the batch, and the next gate.
abbrev pub slot_with : List Op → Place → ℕ
slot_with batch place = place.end + 6 + length (batch_bytes batch)

-- The place behind one batch more.
abbrev pub behind : List Op → Place → Place
behind batch place = record place { end = place.end + 5 + length (batch_bytes batch) }

-- Whether a change has no room, whose batch this is: the state has the last serial, or the slot would have more bytes than it may have.
abbrev pub has_no_room : ℕ → State → List Op → Place → Bool
has_no_room most s batch place = s.serial == last_serial || nat_lt most (slot_with batch place)

-- What becomes of an answer whose change is a batch, in a slot that may have so many bytes: an empty batch changes nothing; one
-- without room is refused and changes nothing; else it is kept, and the state is the next one.
abbrev pub kept : ℕ → Reply → State → List Op → State → Place → Reply × Machine
kept most reply s [] next place = (reply, record { state = s; place = Some place })
kept most reply s (op ∷ ops) next place =
    cond (has_no_room most s (op ∷ ops) place) (Refused JournalFull, record { state = s; place = Some place })
    (reply, record { state = next; place = Some (behind (op ∷ ops) place) })

-- Whether a command is Compact.
abbrev pub is_compact : Command → Bool
is_compact Compact = true
is_compact _ = false

-- The place in a folder whose rows were compacted: behind the one batch of all rows, or at the first gate where there are none, with a
-- mark of one byte more.
abbrev pub compacted_place : State → Place → Place
compacted_place s place = record { end = slot_end (compacted (byte_rows_of kept_format s)); mark = place.mark + 1 }

-- What becomes of Compact in a folder: it is refused where the slot of the compacted rows would pass its bound, and else where the mark
-- has as many bytes as it may have; else it is done. The state stays.
abbrev pub compacted_at : StoreBounds → State → Place → Reply × Machine
compacted_at bounds s place =
    cond (nat_lt bounds.slot (compacted_size (byte_rows_of kept_format s))) (Refused JournalFull, record { state = s; place = Some place })
    (cond (nat_lt place.mark bounds.mark) (Done, record { state = s; place = Some (compacted_place s place) })
    (Refused MarkFull, record { state = s; place = Some place }))

-- What becomes of an answer, with a folder or without. With a folder the change is counted, and a Compact that was not refused compacts the
-- folder. Nothing keeps a serial without one.
abbrev pub answered : StoreBounds → (compacts : Bool) → Reply × State → State → Option Place → Reply × Machine
answered bounds compacts a s None = (a.0, record { state = a.1; place = None })
answered bounds compacts a s (Some place) =
    cond compacts (compacted_at bounds s place)
    (kept bounds.slot a.0 s (batch_between kept_format s (counted s a.1)) (counted s a.1) place)

-- One step: who sends which command gets which reply, and how the machine goes on.
abbrev pub step : StoreBounds → Who → Command → Machine → Reply × Machine
step bounds who c m = answered bounds (is_compact c && is_permitted who c) (answer who c m.state) m.state m.place
