-- Following: what a copy of a leader's folder makes of a frame that was shipped (docs/RULES.md, "Following").
use Rattle.std.specs.Prelude.{ℕ, ◌+◌, ◌==◌, ◌&&◌, ◌||◌, not, Bool, true, false, cond, nat_lt, nat_le, List, [], ◌∷◌, ◌++◌, length, None, Some}
use Rattle.std.specs.declared.option.Option.{Option}
use Rattle.std.specs.Option.{unwrap_or, option_map_or}
use Rattle.std.specs.Str.{bytes_eq}
use Rattle.ctrl_model.specs.declared.formats.Format.TheVariants.{Two}
use Rattle.channel_frame.specs.declared.frames.Frame.{Frame}
use Rattle.ship_frames.specs.declared.gathering.Gathered.{Gathered}
use Rattle.ship_frames.specs.declared.gathering.Gathered.TheVariants as gathered
use Rattle.ship_frames.specs.declared.shipments.Shipment.{Shipment}
use Rattle.ship_frames.specs.declared.shipments.Sort.{Sort}
use Rattle.ship_frames.specs.declared.shipments.Sort.TheVariants.{Whole, Next}
use Rattle.ship_frames.specs.PieceReading.{piece_in}
use Rattle.ship_frames.specs.GatheredPieces.{Parts, gather}
use Rattle.journal_core.specs.Slots.{slot_end}
use Rattle.row_codec.specs.declared.changes.Op.{Op}
use Rattle.slot_reading.specs.BatchRows.{ByteRows, rows_after, serial_of}
use Rattle.row_store.specs.declared.bounds.StoreBounds.{StoreBounds}
use Rattle.follow_core.specs.declared.taken.Taken.{Taken}
use Rattle.follow_core.specs.declared.taken.Taken.TheVariants.{Took, Repeat, Old, Piece, Skipped, Ahead, BadShip, BadBatch, Differs, Full, MarkFull}
use Rattle.follow_core.specs.BatchBytes.{batch_in, is_true_difference}
use Rattle.row_judging.specs.JudgedRows.{judged}

-- ---- what a copy has

-- The copy of a leader's folder: the batches that its slot keeps, in order; the rows that they give; how many bytes its mark has; and the batch in
-- parts, if there is one.
pub record Copy : Type 0 where
  pub records : List (List ℕ)
  pub rows : ByteRows
  pub mark : ℕ
  pub parts : Option Parts

-- The copy with another batch in parts, or with none.
abbrev pub with_parts : Copy → Option Parts → Copy
with_parts c parts = record c { parts = parts }

-- The serial of the copy: that of its rows, and 0 where they tell none, as with no record and behind a migration.
abbrev pub own_serial : Copy → ℕ
own_serial c = unwrap_or (serial_of c.rows) 0

-- Whether a copy has a record.
abbrev pub has_record : Copy → Bool
has_record c = nat_lt 0 (length c.records)

-- Of some records, of which each raises the serial by one, the one of a serial, where the last has this own serial.
abbrev pub record_of : (serial own : ℕ) → List (List ℕ) → Option (List ℕ)
record_of serial own [] = None
record_of serial own (bytes ∷ more) = cond (serial + length more == own) (Some bytes) (record_of serial own more)

-- The kept batch of a sort and a serial, if there is one: the first record is a Whole, and each later one a Next.
abbrev pub kept_of : Sort → (serial own : ℕ) → List (List ℕ) → Option (List ℕ)
kept_of sort serial own [] = None
kept_of Whole serial own (bytes ∷ more) = cond (serial + length more == own) (Some bytes) None
kept_of Next serial own (bytes ∷ more) = record_of serial own more

-- The first place at which bytes differ from others, or where the shorter ones end.
abbrev pub first_other : (these others : List ℕ) → ℕ
first_other (x ∷ xs) (y ∷ ys) = cond (x == y) (1 + first_other xs ys) 0
first_other _ _ = 0

-- ---- what a batch would make of it

-- Whether a batch is a Whole.
abbrev pub is_whole : Sort → Bool
is_whole Whole = true
is_whole Next = false

-- The rows to which a batch is applied: a Whole to none, a Next to those of the copy.
abbrev pub rows_before : Sort → Copy → ByteRows
rows_before Whole c = []
rows_before Next c = c.rows

-- The rows after it.
abbrev pub rows_behind : Sort → List Op → Copy → ByteRows
rows_behind sort ops c = rows_after (rows_before sort c) ops

-- The records after it: a Whole stands alone, a Next behind those before.
abbrev pub records_behind : Shipment → Copy → List (List ℕ)
records_behind s c = cond (is_whole s.sort) (s.bytes ∷ []) (c.records ++ s.bytes ∷ [])

-- Whether it takes the place of records, so that it is written to the other slot.
abbrev pub is_rewritten : Sort → Copy → Bool
is_rewritten sort c = is_whole sort && has_record c

-- The copy after it.
abbrev pub copy_behind : Shipment → List Op → Copy → Copy
copy_behind s ops c = record c { records = records_behind s c; rows = rows_behind s.sort ops c; mark = cond (is_rewritten s.sort c) (c.mark + 1) c.mark }

-- ---- the cases

-- Whether operations are a true difference of no rows, and the rows after them have a serial.
abbrev pub is_whole_of : (serial : ℕ) → List Op → Bool
is_whole_of serial ops = is_true_difference [] ops && option_map_or (λ n. n == serial) (serial_of (rows_after [] ops)) false

-- Whether a batch is a Whole that is no such one.
abbrev pub is_no_whole : Shipment → List Op → Bool
is_no_whole s ops = is_whole s.sort && not (is_whole_of s.serial ops)

-- Whether a batch comes no later than the last one that was taken.
abbrev pub is_past : Shipment → Copy → Bool
is_past s c = has_record c && nat_le s.serial (own_serial c)

-- What a batch is beside the kept one of its sort and serial: the same, or another from a place on; or an old one, which is kept no more.
abbrev pub beside : Shipment → Option (List ℕ) → Taken
beside s None = Old
beside s (Some kept) = cond (bytes_eq kept s.bytes) Repeat (Differs s.serial (first_other kept s.bytes))

-- Whether a batch is a Next of rows that the copy has not.
abbrev pub is_ahead : Shipment → Copy → Bool
is_ahead s c = not (is_whole s.sort) && (not (has_record c) || nat_lt (own_serial c + 1) s.serial)

-- Whether rows are all rows of a valid state of a serial.
abbrev pub are_of_serial : (serial : ℕ) → ByteRows → Bool
are_of_serial serial rows = option_map_or (λ state. state.serial == serial) (judged Two rows) false

-- Whether operations are no true difference of the rows to which they are applied, or the rows after them are not those of a valid state of the serial.
abbrev pub leads_nowhere : Shipment → List Op → Copy → Bool
leads_nowhere s ops c = not (is_true_difference (rows_before s.sort c) ops && are_of_serial s.serial (rows_behind s.sort ops c))

-- Whether the slot would have more bytes than it may have.
abbrev pub fills_slot : StoreBounds → Shipment → Copy → Bool
fills_slot bounds s c = nat_lt bounds.slot (slot_end (records_behind s c) + 1)

-- Whether the batch is written to the other slot, and the mark has as many bytes as it may have.
abbrev pub fills_mark : StoreBounds → Shipment → Copy → Bool
fills_mark bounds s c = is_rewritten s.sort c && nat_le bounds.mark c.mark

-- What becomes of a batch of these operations: the answer, and the copy behind it. The first case that applies decides, and in all but the last the
-- copy stays.
abbrev pub decided : StoreBounds → Shipment → List Op → Copy → Taken × Copy
decided bounds s ops c =
    cond (is_no_whole s ops) (BadBatch, c)
    (cond (is_past s c) (beside s (kept_of s.sort s.serial (own_serial c) c.records), c)
    (cond (is_ahead s c) (Ahead, c)
    (cond (leads_nowhere s ops c) (BadBatch, c)
    (cond (fills_slot bounds s c) (Full, c)
    (cond (fills_mark bounds s c) (MarkFull, c)
    (Took, copy_behind s ops c))))))

-- What becomes of a batch once it is whole: one whose bytes spell none is bad before all else.
abbrev pub received : StoreBounds → Shipment → Copy → Taken × Copy
received bounds s c = option_map_or (λ ops. decided bounds s ops c) (batch_in s.bytes) (BadBatch, c)

-- What becomes of a piece, by what came of gathering it.
abbrev pub gathered_so : StoreBounds → Gathered → Copy → Taken × Copy
gathered_so bounds gathered.Skipped c = (Skipped, c)
gathered_so bounds gathered.Waits c = (Piece, c)
gathered_so bounds (gathered.Whole s) c = received bounds s c

-- What becomes of a frame: one that is no piece of a batch changes nothing.
abbrev pub follow : StoreBounds → Frame → Copy → Taken × Copy
follow bounds frame c =
    option_map_or (λ p. gathered_so bounds (gather c.parts p).0 (with_parts c (gather c.parts p).1)) (piece_in frame) (BadShip, c)

-- What is answered to frames, one behind another.
abbrev pub taken_all : StoreBounds → List Frame → Copy → List Taken
taken_all bounds [] c = []
taken_all bounds (frame ∷ frames) c = (follow bounds frame c).0 ∷ taken_all bounds frames (follow bounds frame c).1

-- The copy behind them.
abbrev pub copy_after : StoreBounds → List Frame → Copy → Copy
copy_after bounds [] c = c
copy_after bounds (frame ∷ frames) c = copy_after bounds frames (follow bounds frame c).1
