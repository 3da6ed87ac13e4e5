-- What is shipped of a folder: the records of its slot from a serial on, as frames (docs/FORMATS.md, "Ship frames").
use Rattle.std.specs.Prelude.{◌≡◌, ⊤, ℕ, ◌+◌, Bool, nat_le, cond, List, [], ◌∷◌, map, filter}
use Rattle.std.specs.List.{AllByRecursion}
use Rattle.std.specs.Option.{unwrap_or, option_map_or}
use Rattle.ctrl_model.specs.declared.formats.Format.{Format}
use Rattle.ctrl_model.specs.declared.formats.Format.TheVariants.{One, Two}
use Rattle.channel_frame.specs.declared.frames.Frame.{Frame}
use Rattle.row_codec.specs.declared.changes.Op.{Op}
use Rattle.row_codec.specs.Batches.{Spells}
use Rattle.row_codec.specs.BatchReading.{front_op}
use Rattle.row_codec.specs.NarrowedRows.{narrowed}
use Rattle.slot_reading.specs.BatchRows.{ByteRows, rows_after, serial_of}
use Rattle.row_store.specs.RewrittenStores.{compacted}
use Rattle.ship_frames.specs.declared.shipments.Shipment.{Shipment}
use Rattle.ship_frames.specs.declared.shipments.Sort.{Sort}
use Rattle.ship_frames.specs.declared.shipments.Sort.TheVariants.{Whole, Next}
use Rattle.ship_frames.specs.Pieces.{frames_of_all}

-- ---- the rows and the serials of records

-- The operations at the front of some bytes, one behind another, in at most as many steps as a list is long.
abbrev pub ops_within : (steps bytes : List ℕ) → List Op
ops_within [] bytes = []
ops_within (step ∷ steps) bytes = option_map_or (λ x. x.0 ∷ ops_within steps x.1) (front_op bytes) []

-- The operations that the bytes of a batch spell.
abbrev pub ops_in : List ℕ → List Op
ops_in bytes = ops_within bytes bytes

-- The rows after the bytes of a batch.
abbrev pub rows_behind : ByteRows → List ℕ → ByteRows
rows_behind rows bytes = rows_after rows (ops_in bytes)

-- The rows after the bytes of some batches, one behind another.
abbrev pub rows_behind_all : ByteRows → List (List ℕ) → ByteRows
rows_behind_all rows [] = rows
rows_behind_all rows (bytes ∷ more) = rows_behind_all (rows_behind rows bytes) more

-- The serial of rows, or 0 where they tell none.
abbrev pub serial_or_none : ByteRows → ℕ
serial_or_none rows = unwrap_or (serial_of rows) 0

-- ---- what is shipped

-- Batches as they are shipped from rows on: each with the serial of the rows after it, the first one of this sort, and those behind it as Nexts.
abbrev pub shipments_from : Sort → ByteRows → List (List ℕ) → List Shipment
shipments_from sort rows [] = []
shipments_from sort rows (bytes ∷ more) =
    record { sort = sort; serial = serial_or_none (rows_behind rows bytes); bytes = bytes } ∷ shipments_from Next (rows_behind rows bytes) more

-- The Whole of a folder of the first format: its serial is 0.
abbrev pub old_whole : List ℕ → Shipment
old_whole bytes = record { sort = Whole; serial = 0; bytes = bytes }

-- What is shipped of rows of the first format: the one Whole that puts them all, with their counts narrowed; where there are none, nothing.
abbrev pub old_shipments : ByteRows → List Shipment
old_shipments rows = map old_whole (compacted (map narrowed rows))

-- The batches for which a folder of a format stands, as they are shipped. Of the second format the first is a Whole and each later one a
-- Next. Of the first format it is the one Whole that puts all rows, with their counts narrowed; where there are no rows there is none.
abbrev pub shipments : Format → List (List ℕ) → List Shipment
shipments One batches = old_shipments (rows_behind_all [] batches)
shipments Two batches = shipments_from Whole [] batches

-- Whether a batch has the serial from which on is shipped, or a later one.
abbrev pub is_from : (from : ℕ) → Shipment → Bool
is_from from s = nat_le from s.serial

-- The batches from a serial on: all of them where they go back no further, and else those behind the first one that have this serial or a
-- later one.
abbrev pub chosen : (from : ℕ) → List Shipment → List Shipment
chosen from [] = []
chosen from (first ∷ more) = cond (is_from from first) (first ∷ more) (filter (is_from from) more)

-- What is shipped from a serial on of a folder of a format that stands for some batches.
abbrev pub shipped : (from : ℕ) → Format → (batches : List (List ℕ)) → List Frame
shipped from format batches = frames_of_all 0 (chosen from (shipments format batches))

-- ---- what is shipped of rows that were judged

-- Each of some batches is one that can be spelled.
abbrev pub AreSpelled : List (List ℕ) → Type 0
AreSpelled batches = AllByRecursion (λ (bytes : List ℕ). (ops : List Op) × Spells bytes ops) batches

-- Some frames are shipped from a serial on of a folder of a format that was found to have these rows, whether it is told or not. Of the first
-- format they are those of the one Whole of the rows. Of the second format, whose records are read once more, they are all pieces of those of some
-- batches that have the serial or a later one: each batch is spelled, the first of them all is a Whole and each later one a Next, and each has the
-- serial of the rows behind it. That these batches are those of which the rows were read can only be said of a folder that is told.
abbrev pub AreShippedOf : (from : ℕ) → Format → ByteRows → List Frame → Type 0
AreShippedOf from One rows frames = frames ≡ frames_of_all 0 (chosen from (old_shipments rows))
AreShippedOf from Two rows frames = (batches : List (List ℕ)) × AreSpelled batches × (frames ≡ frames_of_all 0 (filter (is_from from) (shipments Two batches)))

-- ---- what becomes of it

-- The serials of batches count on from one: each is one more than the one before it.
abbrev pub CountOn : (serial : ℕ) → List Shipment → Type 0
CountOn serial [] = ⊤
CountOn serial (s ∷ more) = (s.serial ≡ serial + 1) × CountOn s.serial more

-- The serials of batches follow each other, from that of the first one on.
abbrev pub Follow : List Shipment → Type 0
Follow [] = ⊤
Follow (first ∷ more) = CountOn first.serial more

-- The rows to which a batch is applied where a copy has some: a Whole to none, and a Next to those.
abbrev pub rows_before : Sort → ByteRows → ByteRows
rows_before Whole rows = []
rows_before Next rows = rows

-- The rows of a copy that had some rows, once batches were applied to it, one behind another: a Whole to no rows, and each other one to those that
-- it has.
abbrev pub applied : ByteRows → List Shipment → ByteRows
applied rows [] = rows
applied rows (s ∷ more) = applied (rows_behind (rows_before s.sort rows) s.bytes) more
