-- Copies and batches that were worked by hand.
use Rattle.std.specs.Prelude.{ℕ, List, [], ◌∷◌, ◌++◌, codes, None, Some}
use Rattle.ctrl_model.specs.declared.formats.Format.TheVariants as format
use Rattle.journal_core.specs.WorkedSlots.{batch_of_ann}
use Rattle.row_codec.specs.declared.changes.Op.{Op}
use Rattle.row_codec.specs.declared.changes.Op.TheVariants.{Put, Delete}
use Rattle.row_codec.specs.Batches.{batch_bytes}
use Rattle.channel_frame.specs.declared.frames.Frame.{Frame}
use Rattle.ship_frames.specs.declared.shipments.Shipment.{Shipment}
use Rattle.ship_frames.specs.declared.shipments.Sort.TheVariants.{Whole, Next}
use Rattle.ship_frames.specs.GatheredPieces.{Parts}
use Rattle.ship_frames.specs.WorkedPieces.{first_came}
use Rattle.slot_reading.specs.BatchRows.{ByteRows}
use Rattle.row_store.specs.declared.bounds.StoreBounds.{StoreBounds}
use Rattle.row_store.specs.WorkedStores.{key_of_next, key_of_ann, counted_rows, row_of_serial}
use Rattle.follow_core.specs.Following.{Copy}

-- A copy without a record.
abbrev pub no_copy : Copy
no_copy = record { records = []; rows = []; mark = 1; parts = None }

-- The batch that creates the identity ann, with the serial 1: 43 bytes.
abbrev pub ann : List ℕ
ann = batch_of_ann format.Two

-- The copy that took it.
abbrev pub copy_of_ann : Copy
copy_of_ann = record { records = ann ∷ []; rows = counted_rows 1; mark = 1; parts = None }

-- The next number of identities behind the second one.
abbrev pub puts_next : Op
puts_next = Put key_of_next (3 ∷ 0 ∷ 0 ∷ 0 ∷ [])

-- The second identity, with the name bob.
abbrev pub puts_bob : Op
puts_bob = Put (3 ∷ 0 ∷ 0 ∷ 0 ∷ 2 ∷ []) (3 ∷ 98 ∷ 111 ∷ 98 ∷ 0 ∷ [])

-- The identity ann, with a name of three letters and so many attributes.
abbrev pub puts_first : (name attributes : List ℕ) → Op
puts_first name attributes = Put key_of_ann (3 ∷ (name ++ attributes))

-- A serial below 256.
abbrev pub puts_serial : ℕ → Op
puts_serial n = Put (row_of_serial n).0 (row_of_serial n).1

-- The batch that creates bob behind ann, with a serial.
abbrev pub bob : (serial : ℕ) → List ℕ
bob serial = batch_bytes (puts_next ∷ puts_bob ∷ puts_serial serial ∷ [])

-- The batch of both, with a serial.
abbrev pub both : (serial : ℕ) → List ℕ
both serial = batch_bytes (puts_next ∷ puts_first (codes "ann") (0 ∷ []) ∷ puts_bob ∷ puts_serial serial ∷ [])

-- A Whole as it is shipped.
abbrev pub whole : (serial : ℕ) → List ℕ → Shipment
whole serial bytes = record { sort = Whole; serial = serial; bytes = bytes }

-- A Next as it is shipped.
abbrev pub next : (serial : ℕ) → List ℕ → Shipment
next serial bytes = record { sort = Next; serial = serial; bytes = bytes }

-- Bounds that leave room.
abbrev pub roomy : StoreBounds
roomy = record { slot = 1024; mark = 8 }

-- Bounds of a slot of so many bytes.
abbrev pub slot_of_most : ℕ → StoreBounds
slot_of_most n = record { slot = n; mark = 8 }

-- Bounds of a mark of so many bytes.
abbrev pub mark_of_most : ℕ → StoreBounds
mark_of_most n = record { slot = 1024; mark = n }

-- The rows of both, with a serial.
abbrev pub rows_of_both : (serial : ℕ) → ByteRows
rows_of_both serial =
    (key_of_next, 3 ∷ 0 ∷ 0 ∷ 0 ∷ []) ∷ (key_of_ann, 3 ∷ 97 ∷ 110 ∷ 110 ∷ 0 ∷ []) ∷ (3 ∷ 0 ∷ 0 ∷ 0 ∷ 2 ∷ [], 3 ∷ 98 ∷ 111 ∷ 98 ∷ 0 ∷ []) ∷ row_of_serial serial ∷ []

-- The first piece of two of a Next of serial 2, as it is in parts.
abbrev pub first_of_two : (bytes : List ℕ) → Parts
first_of_two bytes = record first_came { bytes = bytes }

-- The copy of ann with that piece in parts.
abbrev pub ann_in_parts : (bytes : List ℕ) → Copy
ann_in_parts bytes = record copy_of_ann { parts = Some (first_of_two bytes) }

-- The copy that took bob behind her.
abbrev pub copy_of_both : Copy
copy_of_both = record copy_of_ann { records = ann ∷ bob 2 ∷ []; rows = rows_of_both 2 }

-- The copy that took both in place of her, with a serial.
abbrev pub copy_of_whole : (serial : ℕ) → Copy
copy_of_whole serial = record copy_of_ann { records = both serial ∷ []; rows = rows_of_both serial; mark = 2 }
