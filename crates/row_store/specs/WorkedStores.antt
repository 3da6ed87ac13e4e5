-- Rows, folders and damaged slots whose bytes were worked by hand.
use Rattle.std.specs.Prelude.{ℕ, true, false, List, [], ◌∷◌, ◌++◌, take, drop}
use Rattle.ziti_outside.specs.declared.desk.Part.TheVariants.{Zero, One, Mark}
use Rattle.ziti_outside.specs.Images.{Image}
use Rattle.ctrl_model.specs.declared.formats.Format.TheVariants as format
use Rattle.journal_core.specs.WorkedSlots.{slot_of_ann}
use Rattle.row_codec.specs.declared.changes.Op.{Op}
use Rattle.row_codec.specs.declared.changes.Op.TheVariants.{Put}
use Rattle.slot_reading.specs.BatchRows.{ByteRows}
use Rattle.row_store.specs.StoredRows.{Stored}

-- The keys of the rows of the first identity: the next number of identities, and identity 1.
abbrev pub key_of_next : List ℕ
key_of_next = 1 ∷ 1 ∷ []

-- The key of identity 1.
abbrev pub key_of_ann : List ℕ
key_of_ann = 3 ∷ 0 ∷ 0 ∷ 0 ∷ 1 ∷ []

-- Their values: the number 2, and the name ann without attributes.
abbrev pub value_of_next : List ℕ
value_of_next = 2 ∷ 0 ∷ 0 ∷ 0 ∷ []

-- The value of the identity ann.
abbrev pub value_of_ann : List ℕ
value_of_ann = 3 ∷ 97 ∷ 110 ∷ 110 ∷ 0 ∷ []

-- The two rows.
abbrev pub rows_of_ann : ByteRows
rows_of_ann = (key_of_next, value_of_next) ∷ (key_of_ann, value_of_ann) ∷ []

-- The row of a serial below 256.
abbrev pub row_of_serial : ℕ → List ℕ × List ℕ
row_of_serial n = (17 ∷ [], n ∷ 0 ∷ 0 ∷ 0 ∷ 0 ∷ 0 ∷ 0 ∷ 0 ∷ [])

-- The two rows, and a serial.
abbrev pub counted_rows : ℕ → ByteRows
counted_rows n = rows_of_ann ++ row_of_serial n ∷ []

-- The operations of the batch that creates the first identity.
abbrev pub ops_of_ann : List Op
ops_of_ann = Put key_of_next value_of_next ∷ Put key_of_ann value_of_ann ∷ []

-- The same with the serial 1.
abbrev pub counted_ops : List Op
counted_ops = ops_of_ann ++ Put (17 ∷ []) (1 ∷ 0 ∷ 0 ∷ 0 ∷ 0 ∷ 0 ∷ 0 ∷ 0 ∷ []) ∷ []

-- The slot of the first identity in the second format without a serial, as it stands behind a migration.
abbrev pub migrated_slot : List ℕ
migrated_slot = 90 ∷ 67 ∷ 84 ∷ 76 ∷ 2 ∷ drop 5 (slot_of_ann format.One)

-- A folder whose first slot has these bytes and stands.
abbrev pub folder_of : List ℕ → Image
folder_of bytes Zero = bytes
folder_of bytes One = []
folder_of bytes Mark = 0 ∷ []

-- A folder of these three parts.
abbrev pub three_parts : (first second mark : List ℕ) → Image
three_parts first second mark Zero = first
three_parts first second mark One = second
three_parts first second mark Mark = mark

-- A batch that deletes identity 2, which is not there.
abbrev pub deletes_absent : List ℕ
deletes_absent = 2 ∷ 5 ∷ 3 ∷ 0 ∷ 0 ∷ 0 ∷ 2 ∷ []

-- The slot of the first identity, in the first format, with that batch behind it.
abbrev pub slot_with_deletion : List ℕ
slot_with_deletion = take 41 (slot_of_ann format.One) ++ 1 ∷ 7 ∷ 0 ∷ 0 ∷ 0 ∷ (deletes_absent ++ 0 ∷ [])

-- The store of the folder of the first identity in the first format, with these bounds of a slot and of the mark.
abbrev pub store_of_ann : (slot mark : ℕ) → Stored
store_of_ann slot mark = record {
  format = format.One;
  rows = rows_of_ann;
  part = Zero;
  end = 41;
  mark = 1;
  bounds = record { slot = slot; mark = mark };
  opened = true;
  spent = false;
}

-- The store of a folder that was created.
abbrev pub store_of_none : Stored
store_of_none = record { format = format.Two; rows = []; part = Zero; end = 8; mark = 1; bounds = record { slot = 64; mark = 2 }; opened = true; spent = false }

-- A folder whose second slot has these bytes and stands alone.
abbrev pub second_alone : List ℕ → Image
second_alone bytes Zero = []
second_alone bytes One = bytes
second_alone bytes Mark = 0 ∷ 0 ∷ []

-- The folder of the first identity in the first format with old bytes in the second slot.
abbrev pub old_second : List ℕ → Image
old_second bytes Zero = slot_of_ann format.One
old_second bytes One = bytes
old_second bytes Mark = 0 ∷ []
