-- The rows of a state under their keys. Only private contracts cite these.
use Rattle.std.specs.Prelude.{◌≡◌}
use Rattle.ctrl_model.specs.declared.formats.Format.TheVariants.{Two}
use Rattle.ctrl_model.specs.State.{State}
use Rattle.ctrl_model.specs.ValidState.{ValidState}
use Rattle.row_codec.specs.Batches.{spelled_rows}
use Rattle.row_codec.specs.StateRows.{rows_of}
use Rattle.slot_reading.specs.BatchRows.{ByteRows}

-- Rows are those of a valid state in the second format.
pub record AreKeptOf (s : State) (rows : ByteRows) : Type 0 where
  pub valid : ValidState s
  pub rows_are : rows ≡ spelled_rows (rows_of Two s)
