use Rattle.std.proofs.Common.{◌<◌, ◌^◌, ℕ, List, length}
use Rattle.row_codec.specs.declared.rows.Row.{Row}
use Rattle.row_codec.specs.RowKeys.{Key, key_bytes}
use Rattle.row_codec.specs.RowForm.{SpellsRow}
use Rattle.row_codec.specs.StateRows.{rows_of}
use Rattle.row_laws.proofs.RisingRows.{All-more}
use Rattle.row_laws.proofs.WrittenRows.{Written, written_rows, AreKeys-rows_of}
use Rattle.row_laws.proofs.state_rows.rows_have_their_form.Goals as goal

pub returns-clause-keys : goal.returns-clause-keys
returns-clause-keys c = AreKeys-rows_of

pub returns-clause-rows : goal.returns-clause-rows
returns-clause-rows c f s v =
    All-more (Written f) (λ (x : Key × List ℕ). (r : Row) × SpellsRow f (key_bytes x.0) x.1 r) (λ x written. (written.form, written.spells)) (rows_of f s) (written_rows f s v)

pub returns-clause-lengths : goal.returns-clause-lengths
returns-clause-lengths c f s v = All-more (Written f) (λ (x : Key × List ℕ). length x.1 < 2 ^ 32) (λ x written. written.short_value) (rows_of f s) (written_rows f s v)
