use Rattle.std.proofs.Common.{◌≡◌, None, subst, List, ℕ}
use Rattle.std.specs.Map.{remove_entry}
use Rattle.std.specs.BTreeMap.{is_at}
use Rattle.row_codec.specs.RowDifference.{with_entry}
use Rattle.row_codec.specs.Batches.{bytes_cmp}
use Rattle.slot_reading.specs.BatchRows.{rows_in}
use Rattle.slot_reading.proofs.MapRows.{to_vec, delete_row, still_rise}
use Rattle.slot_reading.proofs.changing.delete.Goals as goal

pub returns-clause-row : goal.returns-clause-row
returns-clause-row c =
    delete_row c.args.rows.now.entries c.remove.new.self.entries c.args.key.now c.requires
    (subst (λ (k : List ℕ). c.remove.new.self.entries ≡ remove_entry (is_at (to_vec k)) c.args.rows.now.entries) c.as_slice.ensures c.remove.ensures.entries)

pub returns-clause-rises : goal.returns-clause-rises
returns-clause-rises c =
    let row : rows_in c.remove.new.self.entries ≡ with_entry bytes_cmp (rows_in c.args.rows.now.entries) (c.args.key.now, None) =
    delete_row c.args.rows.now.entries c.remove.new.self.entries c.args.key.now c.requires
    (subst (λ (k : List ℕ). c.remove.new.self.entries ≡ remove_entry (is_at (to_vec k)) c.args.rows.now.entries) c.as_slice.ensures c.remove.ensures.entries) in
    still_rise _ _ c.args.key.now None c.requires row
