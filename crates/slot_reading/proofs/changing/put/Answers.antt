use Rattle.std.proofs.Common.{◌≡◌, ◌∙◌, Some}
use Rattle.row_codec.specs.RowDifference.{with_entry}
use Rattle.row_codec.specs.Batches.{bytes_cmp}
use Rattle.slot_reading.specs.BatchRows.{rows_in}
use Rattle.slot_reading.proofs.MapRows.{put_row, still_rise, same_entry}
use Rattle.slot_reading.proofs.changing.put.Goals as goal

put_is : (c : goal.Joined-branch-4) → rows_in c.insert.new.self.entries ≡ with_entry bytes_cmp (rows_in c.args.rows.now.entries) (c.args.key.now, Some c.args.value.now)
put_is c =
    put_row c.args.rows.now.entries c.insert.new.self.entries c.in_ok-key.key c.in_ok-value.value c.requires c.in_ok-insert.ensures.entries
    ∙ same_entry (rows_in c.args.rows.now.entries) (c.in_ok-key.ensures.items ∙ c.as_slice.ensures) (c.in_ok-value.ensures ∙ c.as_slice-2.ensures)

pub returns-clause-row : goal.returns-clause-row
returns-clause-row c = put_is c

pub returns-clause-rises : goal.returns-clause-rises
returns-clause-rises c = still_rise _ _ c.args.key.now (Some c.args.value.now) c.requires (put_is c)
