use Rattle.std.proofs.Common.{◌∙◌, ap}
use Rattle.slot_reading.specs.BatchRows.{rows_after, rows_in}
use Rattle.change_lines.proofs.KeptRowLaws.{in_two, kept_of}
use Rattle.change_lines.proofs.keeping.kept_rows.Goals as goal

pub puts_of-requires : goal.puts_of-requires
puts_of-requires c = (in_two c.requires.0 c.requires.1 c.args.rows.now c.requires.2).loads.form

pub returns : goal.returns
returns c = λ f s are.
    kept_of f s c.args.rows.now c.as_slice.result.now (rows_in c.change_all.new.rows.entries) are (c.as_slice.ensures ∙ c.in_ok-batch.ensures)
    (c.in_ok-change_all.ensures.rows ∙ ap (λ entries. rows_after (rows_in entries) c.as_slice.result.now) c.new-kept.ensures.empty)
