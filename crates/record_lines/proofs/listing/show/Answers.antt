use Rattle.std.proofs.Common.{◌∙◌}
use Rattle.record_lines.proofs.RowRecords.{lines_asked_of_rows}
use Rattle.record_lines.proofs.listing.show.Goals as goal

pub returns : goal.returns
returns c = c.of.ensures ∙ c.in_ok-text.ensures ∙ lines_asked_of_rows c.args.listed c.args.word.now c.args.rows.now
