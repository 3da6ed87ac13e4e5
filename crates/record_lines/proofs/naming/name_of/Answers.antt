use Rattle.std.proofs.Common.{◌∙◌}
use Rattle.record_lines.proofs.RowRecords.{name_of_rows}
use Rattle.record_lines.proofs.naming.name_of.Goals as goal

pub returns : goal.returns
returns c = c.name_among.ensures ∙ name_of_rows c.args.kind c.args.rows.now c.args.no
