use Rattle.row_reading.proofs.RowLaws as rows
use Rattle.row_reading.proofs.laws.one_row.Goals as goal

pub returns : goal.returns
returns c = rows.one_row
