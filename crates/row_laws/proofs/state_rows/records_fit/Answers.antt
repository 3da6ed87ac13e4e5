use Rattle.row_laws.proofs.WrittenRecords.{record_at_fits}
use Rattle.row_laws.proofs.state_rows.records_fit.Goals as goal

pub returns : goal.returns
returns c = record_at_fits
