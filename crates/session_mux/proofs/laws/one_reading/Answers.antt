use Rattle.session_mux.proofs.RecordReadings.{has_reading, has_one_reading}
use Rattle.session_mux.proofs.laws.one_reading.Goals as goal

pub returns-clause-reads : goal.returns-clause-reads
returns-clause-reads c = has_reading

pub returns-clause-only : goal.returns-clause-only
returns-clause-only c = has_one_reading
