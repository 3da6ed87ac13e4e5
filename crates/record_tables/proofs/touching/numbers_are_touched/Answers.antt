use Rattle.record_tables.proofs.GoneLaws.{touched_are, touched_climb}
use Rattle.record_tables.proofs.touching.numbers_are_touched.Goals as goal

pub returns-clause-each : goal.returns-clause-each
returns-clause-each c = touched_are

pub returns-clause-climb : goal.returns-clause-climb
returns-clause-climb c = touched_climb
