use Rattle.record_tables.proofs.GoneLaws.{kept, gone_climb}
use Rattle.record_tables.proofs.touching.kept_are_not_gone.Goals as goal

pub returns-clause-kept : goal.returns-clause-kept
returns-clause-kept g c = kept

pub returns-clause-climb : goal.returns-clause-climb
returns-clause-climb g c = gone_climb
