use Rattle.run_notes.specs.declared.status.Status.TheVariants.{ReadFault, WriteFault, DiskFault}
use Rattle.serve_loop.proofs.FailureLaws.{told_status}
use Rattle.ctrl_serve.proofs.laws.a_told_failure_is_the_status.Goals as goal

pub returns-clause-take : goal.returns-clause-take
returns-clause-take g c bounds words form source source_now desk desk_now status runs rose = told_status ReadFault status _ _ runs.failed_take rose

pub returns-clause-say : goal.returns-clause-say
returns-clause-say g c bounds words form source source_now desk desk_now status runs rose = told_status WriteFault status _ _ runs.failed_say rose

pub returns-clause-disk : goal.returns-clause-disk
returns-clause-disk g c bounds words form source source_now desk desk_now status runs rose = told_status DiskFault status _ _ runs.failed_disk rose
