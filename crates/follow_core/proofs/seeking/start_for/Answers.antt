use Rattle.follow_core.proofs.KeptRecords.{from_second}
use Rattle.follow_core.proofs.seeking.start_for.Goals as goal

pub returns-else-sought-serial-clause-sought : goal.returns-else-sought-serial-clause-sought
returns-else-sought-serial-clause-sought c = λ records own s. from_second records own c.args.sought s
