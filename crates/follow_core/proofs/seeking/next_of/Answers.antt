use Rattle.std.proofs.Common.{sym}
use Rattle.follow_core.specs.FollowedCopies.{serial_in_store}
use Rattle.follow_core.proofs.KeptRecords.{next_absent}
use Rattle.follow_core.proofs.seeking.next_of.Goals as goal

pub returns-then-serial-sought-clause-found : goal.returns-then-serial-sought-clause-found
returns-then-serial-sought-clause-found g c = λ told records stands.
    sym (next_absent c.args.serial (serial_in_store c.args.store.now) records c.args.sought.now (c.requires.sought told records stands) c.if-serial-sought.true)
