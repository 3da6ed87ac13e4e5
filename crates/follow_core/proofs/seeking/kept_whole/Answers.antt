use Rattle.std.proofs.Common.{◌≡◌, ℕ, List, Option, subst, arith}
use Rattle.row_codec.specs.declared.changes.Op.{Op}
use Rattle.row_store.specs.GateBatches.{GateHas}
use Rattle.follow_core.specs.FollowedCopies.{serial_in_store}
use Rattle.follow_core.proofs.KeptRecords.{whole_read}
use Rattle.follow_core.proofs.seeking.kept_whole.Goals as goal

pub returns-in-Some-clause-found : goal.returns-in-Some-clause-found
returns-in-Some-clause-found g c = λ told records stands.
    let has = subst (λ (o : Option (List Op × ℕ)). GateHas c.args.store.now (g.D.Desk.seen c.args.desk.now).reads 8 o) c.in-Some.is (c.in_ok-record_at.ensures.found told) in
    let same : c.args.serial ≡ c.args.sought.first = grind arith in
    whole_read (g.D.Desk.seen c.args.desk.now).reads c.args.store.now records (serial_in_store c.args.store.now) c.args.serial c.args.sought _ c.requires.format (c.requires.some told)
    (c.requires.kept told) stands (c.requires.sought told records stands) same has
