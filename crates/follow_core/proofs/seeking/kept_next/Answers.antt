use Rattle.std.specs.Prelude.{IfSome}
use Rattle.std.proofs.Common.{◌≡◌, ◌+◌, List, ℕ, Option, None, Some, subst}
use Rattle.ziti_outside.specs.Images.{Image}
use Rattle.row_codec.specs.declared.changes.Op.{Op}
use Rattle.row_store.specs.GateBatches.{GateHas}
use Rattle.follow_core.specs.declared.sought.Sought.{Sought}
use Rattle.follow_core.specs.FollowedCopies.{AreSoughtIn, serial_in_store}
use Rattle.follow_core.proofs.KeptRecords.{gate_later, next_none, next_read}
use Rattle.follow_core.proofs.seeking.kept_next.Goals as goal

pub record_at-requires : goal.record_at-requires
record_at-requires g c = record {
  gate = λ told. gate_later (g.D.Desk.seen c.args.desk.now).reads (g.D.Desk.seen c.pass_to.new.desk).reads c.args.store.now c.in-Some.before c.requires.format (c.requires.some told) (c.requires.kept told)
      c.pass_to.ensures.reads.parts
      (λ records stands. subst (λ (o : Option Sought). AreSoughtIn records (serial_in_store c.args.store.now) o) c.in-Some.is (c.in_ok-before.ensures.sought told records stands).1);
}

pub returns-in_default-2-clause-found : goal.returns-in_default-2-clause-found
returns-in_default-2-clause-found g c = λ told records stands.
    let sought = subst (λ (o : Option Sought). AreSoughtIn records (serial_in_store c.args.store.now) o) c.in-Some.is (c.in_ok-before.ensures.sought told records stands).1 in
    let passed = subst (λ (o : Option Sought). IfSome o (λ s. s.serial + 1 ≡ c.args.serial)) c.in-Some.is c.in_ok-before.ensures.passed in
    let here = subst (λ (o : Option (List Op × ℕ)). GateHas c.args.store.now (g.D.Desk.seen c.pass_to.new.desk).reads c.in-Some.before.at o) c.in_default-2.is (c.in_ok-batch.ensures.found told) in
    let has = subst (λ (i : Image). GateHas c.args.store.now i c.in-Some.before.at None) c.pass_to.ensures.reads.parts here in
    absurd (next_none (g.D.Desk.seen c.args.desk.now).reads c.args.store.now records (serial_in_store c.args.store.now) c.args.serial c.in-Some.before c.requires.format (c.requires.some told)
    (c.requires.kept told) stands sought passed c.requires.own has)

pub returns-clause-found : goal.returns-clause-found
returns-clause-found g c = λ told records stands.
    let sought = subst (λ (o : Option Sought). AreSoughtIn records (serial_in_store c.args.store.now) o) c.in-Some.is (c.in_ok-before.ensures.sought told records stands).1 in
    let passed = subst (λ (o : Option Sought). IfSome o (λ s. s.serial + 1 ≡ c.args.serial)) c.in-Some.is c.in_ok-before.ensures.passed in
    let here = subst (λ (o : Option (List Op × ℕ)). GateHas c.args.store.now (g.D.Desk.seen c.pass_to.new.desk).reads c.in-Some.before.at o) c.in-Some-2.is (c.in_ok-batch.ensures.found told) in
    let has = subst (λ (i : Image). GateHas c.args.store.now i c.in-Some.before.at (Some (c.in-Some-2.batch, c.in-Some-2.next))) c.pass_to.ensures.reads.parts here in
    (next_read (g.D.Desk.seen c.args.desk.now).reads c.args.store.now records (serial_in_store c.args.store.now) c.args.serial c.in-Some.before (c.in-Some-2.batch, c.in-Some-2.next) c.requires.format
    (c.requires.some told) (c.requires.kept told) stands sought passed c.requires.own has).0

pub returns-clause-sought : goal.returns-clause-sought
returns-clause-sought g c = λ told records stands.
    let sought = subst (λ (o : Option Sought). AreSoughtIn records (serial_in_store c.args.store.now) o) c.in-Some.is (c.in_ok-before.ensures.sought told records stands).1 in
    let passed = subst (λ (o : Option Sought). IfSome o (λ s. s.serial + 1 ≡ c.args.serial)) c.in-Some.is c.in_ok-before.ensures.passed in
    let here = subst (λ (o : Option (List Op × ℕ)). GateHas c.args.store.now (g.D.Desk.seen c.pass_to.new.desk).reads c.in-Some.before.at o) c.in-Some-2.is (c.in_ok-batch.ensures.found told) in
    let has = subst (λ (i : Image). GateHas c.args.store.now i c.in-Some.before.at (Some (c.in-Some-2.batch, c.in-Some-2.next))) c.pass_to.ensures.reads.parts here in
    (next_read (g.D.Desk.seen c.args.desk.now).reads c.args.store.now records (serial_in_store c.args.store.now) c.args.serial c.in-Some.before (c.in-Some-2.batch, c.in-Some-2.next) c.requires.format
    (c.requires.some told) (c.requires.kept told) stands sought passed c.requires.own has).1
