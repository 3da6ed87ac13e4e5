use Rattle.std.proofs.Common.{List, ℕ, ◌+◌, Option, None, Some, refl, subst, ◌∙◌, arith}
use Rattle.ziti_outside.specs.Images.{Image}
use Rattle.ziti_outside.proofs.MomentLaws.{OnlyReads-then}
use Rattle.row_codec.specs.declared.changes.Op.{Op}
use Rattle.row_store.specs.GateBatches.{GateHas}
use Rattle.follow_core.specs.FollowedCopies.{serial_in_store}
use Rattle.follow_core.proofs.KeptRecords.{gate_later, next_none, next_read}
use Rattle.follow_core.proofs.seeking.pass_to.Goals as goal

pub record_at-requires : goal.record_at-requires
record_at-requires g c = record {
  gate = λ told. gate_later (g.D.Desk.seen c.args.desk.now).reads (g.D.Desk.seen c.records.desk).reads c.args.store.now c.records.sought c.requires.format (c.requires.some told) (c.requires.kept told)
      c.records.invariant.only.parts (c.records.invariant.sought told);
}

pub returns-in_default-clause-sought : goal.returns-in_default-clause-sought
returns-in_default-clause-sought g c = λ told records stands.
    let here = subst (λ (o : Option (List Op × ℕ)). GateHas c.args.store.now (g.D.Desk.seen c.records.desk).reads c.records.sought.at o) c.in_default.is (c.in_ok-batch.ensures.found told) in
    let has = subst (λ (i : Image). GateHas c.args.store.now i c.records.sought.at None) c.records.invariant.only.parts here in
    let below = c.records-test.true in
    let own = c.requires.own in
    absurd (next_none (g.D.Desk.seen c.args.desk.now).reads c.args.store.now records (serial_in_store c.args.store.now) (c.records.sought.serial + 1) c.records.sought c.requires.format (c.requires.some told)
    (c.requires.kept told) stands (c.records.invariant.sought told records stands) refl (omega (arith, below, own)) has)

pub records-preserved : goal.records-preserved
records-preserved g c = record {
  below = c.records-test.true;
  sought = λ told records stands.
      let here = subst (λ (o : Option (List Op × ℕ)). GateHas c.args.store.now (g.D.Desk.seen c.records.desk).reads c.records.sought.at o) c.in-Some.is (c.in_ok-batch.ensures.found told) in
      let has = subst (λ (i : Image). GateHas c.args.store.now i c.records.sought.at (Some (c.in-Some.batch, c.in-Some.next))) c.records.invariant.only.parts here in
      let below = c.records-test.true in
      let own = c.requires.own in
      (next_read (g.D.Desk.seen c.args.desk.now).reads c.args.store.now records (serial_in_store c.args.store.now) (c.records.sought.serial + 1) c.records.sought (c.in-Some.batch, c.in-Some.next)
      c.requires.format (c.requires.some told) (c.requires.kept told) stands (c.records.invariant.sought told records stands) refl (omega (arith, below, own)) has).1;
  calm = c.in_ok-batch.ensures.cause.calm ∙ c.records.invariant.calm;
  only = OnlyReads-then c.records.invariant.only c.record_at.ensures.reads;
}
