use Rattle.std.proofs.Common.{List, [], ℕ, Option, refl, ap, subst, ◌∙◌}
use Rattle.std.specs.Option.{unwrap_or}
use Rattle.row_codec.specs.declared.changes.Op.{Op}
use Rattle.slot_reading.specs.BatchRows.{rows_after, serial_of}
use Rattle.row_store.specs.GateBatches.{GateHas}
use Rattle.follow_core.proofs.KeptRecords.{first_gate, reads_first}
use Rattle.follow_core.proofs.seeking.behind_first.Goals as goal

pub record_at-requires : goal.record_at-requires
record_at-requires g c = record { gate = λ told. first_gate (g.D.Desk.seen c.args.desk.now).reads c.args.store.now c.requires.format (c.requires.some told) (c.requires.kept told) }

pub returns-clause-sought : goal.returns-clause-sought
returns-clause-sought g c = λ told records stands.
    let has = subst (λ (o : Option (List Op × ℕ)). GateHas c.args.store.now (g.D.Desk.seen c.args.desk.now).reads 8 o) c.in-Some.is (c.in_ok-batch.ensures.found told) in
    let serial = c.unwrap_or-serial.ensures ∙ ap (λ (o : Option ℕ). unwrap_or o 0) (c.in_ok-serial_after.ensures ∙ ap (λ (os : List Op). serial_of (rows_after [] os)) c.as_slice.ensures) in
    (refl, reads_first (g.D.Desk.seen c.args.desk.now).reads c.args.store.now records (c.in-Some.batch, c.in-Some.next) c.requires.format (c.requires.some told) (c.requires.kept told) stands c.requires.begun has _ serial refl refl refl)
