use Rattle.std.specs.Prelude.{IfSome}
use Rattle.std.proofs.Common.{rules, ℕ, ◌+◌, ◌-◌, ◌^◌, ◌<◌, ◌≤◌, min, List, Option, Some, None, refl, sym, ◌∙◌, subst, arith}
use Rattle.row_codec.specs.declared.changes.Op.{Op}
use Rattle.row_codec.specs.Batches.{IsBatch}
use Rattle.row_store.specs.GateBatches.{GateHas}
use Rattle.ship_core.specs.declared.faults.ShipFault.TheVariants.{Write, Damaged}
use Rattle.ship_core.specs.Steps.{IsUndamaged}
use Rattle.ship_core.proofs.JudgeLaws.{seen_cause, store_cause, gate_undamaged, store_unwritten, err_is}
use Rattle.ship_core.proofs.records.record_at.Goals as goal

pub returns-in-Ok-Some-clause-found : goal.returns-in-Ok-Some-clause-found
returns-in-Ok-Some-clause-found g c = λ told.
    subst (λ (o : Option (List Op × ℕ)). GateHas c.args.store.now (g.D.Desk.seen c.args.desk.now).reads c.args.at o) c.in-Ok-Some.field-0-is (c.in-Ok-Some.ensures.found told)

pub returns-in-Ok-Some-clause-batch : goal.returns-in-Ok-Some-clause-batch
returns-in-Ok-Some-clause-batch g c = subst (λ (o : Option (List Op × ℕ)). IfSome o (λ x. IsBatch x.0)) c.in-Ok-Some.field-0-is c.in-Ok-Some.ensures.batch

pub returns-in-Ok-Some-clause-further : goal.returns-in-Ok-Some-clause-further
returns-in-Ok-Some-clause-further g c =
    let step = subst (λ (o : Option (List Op × ℕ)). IfSome o (λ x. min (c.args.at + 1) (2 ^ 64 - 1) ≤ x.1)) c.in-Ok-Some.field-0-is c.in-Ok-Some.ensures.further in
    let range : c.end-part.result.1 < 2 ^ 64 = search rules in
    let end = c.end-part.ensures.1 in
    let within = c.requires.within in
    omega (arith, step, range, end, within)

pub returns-in-Ok-None-clause-fault : goal.returns-in-Ok-None-clause-fault
returns-in-Ok-None-clause-fault g c = λ told.
    let here = subst (λ (o : Option (List Op × ℕ)). GateHas c.args.store.now (g.D.Desk.seen c.args.desk.now).reads c.args.at o) c.in-Ok-None.field-0-is (c.in-Ok-None.ensures.found told) in
    let within = c.requires.within in
    absurd (omega (arith, here, within))

pub returns-in-Ok-Some-clause-cause : goal.returns-in-Ok-Some-clause-cause
returns-in-Ok-Some-clause-cause g c = seen_cause _ _ c.in-Ok-Some.field-0 None refl c.in-Ok-Some.ensures.cause

pub returns-in-Ok-None-clause-cause : goal.returns-in-Ok-None-clause-cause
returns-in-Ok-None-clause-cause g c = seen_cause _ _ c.in-Ok-None.field-0 (Some (Damaged c.end-part.result.0 c.args.at)) refl c.in-Ok-None.ensures.cause

pub returns-in-Err-clause-fault : goal.returns-in-Err-clause-fault
returns-in-Err-clause-fault g c = λ told. subst IsUndamaged (sym c.of_store.ensures) (gate_undamaged g.D.Desk.tells c.in-Err.fault c.in-Err.ensures.fault told)

pub returns-in-Err-clause-unwritten : goal.returns-in-Err-clause-unwritten
returns-in-Err-clause-unwritten g c = λ e. store_unwritten c.in-Err.fault (sym c.of_store.ensures ∙ err_is _ _ Write e)

pub returns-in-Err-clause-cause : goal.returns-in-Err-clause-cause
returns-in-Err-clause-cause g c = rw c.of_store.ensures (store_cause (Option (List Op × ℕ)) _ _ c.in-Err.fault c.in-Err.ensures.cause)
