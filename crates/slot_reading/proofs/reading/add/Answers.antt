use Rattle.std.proofs.Common.{sym, subst, List, ℕ}
use Rattle.row_codec.specs.declared.changes.Op.{Op}
use Rattle.row_codec.specs.Batches.{Spells}
use Rattle.slot_reading.proofs.BatchLaws.{adds_from}
use Rattle.slot_reading.proofs.reading.add.Goals as goal

pub returns-in-Ok-clause-added : goal.returns-in-Ok-clause-added
returns-in-Ok-clause-added c =
    let read : Spells c.args.payload.now c.in-Ok.batch = subst (λ (b : List ℕ). Spells b c.in-Ok.batch) c.as_slice.ensures c.in-Ok.ensures.read in
    let same : Spells c.args.payload.now c.as_slice-in-Ok.result.now = subst (λ (ops : List Op). Spells c.args.payload.now ops) (sym c.as_slice-in-Ok.ensures) read in
    adds_from c.args.format c.args.at _ _ _ _ _ same c.lead.ensures.made
