use Rattle.std.proofs.Common.{IsErrOf, subst, sym, arith}
use Rattle.row_codec.specs.declared.faults.RowFault.{RowFault}
use Rattle.follow_core.proofs.BatchWords.{spelled_found, none_found}
use Rattle.follow_core.proofs.receiving.batch_in.Goals as goal

pub returns-in-Ok-clause-found : goal.returns-in-Ok-clause-found
returns-in-Ok-clause-found c = sym (spelled_found c.args.bytes.now c.in-Ok.batch c.in-Ok.ensures.read)

pub returns-in-Err-BadBatch-clause-found : goal.returns-in-Err-BadBatch-clause-found
returns-in-Err-BadBatch-clause-found c =
    let told = subst (λ (x : RowFault). IsErrOf c.read_batch.result x) c.in-Err-BadBatch.field-0-is c.in-Err-BadBatch.is in
    sym (none_found c.args.bytes.now (λ i. omega (arith, c.type_inv.bytes i)) (c.read_batch.ensures.bad.0 told))

pub returns-in-Err-BadRow-clause-found : goal.returns-in-Err-BadRow-clause-found
returns-in-Err-BadRow-clause-found c =
    let told = subst (λ (x : RowFault). IsErrOf c.read_batch.result x) c.in-Err-BadRow.field-0-is c.in-Err-BadRow.is in
    absurd (c.read_batch.ensures.never told)
