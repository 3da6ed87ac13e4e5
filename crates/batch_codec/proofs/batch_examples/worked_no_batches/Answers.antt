use Rattle.std.proofs.Common.{[], ◌∷◌, None, refl, arith}
use Rattle.row_codec.proofs.BatchLaws.{no_first, no_second}
use Rattle.batch_codec.proofs.batch_examples.worked_no_batches.Goals as goal

pub returns-clause-operation : goal.returns-clause-operation
returns-clause-operation c = no_first _ refl (omega arith) refl

pub returns-clause-cut : goal.returns-clause-cut
returns-clause-cut c = no_first _ refl (omega arith) refl

pub returns-clause-twice : goal.returns-clause-twice
returns-clause-twice c = no_second _ (2 ∷ 1 ∷ 2 ∷ []) (2 ∷ []) None refl refl (omega arith) refl

pub returns-clause-out_of_order : goal.returns-clause-out_of_order
returns-clause-out_of_order c = no_second _ (2 ∷ 2 ∷ 1 ∷ 9 ∷ []) (2 ∷ []) None refl refl (omega arith) refl
