use Rattle.std.proofs.Common.{◌≤◌, sym, subst, List, ℕ, length}
use Rattle.slot_reading.proofs.BatchLaws.{bytes_some}
use Rattle.row_store.proofs.committing.pack.Goals as goal

pub of-requires-clause-some : goal.of-requires-clause-some
of-requires-clause-some c = subst (λ (l : List ℕ). 1 ≤ length l) (sym c.in_ok-payload.ensures) (bytes_some c.args.batch.now c.requires.some)
