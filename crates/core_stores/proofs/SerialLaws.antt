-- A batch that changes something has the put of the next serial behind it.
use Rattle.std.proofs.Common.{◌≡◌, ℕ, ◌+◌, List, [], ◌∷◌, ◌++◌, refl}
use Rattle.row_codec.specs.declared.changes.Op.{Op}
use Rattle.row_codec.specs.Batches.{batch_of}
use Rattle.row_writing.specs.RecordChanges.{serial_change_of}
use Rattle.core_stores.specs.Serials.{with_serial}

pub with_some : (serial : ℕ) (ops : List Op) → (ops ≡ [] → ⊥) → with_serial serial ops ≡ ops ++ batch_of (serial_change_of serial (serial + 1) ∷ [])
with_some serial [] some = absurd (some refl)
with_some serial (o ∷ os) some = refl
