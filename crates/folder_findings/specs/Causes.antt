-- Why a folder opens to no state, as the bytes at the place of the damage tell it (docs/FORMATS.md, "Damage").
use Rattle.std.specs.Prelude.{◌≡◌, ℕ, ◌<◌, List}
use Rattle.journal_core.specs.Slots.{IsClosed, IsRecord, IsDamaged}
use Rattle.row_codec.specs.declared.changes.Op.{Op}
use Rattle.row_codec.specs.Batches.{Spells}
use Rattle.folder_findings.specs.declared.causes.Cause.{Cause}
use Rattle.folder_findings.specs.declared.causes.Cause.TheVariants.{NoHeader, NoGate, NoBatch, NoNext, NoState}

-- What stands at the place at which some bytes are damaged, by the cause: it is the front; no closed gate and no whole record; a record that
-- spells no batch; one that spells one; or a closed gate.
abbrev pub IsCauseAt : (at : ℕ) → List ℕ → Cause → Type 0
IsCauseAt at bytes NoHeader = at ≡ 0
IsCauseAt at bytes NoGate = (0 < at) × IsDamaged at bytes
IsCauseAt at bytes NoBatch = (0 < at) × ((payload : List ℕ) × IsRecord at payload bytes × ((ops : List Op) → Spells payload ops → ⊥))
IsCauseAt at bytes NoNext = (0 < at) × ((payload : List ℕ) × IsRecord at payload bytes × ((ops : List Op) × Spells payload ops))
IsCauseAt at bytes NoState = (0 < at) × IsClosed at bytes

-- Why a record whose payload this is may be damage: it spells no batch, or one that does not go on from the rows before it. The others never
-- come.
abbrev pub IsRecordCause : List ℕ → Cause → Type 0
IsRecordCause payload NoHeader = ⊥
IsRecordCause payload NoGate = ⊥
IsRecordCause payload NoBatch = (ops : List Op) → Spells payload ops → ⊥
IsRecordCause payload NoNext = (ops : List Op) × Spells payload ops
IsRecordCause payload NoState = ⊥
