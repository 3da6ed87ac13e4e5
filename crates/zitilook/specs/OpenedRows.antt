-- The rows of a folder that was opened for reading, and why one was not (docs/FORMATS.md, "Damage").
use Rattle.std.specs.Prelude.{◌≡◌, ⊤, true, List}
use Rattle.ctrl_model.specs.State.{State, start}
use Rattle.ctrl_model.specs.ValidState.{ValidState}
use Rattle.row_codec.specs.declared.changes.Op.{Op}
use Rattle.row_codec.specs.Batches.{batch_between}
use Rattle.row_codec.specs.StateRows.{HasRows}
use Rattle.ctrl_model.specs.declared.formats.Format.{Format}
use Rattle.ctrl_core.specs.KeptState.{Cored}
use Rattle.ctrl_keep.specs.declared.faults.KeepFault.{KeepFault}
use Rattle.ctrl_keep.specs.declared.faults.KeepFault.TheVariants.{Disk, Full, MarkFull, Damaged, Spent, NoMemory}

-- A batch puts all rows of a valid state in a format.
pub record AreThoseOf (format : Format) (s : State) (ops : List Op) : Type 0 where
  pub valid : ValidState s
  pub has : HasRows format s
  pub puts : ops ≡ batch_between format start s

-- What a folder was opened to: a live core in a valid state, and the puts of all rows of this state in a format.
pub record IsOpened (core : Cored) (format : Format) (puts : List Op) : Type 0 where
  pub live : core.live ≡ true
  pub those : AreThoseOf format core.state puts

-- A fault for which a folder may stay closed.
abbrev pub MayClose : KeepFault → Type 0
MayClose Disk = ⊤
MayClose Full = ⊥
MayClose MarkFull = ⊥
MayClose (Damaged part at) = ⊤
MayClose Spent = ⊥
MayClose NoMemory = ⊤
