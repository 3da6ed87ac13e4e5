-- What the counts of failed calls say of how a run ended. Only private contracts cite these.
use Rattle.std.specs.Prelude.{◌≡◌, ℕ, List}
use Rattle.std.specs.declared.option.Option.{Option}
use Rattle.ziti_outside.specs.Causes.{Rose}
use Rattle.ziti_outside.specs.Views.{Seen}
use Rattle.run_notes.specs.NotedLines.{RisesOnce}
use Rattle.run_notes.specs.declared.status.Status.{Status}
use Rattle.run_notes.specs.declared.status.Status.TheVariants.{ReadFault, WriteFault, DiskFault}
use Rattle.serve_loop.specs.Failures.{TakesUntilFailure}

-- A write fault came only where the count of failed says rose, by one at most, and it stays where no write fault came.
pub record IsWriteCaused (before now : ℕ) (status : Status) : Type 0 where
  pub counted : RisesOnce before now
  pub calm : (status ≡ WriteFault → ⊥) → now ≡ before
  pub rose : status ≡ WriteFault → Rose before now

-- A disk fault came only where the count of failed calls on the disk rose, by one at most, and it stays where no disk fault came.
pub record IsDiskCaused (before now : ℕ) (status : Status) : Type 0 where
  pub counted : RisesOnce before now
  pub calm : (status ≡ DiskFault → ⊥) → now ≡ before
  pub rose : status ≡ DiskFault → Rose before now

-- Each fault comes only where its count rose, no count falls or rises by more than one, and a failed take is the last.
pub record CountsFaults {S D : Type 0} (left : S → Option (List ℕ)) (faults : S → ℕ) (seen : D → Seen) (source source_now : S) (desk desk_now : D) (status : Status) : Type 0 where
  pub read_fault : status ≡ ReadFault → Rose (faults source) (faults source_now)
  pub failed_take : (status ≡ ReadFault → ⊥) → faults source_now ≡ faults source
  pub write : IsWriteCaused (seen desk).say_faults (seen desk_now).say_faults status
  pub disk : IsDiskCaused (seen desk).disk_faults (seen desk_now).disk_faults status
  pub read_faults_once : RisesOnce (faults source) (faults source_now)
  pub note_faults_once : RisesOnce (seen desk).note_faults (seen desk_now).note_faults
  pub takes_until_failure : TakesUntilFailure left faults source source_now
