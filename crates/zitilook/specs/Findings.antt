-- What a run says that looks for what is wrong with a folder.
use Rattle.std.specs.Prelude.{◌≡◌, ◌⊎◌, ℕ, Bool, true, false, IsTrue, List}
use Rattle.std.specs.declared.option.Option.{Option}
use Rattle.ziti_outside.specs.Told.{Took, TookFront}
use Rattle.ziti_outside.specs.Images.{Image}
use Rattle.ziti_outside.specs.Views.{Seen}
use Rattle.ctrl_model.specs.State.{State}
use Rattle.row_store.specs.OpenedStates.{IsStateless, OpensToState}
use Rattle.run_notes.specs.NotedLines.{NotesLines}
use Rattle.folder_findings.specs.declared.causes.Verdict.{Verdict}
use Rattle.folder_findings.specs.declared.causes.Verdict.TheVariants.{Opens, Damaged as DamagedAt}
use Rattle.folder_findings.specs.declared.finding.FoundFiles.{FoundFiles}
use Rattle.folder_findings.specs.Causes.{IsCauseAt}
use Rattle.folder_findings.specs.FindingLines.{is_well, lines_of}
use Rattle.folder_findings.specs.FoundFiles.{found_files}
use Rattle.zitilook.specs.declared.status.Status.{Status}
use Rattle.zitilook.specs.declared.status.Status.TheVariants.{Done, Found, WriteFault, DiskFault, NoMemory}
use Rattle.zitilook.specs.Notes.{notes_of}

-- A folder opens to a state, or it opens to none: then the place of the damage is told, and what stands there.
abbrev pub IsVerdict : Image → Verdict → Type 0
IsVerdict image Opens = (s : State) × OpensToState image s
IsVerdict image (DamagedAt part at cause) = IsStateless image part at × IsCauseAt at (image part) cause

-- The status of a run that said all its findings: whether nothing is wrong.
abbrev pub found_status : Bool → Status
found_status true = Done
found_status false = Found

-- What a run that ended so has said of its findings: all, by whether nothing is wrong; a front where the say failed; and nothing where
-- memory was wanting. The other statuses never come.
abbrev pub SaysWhere : (well : Bool) → Status → List ℕ → Option (List ℕ) → Option (List ℕ) → Type 0
SaysWhere true Done text before now = Took before now text
SaysWhere false Found text before now = Took before now text
SaysWhere well WriteFault text before now = TookFront before now text
SaysWhere well NoMemory text before now = now ≡ before
SaysWhere _ _ text before now = ⊥

-- A run that says findings.
pub record SaysFindings (well : Bool) (text : List ℕ) (before now : Seen) (status : Status) : Type 0 where
  pub says : SaysWhere well status text before.said now.said
  pub notes : NotesLines (notes_of status) before now

-- A run that says what is found in the files of the folder, and whether it opens to a state.
pub record TellsFindings (tells : Bool) (before now : Seen) (status : Status) : Type 0 where
  pub files : FoundFiles
  pub verdict : Verdict
  pub found : IsTrue tells → files ≡ found_files before.reads
  pub judged : IsTrue tells → IsVerdict before.reads verdict
  pub says : SaysFindings (is_well files verdict) (lines_of files verdict) before now status

-- A run that did not read the folder to its end: a call on the disk failed, or memory was wanting.
pub record TellsNothing (before now : Seen) (status : Status) : Type 0 where
  pub says_nothing : now.said ≡ before.said
  pub why : (status ≡ DiskFault) ⊎ (status ≡ NoMemory)
  pub notes : NotesLines (notes_of status) before now

-- A run that looks for what is wrong with the folder, whether it opens to a state or not.
abbrev pub Examines : (tells : Bool) → (before now : Seen) → Status → Type 0
Examines tells before now status = TellsNothing before now status ⊎ TellsFindings tells before now status
