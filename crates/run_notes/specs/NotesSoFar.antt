-- What a run has noted so far. Only private contracts cite these.
use Rattle.std.specs.Prelude.{◌≡◌, ℕ, Bool, true, false, List, [], ◌++◌}
use Rattle.ziti_outside.specs.Causes.{Rose}
use Rattle.ziti_outside.specs.Told.{Took, TookFront}
use Rattle.ziti_outside.specs.Views.{Seen}
use Rattle.run_notes.specs.NotedLines.{RisesOnce}

-- So far these lines were to be noted, and no note failed: all were taken, and where there are none the notes are as they were. Or one failed,
-- and so there are some: a front of them was taken, and nothing is noted any more.
abbrev pub IsNoted : (failed : Bool) → List ℕ → (before now : Seen) → Type 0
IsNoted false lines before now = Took before.noted now.noted lines × (now.note_faults ≡ before.note_faults) × (lines ≡ [] → now.noted ≡ before.noted)
IsNoted true lines before now =
    TookFront before.noted now.noted lines × Rose before.note_faults now.note_faults × RisesOnce before.note_faults now.note_faults × (lines ≡ [] → ⊥)

-- These lines came behind all that was noted before, whatever it was.
abbrev pub NotesMore : (failed failed_now : Bool) → List ℕ → (before now : Seen) → Type 0
NotesMore failed failed_now lines before now =
    (first : List ℕ) (begun : Seen) → IsNoted failed first begun before → IsNoted failed_now (first ++ lines) begun now
