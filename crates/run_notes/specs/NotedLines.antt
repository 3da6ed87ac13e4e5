-- What was noted of some lines, and what failed notes leave (docs/PROMISES.md, "The headline").
use Rattle.std.specs.Prelude.{◌≡◌, ℕ, ◌+◌, ◌≤◌, Bool, true, false, List, []}
use Rattle.ziti_outside.specs.Causes.{Rose}
use Rattle.ziti_outside.specs.Moments.{Elapses}
use Rattle.ziti_outside.specs.Told.{Took, TookFront}
use Rattle.ziti_outside.specs.Views.{Seen, Stopped}

-- A count of faults did not fall, and rose by one at most.
pub record RisesOnce (before now : ℕ) : Type 0 where
  pub later : before ≤ now
  pub once : now ≤ before + 1

-- These lines were noted: all of them where the count of failed notes did not rise, else a front of them. Where there are none, the notes and
-- that count are as they were.
pub record NotesLines (lines : List ℕ) (before now : Seen) : Type 0 where
  pub part : TookFront before.noted now.noted lines
  pub whole : (Rose before.note_faults now.note_faults → ⊥) → Took before.noted now.noted lines
  pub none : lines ≡ [] → (now.noted ≡ before.noted) × (now.note_faults ≡ before.note_faults)

-- The notes are as they were, and no fault of theirs was counted.
pub record LeavesNotes {D : Type 0} (seen : D → Seen) (old new : D) : Type 0 where
  pub notes : (seen new).noted ≡ (seen old).noted
  pub failed_notes : (seen new).note_faults ≡ (seen old).note_faults

-- Time went on, and a stop at a moment between leaves no image and no reply bytes that one might not have left before.
abbrev pub FindsNoMore : {D : Type 0} → (D → Stopped) → (old new : D) → Type 0
FindsNoMore stopped old new = Elapses (stopped old) (stopped new) (λ image taken. ⊥)

-- The lines were noted whole where no note failed, and the count of failed notes rose where one did.
abbrev pub IsNoteCaused : List ℕ → (before now : Seen) → Bool → Type 0
IsNoteCaused lines before now true = Took before.noted now.noted lines × (now.note_faults ≡ before.note_faults)
IsNoteCaused lines before now false = Rose before.note_faults now.note_faults
