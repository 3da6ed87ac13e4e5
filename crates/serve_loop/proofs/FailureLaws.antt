-- What failed calls on the outside leave.
use Rattle.std.proofs.Common.{◌≡◌, ◌∙◌, inl, inr, ℕ, ◌<◌, List, [], ◌∷◌, ◌++◌, get_or, refl, sym, ap, arith}
use Rattle.std.proofs.lemmas.Bool.{cases_eq}
use Rattle.std.proofs.KnownBytes.{Keeps-refl}
use Rattle.std.specs.declared.option.Option.{Option}
use Rattle.ziti_outside.specs.Told.{Gave}
use Rattle.ziti_outside.proofs.Moves.{Gave-none, Gave-then}
use Rattle.run_notes.specs.Statuses.{number_of}
use Rattle.run_notes.specs.declared.status.Status.{Status}
use Rattle.run_notes.specs.declared.status.Status.TheVariants.{Done, Usage, BadInput, Truncated, ReadFault, WriteFault, DiskFault, Damaged, NoMemory, InputTooLong, FolderFull}
use Rattle.serve_loop.specs.Failures.{TakesUntilFailure}

-- No take has failed so far.
pub takes_so_far : {S : Type 0} {left : S → Option (List ℕ)} {faults : S → ℕ} (old now : S) (taken : List ℕ)
    → Gave (left old) (left now) taken → faults now ≡ faults old → TakesUntilFailure left faults old now
takes_so_far {S} {left} old now taken gave calm = record { until = now; taken = taken; gave = gave; calm = calm; nothing_more = Keeps-refl (left now) }

-- Nor with one take more.
pub takes_more : {S : Type 0} {left : S → Option (List ℕ)} {faults : S → ℕ} (old mid now : S) (taken piece : List ℕ)
    → Gave (left old) (left mid) taken → Gave (left mid) (left now) piece → faults now ≡ faults mid → faults mid ≡ faults old → TakesUntilFailure left faults old now
takes_more {S} {left} old mid now taken piece gave more calm before =
    takes_so_far old now (taken ++ piece) (Gave-then (left old) (left mid) (left now) taken piece gave more) (calm ∙ before)

-- Nothing was taken.
pub takes_none : {S : Type 0} {left : S → Option (List ℕ)} {faults : S → ℕ} (source : S) → TakesUntilFailure left faults source source
takes_none {S} {left} source = takes_so_far source source [] (Gave-none (left source)) refl

-- ---- the status tells what failed

-- The status of each number.
abbrev status_with : ℕ → Status
status_with n = get_or (Done ∷ Usage ∷ BadInput ∷ Truncated ∷ ReadFault ∷ WriteFault ∷ DiskFault ∷ Damaged ∷ NoMemory ∷ InputTooLong ∷ FolderFull ∷ []) n Done

of_its_number : (status : Status) → status_with (number_of status) ≡ status
of_its_number Done = refl
of_its_number Usage = refl
of_its_number BadInput = refl
of_its_number Truncated = refl
of_its_number ReadFault = refl
of_its_number WriteFault = refl
of_its_number DiskFault = refl
of_its_number Damaged = refl
of_its_number NoMemory = refl
of_its_number InputTooLong = refl
of_its_number FolderFull = refl

-- Statuses of one number are the same.
same_number : (a b : Status) → number_of a ≡ number_of b → a ≡ b
same_number a b e = sym (of_its_number a) ∙ ap status_with e ∙ of_its_number b

-- Where a count stays at every other status and rose, it is this one.
pub told_status : (wanted status : Status) (before now : ℕ) → ((status ≡ wanted → ⊥) → now ≡ before) → before < now → status ≡ wanted
told_status wanted status before now calm rose =
    elim (cases_eq (number_of status) (number_of wanted)) as (λ _. status ≡ wanted) [
      | inl e ↦ same_number status wanted e
      | inr other ↦ let same = calm (λ is. other (ap number_of is)) in absurd (omega (arith, same, rose))
    ]
