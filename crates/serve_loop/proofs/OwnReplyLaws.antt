-- What is seen of a desk whose reply bytes may not be the machine's.
use Rattle.std.specs.Prelude.{IsTrue, cond, None}
use Rattle.std.proofs.Common.{◌≡◌, Bool, true, false, List, ℕ, [], ◌++◌, refl, sym, ap, subst}
use Rattle.std.specs.declared.option.Option.{Option}
use Rattle.ziti_outside.specs.Images.{Image}
use Rattle.ziti_outside.specs.Moments.{Elapses}
use Rattle.ziti_outside.specs.Told.{Took, TookFront, IsFront}
use Rattle.ziti_outside.specs.Views.{Seen, Stopped}
use Rattle.run_notes.specs.NotesSoFar.{IsNoted, NotesMore}
use Rattle.serve_loop.specs.Answerers.{are_its_own, seen_by}

-- They are where the folder is told.
told_own : (by_folder tells : Bool) → IsTrue tells → are_its_own by_folder tells ≡ true
told_own false tells told = refl
told_own true tells told = told

-- And then all that is seen of a desk is told.
pub told_said : (by_folder tells : Bool) (seen : Seen) → IsTrue tells → (seen_by by_folder tells seen).said ≡ seen.said
told_said by_folder tells seen told = ap (λ (own : Bool). cond own seen.said None) (told_own by_folder tells told)

-- Where no reply was said none was told.
pub same_said : (by_folder tells : Bool) (before now : Seen) → now.said ≡ before.said → (seen_by by_folder tells now).said ≡ (seen_by by_folder tells before).said
same_said by_folder tells before now same = ap (λ (said : Option (List ℕ)). cond (are_its_own by_folder tells) said None) same

-- Bytes that were taken, where they are the machine's.
took_if : (own : Bool) (before now : Option (List ℕ)) (bytes : List ℕ) → (own ≡ true → Took before now bytes) → Took (cond own before None) (cond own now None) bytes
took_if true before now bytes took = took refl
took_if false before now bytes took = tt

pub took_own : (by_folder tells : Bool) (before now : Seen) (bytes : List ℕ) → (are_its_own by_folder tells ≡ true → Took before.said now.said bytes)
    → Took (seen_by by_folder tells before).said (seen_by by_folder tells now).said bytes
took_own by_folder tells before now bytes took = took_if (are_its_own by_folder tells) before.said now.said bytes took

-- And a front of them.
front_if : (own : Bool) (before now : Option (List ℕ)) (bytes : List ℕ) → (own ≡ true → TookFront before now bytes) → TookFront (cond own before None) (cond own now None) bytes
front_if true before now bytes took = took refl
front_if false before now bytes took = ([], (bytes, refl), tt)

pub front_own : (by_folder tells : Bool) (before now : Seen) (bytes : List ℕ) → (are_its_own by_folder tells ≡ true → TookFront before.said now.said bytes)
    → TookFront (seen_by by_folder tells before).said (seen_by by_folder tells now).said bytes
front_own by_folder tells before now bytes took = front_if (are_its_own by_folder tells) before.said now.said bytes took

-- What a stop finds of a told folder.
pub stops_own : {old new : Stopped} (by_folder tells : Bool) (seen : Seen) (finds : Option (List ℕ) → Image → List ℕ → Type 0) → (IsTrue tells → are_its_own by_folder tells ≡ true → Elapses old new (finds seen.said))
    → IsTrue tells → Elapses old new (finds (seen_by by_folder tells seen).said)
stops_own {old} {new} by_folder tells seen finds stops told =
    subst (λ (said : Option (List ℕ)). Elapses old new (finds said)) (sym (told_said by_folder tells seen told)) (stops told (told_own by_folder tells told))

-- Notes are told as ever.
noted_by : (failed by_folder tells : Bool) (lines : List ℕ) (begun now : Seen) → IsNoted failed lines begun now → IsNoted failed lines begun (seen_by by_folder tells now)
noted_by false by_folder tells lines begun now noted = noted
noted_by true by_folder tells lines begun now noted = noted

noted_of : (failed by_folder tells : Bool) (lines : List ℕ) (begun now : Seen) → IsNoted failed lines begun (seen_by by_folder tells now) → IsNoted failed lines begun now
noted_of false by_folder tells lines begun now noted = noted
noted_of true by_folder tells lines begun now noted = noted

pub more_by : (by_folder tells : Bool) (failed failed_now : Bool) (lines : List ℕ) (before now : Seen) → NotesMore failed failed_now lines before now
    → NotesMore failed failed_now lines (seen_by by_folder tells before) (seen_by by_folder tells now)
more_by by_folder tells failed failed_now lines before now more =
    λ first begun noted. noted_by failed_now by_folder tells (first ++ lines) begun now (more first begun (noted_of failed by_folder tells first begun before noted))
