use Rattle.std.specs.Prelude.{true, false}
use Rattle.std.proofs.Common.{◌≡◌, ◌⊎◌, inl, inr, ℕ, List, [], ◌∷◌, ◌++◌, Some, refl, ◌∙◌, append-nil, arith}
use Rattle.ziti_outside.specs.declared.desk.Part.TheVariants.{Zero}
use Rattle.session_mux.specs.declared.events.Event.{Event}
use Rattle.session_mux.specs.declared.events.Event.TheVariants.{Arrived}
use Rattle.session_mux.specs.declared.sessions.Form.TheVariants.{Plain}
use Rattle.run_notes.specs.declared.status.Status.TheVariants.{Done, Truncated}
use Rattle.run_notes.specs.Notes.{damaged_note}
use Rattle.ctrl_serve.specs.RunStops.{IsBetween, IsWithin}
use Rattle.memory_runs.specs.WholeReplays.{bounds, new_machine}
use Rattle.memory_runs.specs.WorkedReplays.{no_parts}
use Rattle.memory_runs.proofs.SeenReplays.{some_is}
use Rattle.memory_runs.proofs.laws.worked_replays.Goals as goal

pub returns-clause-noted : goal.returns-clause-noted
returns-clause-noted c = record { part = 1 ∷ 2 ∷ []; front = ([], refl); noted = refl; whole = λ calm. refl }

pub returns-clause-noted_in_part : goal.returns-clause-noted_in_part
returns-clause-noted_in_part c = record { part = 1 ∷ []; front = (2 ∷ [], refl); noted = refl; whole = λ calm. absurd (omega (arith, calm)) }

pub returns-clause-noted_too_little : goal.returns-clause-noted_too_little
returns-clause-noted_too_little c n = too_little n.part (some_is (1 ∷ []) n.part n.noted) (n.whole refl)
  where
    too_little : (part : List ℕ) → 1 ∷ [] ≡ part → part ≡ 1 ∷ 2 ∷ [] → ⊥
    too_little [] e f = cc
    too_little (x ∷ []) e f = cc
    too_little (x ∷ y ∷ ys) e f = cc

pub returns-clause-noted_else : goal.returns-clause-noted_else
returns-clause-noted_else c n = else_by n.part n.front.0 (some_is (2 ∷ []) n.part n.noted) n.front.1
  where
    else_by : (part more : List ℕ) → 2 ∷ [] ≡ part → part ++ more ≡ 1 ∷ 2 ∷ [] → ⊥
    else_by [] more e f = cc
    else_by (x ∷ xs) more e f = cc

pub returns-clause-new : goal.returns-clause-new
returns-clause-new c = record { told = refl; unsaid = refl; unnoted = refl; calm = refl; first = refl; still = λ image is. is }

pub returns-clause-no_longer_new : goal.returns-clause-no_longer_new
returns-clause-no_longer_new c n = let none : 1 ∷ [] ≡ [] = some_is (1 ∷ []) [] n.unsaid in cc

pub returns-clause-untold : goal.returns-clause-untold
returns-clause-untold c n = let told : false ≡ true = n.told in cc

pub returns-clause-refused : goal.returns-clause-refused
returns-clause-refused c =
    record { ends = refl; said = refl; lines = record { part = damaged_note Zero 0; front = ([], append-nil (damaged_note Zero 0)); noted = refl; whole = λ calm. refl }; same = refl }

pub returns-clause-refused_with_a_reply : goal.returns-clause-refused_with_a_reply
returns-clause-refused_with_a_reply c r = let none : 1 ∷ [] ≡ [] = some_is (1 ∷ []) [] r.said in cc

pub returns-clause-nothing_is_answered : goal.returns-clause-nothing_is_answered
returns-clause-nothing_is_answered c w = let none : 1 ∷ [] ≡ [] = some_is (1 ∷ []) [] w.said in cc

pub returns-clause-nothing_is_left : goal.returns-clause-nothing_is_left
returns-clause-nothing_is_left c w = let ends : Truncated ≡ Done = w.ends in cc

-- A stop among no events finds no reply byte.
finds_none : (answered unanswered : List Event) → answered ++ unanswered ≡ []
    → IsBetween Plain bounds new_machine (Some []) no_parts (1 ∷ []) answered ⊎ IsWithin Plain bounds new_machine (Some []) no_parts (1 ∷ []) answered unanswered → ⊥
finds_none [] [] e (inl b) = let none : 1 ∷ [] ≡ [] = b.replies in cc
finds_none [] [] e (inr w) = let first : [] ≡ Arrived w.session w.frame ∷ w.later = w.first in cc
finds_none [] (x ∷ xs) e f = absurd cc
finds_none (x ∷ xs) ys e f = absurd cc

pub returns-clause-no_reply_is_found : goal.returns-clause-no_reply_is_found
returns-clause-no_reply_is_found c s =
    let stop = s.finds no_parts (1 ∷ []) (refl, refl) in
    finds_none stop.answered stop.unanswered stop.split stop.finds
