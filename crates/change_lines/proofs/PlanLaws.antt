-- What is told of changes and of refusals is what a plan tells.
use Rattle.std.proofs.Common.{◌≡◌, ◌↔◌, ℕ, suc, ◌==◌, not, Bool, false, IsTrue, List, [], ◌∷◌, ◌++◌, length, refl, sym, ◌∙◌, ap, subst, arith}
use Rattle.std.proofs.lemmas.Bool.Decides.{nat_tests}
use Rattle.ctrl_model.specs.State.{State}
use Rattle.frame_lines.specs.TextLines.{lines_of}
use Rattle.change_plans.specs.PlannedLines.{RefusedLine, planned, refused_lines}
use Rattle.change_lines.specs.declared.planning.Plan.{Plan}
use Rattle.change_lines.specs.ChangeLines.{change_lines}
use Rattle.change_lines.specs.PlanParts.{Joins}
use Rattle.change_lines.specs.PlanTexts.{IsPlan}

-- whether a text is empty, as the code asks
pub some_text : (text : List ℕ) (empty : Bool) → empty ≡ (length text == 0) → IsTrue (not empty) ↔ (text ≡ [] → ⊥)
some_text [] empty is = subst (λ (b : Bool). IsTrue (not b) ↔ (◌≡◌ {A = List ℕ} [] [] → ⊥)) (sym is) (λ told. absurd cc, λ some. absurd (some refl))
some_text (b ∷ text) empty is =
    subst (λ (t : Bool). IsTrue (not t) ↔ ((b ∷ text) ≡ [] → ⊥)) (sym (is ∙ longer (length text))) (λ told. (λ none. absurd cc), λ some. refl)
  where
    longer : (n : ℕ) → (suc n == 0) ≡ false
    longer n = grind (arith, nat_tests)

-- no line is told exactly where nothing is refused
none_refused : (refused : List RefusedLine) → refused_lines refused ≡ [] → refused ≡ []
none_refused [] e = refl
none_refused (r ∷ rs) e = absurd cc

pub is_plan : (s : State) (text out : List ℕ) (p : Plan) → out ≡ refused_lines (planned (lines_of text) s).1 → Joins (change_lines s (planned (lines_of text) s).0) out p
    → IsPlan s text p
is_plan s text out p is joins = record {
  told = joins.told ∙ ap (λ (o : List ℕ). change_lines s t ++ o) is;
  refuses = (
    λ told none. joins.refuses.0 told (is ∙ ap refused_lines none),
    λ some. joins.refuses.1 (λ none. some (none_refused refused (sym is ∙ none))),
  );
}
  where
    t : State
    t = (planned (lines_of text) s).0

    refused : List RefusedLine
    refused = (planned (lines_of text) s).1
