-- What is put behind a text, piece by piece.
use Rattle.std.proofs.Common.{◌≡◌, ℕ, Bool, List, ◌++◌, ◌∙◌, ap, codes, append_assoc, Result, OnOk}
use Rattle.std.proofs.lemmas.Result.{on_ok_weaker}
use Rattle.ctrl_model.specs.declared.kinds.Precedence.{Precedence}
use Rattle.network_picture.specs.Pictures.{edge_from, edge_to, terminator_drawn, terminator_stroke, terminator_word}

-- a word that was put before what is put now is put with it
pub put_behind : {T E : Type 0} (r : Result T E) (old word between new more : List ℕ) → between ≡ old ++ word → OnOk r (new ≡ between ++ more)
    → OnOk r (new ≡ old ++ (word ++ more))
put_behind r old word between new more is put = on_ok_weaker r (λ e. e ∙ ap (λ (t : List ℕ). t ++ more) is ∙ append_assoc old word more) put

-- the pieces of a terminator's line
pub terminator_put : {T E : Type 0} (r : Result T E) (marked : Bool) (n router service cost : ℕ) (p : Precedence) (stroke : List ℕ) (wide : ℕ) (old first second new : List ℕ)
    → stroke ≡ terminator_stroke marked p → wide ≡ cost → first ≡ old ++ edge_from router stroke → second ≡ first ++ terminator_word n
    → OnOk r (new ≡ second ++ edge_to wide (codes "s") service) → OnOk r (new ≡ old ++ terminator_drawn marked n router service cost p)
terminator_put r marked n router service cost p stroke wide old first second new stroke_is wide_is first_is second_is put =
    put_behind r old (edge_from router (terminator_stroke marked p)) first new (terminator_word n ++ edge_to cost (codes "s") service)
    (first_is ∙ ap (λ (t : List ℕ). old ++ edge_from router t) stroke_is)
    (put_behind r first (terminator_word n) second new (edge_to cost (codes "s") service) second_is
    (on_ok_weaker r (λ e. e ∙ ap (λ (c : ℕ). second ++ edge_to c (codes "s") service) wide_is) put))
