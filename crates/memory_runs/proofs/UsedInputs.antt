-- What was taken of an input decides what all of it does.
use Rattle.std.specs.Prelude.{true, false, Bool}
use Rattle.std.proofs.Common.{◌≡◌, ℕ, ◌-◌, ◌<◌, ◌≤◌, ◌⊎◌, inl, inr, List, [], ◌++◌, length, take, Option, None, Some, refl, sym, ap, ◌∙◌, subst, append-nil, arith, length-append}
use Rattle.std.proofs.lemmas.Bool.{lt-ltb, cases_lt}
use Rattle.std.proofs.Math.Dec.{ltb}
use Rattle.std.proofs.Math.Seq.{take-append-add}
use Rattle.std.proofs.lemmas.List.{take_all, take-append-le}
use Rattle.std.specs.Io.KnownBytes.{IsAtEnd}
use Rattle.ziti_outside.specs.Told.{Gave}
use Rattle.session_mux.specs.declared.events.Event.{Event}
use Rattle.session_mux.specs.declared.sessions.Form.{Form}
use Rattle.run_notes.specs.Endings.{ending}
use Rattle.run_notes.specs.Inputs.{events_in}
use Rattle.ctrl_serve.specs.Reading.{is_decided}
use Rattle.ctrl_serve.proofs.DecidedInputs.{decided_events, decided_ending}

-- The used bytes of what was taken do all that those of the input do: they are all of these, or a front that decides them.
pub record AreAlike (form : Form) (these those : List ℕ) (over longer : Bool) : Type 0 where
  pub more : List ℕ
  pub split : these ++ more ≡ those
  pub all : is_decided form these ≡ false → more ≡ []
  pub events : events_in form these ≡ events_in form those
  pub ending : ending form these over ≡ ending form those longer

-- Where they decide it.
decided_alike : (form : Form) (these more those : List ℕ) (over longer : Bool) → these ++ more ≡ those → is_decided form these ≡ true → AreAlike form these those over longer
decided_alike form these more those over longer split is = record {
  more = more;
  split = split;
  all = λ none. absurd (let both : true ≡ false = sym is ∙ none in cc);
  events = sym (decided_events form these more is) ∙ ap (events_in form) split;
  ending = ap (λ (bytes : List ℕ). ending form bytes over) (sym (append-nil these)) ∙ decided_ending form these [] over is
      ∙ sym (decided_ending form these more longer is) ∙ ap (λ (bytes : List ℕ). ending form bytes longer) split;
}

-- Where they are all.
same_alike : (form : Form) (these those : List ℕ) (over longer : Bool) → these ≡ those → over ≡ longer → AreAlike form these those over longer
same_alike form these those over longer same even = record {
  more = [];
  split = append-nil these ∙ same;
  all = λ none. refl;
  events = ap (events_in form) same;
  ending = ap (λ (bytes : List ℕ). ending form bytes over) same ∙ ap (ending form those) even;
}

-- The used bytes of a front are a front of those of the whole.
front_used : (most : ℕ) (taken rest : List ℕ) → (most < length taken) ⊎ (length taken ≤ most) → (more : List ℕ) × (take most taken ++ more ≡ take most (taken ++ rest))
front_used most taken rest (inl more) = ([], append-nil (take most taken) ∙ sym (take-append-le most taken rest (omega (arith, more))))
front_used most taken rest (inr few) = (
  take (most - length taken) rest,
  ap (λ (bytes : List ℕ). bytes ++ take (most - length taken) rest) (take_all most taken few)
      ∙ sym (take-append-add taken rest (most - length taken))
      ∙ ap (λ (n : ℕ). take n (taken ++ rest)) (omega (arith, few)),
)

-- Where they do not decide it nothing is left, or more was taken than is used.
undecided_alike : (form : Form) (most : ℕ) (taken rest : List ℕ) → (rest ≡ []) ⊎ (most < length taken)
    → AreAlike form (take most taken) (take most (taken ++ rest)) (ltb most (length taken)) (ltb most (length (taken ++ rest)))
undecided_alike form most taken rest (inl none) =
    let same : taken ≡ taken ++ rest = sym (append-nil taken) ∙ ap (λ (bytes : List ℕ). taken ++ bytes) (sym none) in
    same_alike form (take most taken) (take most (taken ++ rest)) _ _ (ap (take most) same) (ap (λ (bytes : List ℕ). ltb most (length bytes)) same)
undecided_alike form most taken rest (inr more) =
    let long : most < length (taken ++ rest) = omega (arith, more, length-append taken rest) in
    same_alike form (take most taken) (take most (taken ++ rest)) _ _ (sym (take-append-le most taken rest (omega (arith, more))))
    (lt-ltb most (length taken) more ∙ sym (lt-ltb most (length (taken ++ rest)) long))

alike_by : (form : Form) (most : ℕ) (taken rest : List ℕ) (decided : Bool) → is_decided form (take most taken) ≡ decided → (decided ≡ false → (rest ≡ []) ⊎ (most < length taken))
    → AreAlike form (take most taken) (take most (taken ++ rest)) (ltb most (length taken)) (ltb most (length (taken ++ rest)))
alike_by form most taken rest true is on =
    let front = front_used most taken rest (cases_lt most (length taken)) in
    decided_alike form (take most taken) front.0 (take most (taken ++ rest)) _ _ front.1 is
alike_by form most taken rest false is on = undecided_alike form most taken rest (on refl)

pub alike : (form : Form) (most : ℕ) (input taken : List ℕ) (left : Option (List ℕ)) → Gave (Some input) left taken
    → (is_decided form (take most taken) ≡ false → IsAtEnd left ⊎ (most < length taken))
    → AreAlike form (take most taken) (take most input) (ltb most (length taken)) (ltb most (length input))
alike form most input taken None gave on = absurd gave
alike form most input taken (Some rest) gave on =
    subst (λ (bytes : List ℕ). AreAlike form (take most taken) (take most bytes) (ltb most (length taken)) (ltb most (length bytes))) (sym gave)
    (alike_by form most taken rest (is_decided form (take most taken)) refl on)
