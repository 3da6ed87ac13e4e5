-- What was said of the replies where a run was cut short is a front of all.
use Rattle.std.proofs.Common.{◌≡◌, ℕ, ◌++◌, [], ◌∷◌, List, refl, sym, ap, ◌∙◌, append_assoc}
use Rattle.std.proofs.lemmas.Grind.{flat_map-append}
use Rattle.ziti_outside.specs.Told.{IsFront}
use Rattle.ziti_outside.proofs.Moves.{IsFront-then, IsFront-longer}
use Rattle.serve_loop.specs.Answerers.{Answerer}
use Rattle.session_mux.specs.declared.events.Event.{Event}
use Rattle.session_mux.specs.declared.events.Event.TheVariants.{Arrived}
use Rattle.session_mux.specs.declared.sessions.Form.{Form}
use Rattle.serve_loop.specs.SaidReplies.{SaysAll, SaysFront, joined, AreWhole, AreCut}
use Rattle.serve_loop.specs.AnsweredFrames.{replies_to, each_reply}
use Rattle.run_notes.specs.Inputs.{events_in}
use Rattle.run_notes.specs.KnownSessions.{known_in, known_along}
use Rattle.serve_loop.specs.KnownReplies.{machine_along, replies_along}
use Rattle.serve_loop.proofs.KnownLaws.{replies_then, replies_from_start}

-- Some replies and the others, joined.
parted : (done rest all : List (List ℕ)) → done ++ rest ≡ all → joined done ++ joined rest ≡ joined all
parted done rest all split = sym (flat_map-append (λ (x : List ℕ). x) done rest) ∙ ap joined split

-- Whole replies are a front of all.
pub whole_is_front : (said : List ℕ) (all : List (List ℕ)) → AreWhole said all → IsFront said (joined all)
whole_is_front said all w =
    (joined w.rest, ap (λ (l : List ℕ). l ++ joined w.rest) w.same ∙ parted w.done w.rest all w.split)

-- So are whole replies and a front of the next one.
pub cut_is_front : (said : List ℕ) (all : List (List ℕ)) → AreCut said all → IsFront said (joined all)
cut_is_front said all c =
    let part = IsFront-longer c.front c.next (joined c.rest) _ c.is_front refl in
    let whole = IsFront-then (joined c.done) c.front _ _ part (parted c.done (c.next ∷ c.rest) all c.split) in
    (whole.0, ap (λ (l : List ℕ). l ++ whole.0) c.same ∙ whole.1)

-- ---- the replies to the first events

-- Those to the others come behind them.
abbrev pub later_replies : {M : Type 0} → Form → Answerer M → M → (answered unanswered : List Event) → List (List ℕ)
later_replies form answerer m answered unanswered = replies_along form answerer unanswered (known_along answered (known_in form)) (machine_along answerer answered (known_in form) m)

pub replies_parted : {M : Type 0} (form : Form) (answerer : Answerer M) (m : M) (answered unanswered : List Event)
    → replies_to form answerer m answered ++ later_replies form answerer m answered unanswered ≡ replies_to form answerer m (answered ++ unanswered)
replies_parted form answerer m answered unanswered =
    ap (λ (rs : List (List ℕ)). rs ++ later_replies form answerer m answered unanswered) (sym (replies_from_start form answerer answered m))
    ∙ sym (replies_then form answerer answered unanswered (known_in form) m)
    ∙ replies_from_start form answerer (answered ++ unanswered) m

-- They are whole replies of all.
pub all_are_whole : {M : Type 0} (form : Form) (answerer : Answerer M) (m : M) (used said : List ℕ) (answered unanswered : List Event) → answered ++ unanswered ≡ events_in form used
    → SaysAll form answerer m said answered → AreWhole said (each_reply form answerer m used)
all_are_whole form answerer m used said answered unanswered split says = record {
  done = replies_to form answerer m answered;
  rest = later_replies form answerer m answered unanswered;
  split = replies_parted form answerer m answered unanswered ∙ ap (replies_to form answerer m) split;
  same = says;
}

-- And where the next reply was cut, whole replies and a front of it.
pub front_is_cut : {M : Type 0} (form : Form) (answerer : Answerer M) (m : M) (used said : List ℕ) (answered unanswered : List Event) → answered ++ unanswered ≡ events_in form used
    → SaysFront form answerer m said answered unanswered → AreCut said (each_reply form answerer m used)
front_is_cut form answerer m used said answered unanswered split says =
    let one : List Event = answered ++ Arrived says.session says.frame ∷ [] in
    let rest : List (List ℕ) = later_replies form answerer m one says.later in
    record {
      done = replies_to form answerer m answered;
      next = says.reply;
      rest = rest;
      split =
          sym (append_assoc (replies_to form answerer m answered) (says.reply ∷ []) rest)
          ∙ ap (λ (rs : List (List ℕ)). rs ++ rest) (sym says.is_reply)
          ∙ replies_parted form answerer m one says.later
          ∙ ap (replies_to form answerer m) (append_assoc answered (Arrived says.session says.frame ∷ []) says.later ∙ ap (λ (es : List Event). answered ++ es) (sym says.first) ∙ split);
      front = says.front;
      is_front = says.is_front;
      same = says.same;
    }
