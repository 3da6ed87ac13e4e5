-- What a line comes to before the lines behind it, and what all lines come to.
use Rattle.std.proofs.Common.{◌≡◌, ℕ, ◌+◌, Bool, true, false, cond, List, [], ◌∷◌, ◌++◌, None, Some, Ok, Err, refl, sym, ap, ◌∙◌, append_assoc, append-nil}
use Rattle.std.specs.declared.option.Option.{Option}
use Rattle.std.specs.declared.result.Result.{Result}
use Rattle.ctrl_model.specs.declared.replies.Reply.{Reply}
use Rattle.ctrl_model.specs.declared.replies.Reply.TheVariants as reply
use Rattle.ctrl_model.specs.State.{State}
use Rattle.command_codec.specs.BodyMeaning.{meaning}
use Rattle.frame_lines.specs.declared.lines.Line.{Line}
use Rattle.frame_lines.specs.declared.lines.LineCause.{LineCause}
use Rattle.frame_lines.specs.declared.lines.LineFault.{LineFault}
use Rattle.frame_lines.specs.LineReading.{said_by}
use Rattle.frame_lines.specs.TextLines.{passes}
use Rattle.frame_lines.specs.TextReading.{fault_from, or_fault}
use Rattle.frame_lines.proofs.TurnLaws.{fault_at}
use Rattle.change_plans.specs.PlannedLines.{Outcome, RefusedLine, and_planned, and_refused, line_answer, planned, planned_from, refused_lines}
use Rattle.change_plans.specs.PlanTurns.{GoesOn, PlansLine, refusal_told}

-- ---- a line

-- the line of a refusal stands before those of the lines behind
told_before : (number : ℕ) (r : Reply) (later : List RefusedLine) → refused_lines (and_refused number r later) ≡ refusal_told number r ++ refused_lines later
told_before number (reply.Refused why) later = refl
told_before number reply.Empty later = refl
told_before number r later = refl

planned_at : (line : List ℕ) (lines : List (List ℕ)) (number : ℕ) (s : State) (said : Result Line LineCause) → passes line ≡ false → said_by line ≡ said
    → planned_from (line ∷ lines) number s ≡ and_planned number said s (planned_from lines (number + 1))
planned_at line lines number s said passes_not is =
    ap (λ (t : Bool). cond t (planned_from lines (number + 1) s) (and_planned number (said_by line) s (planned_from lines (number + 1)))) passes_not
    ∙ ap (λ (x : Result Line LineCause). and_planned number x s (planned_from lines (number + 1))) is

-- one that passes
pub goes_passed : (number : ℕ) (line : List ℕ) (s : State) (out : List ℕ) → passes line ≡ true → GoesOn number line s s out out
goes_passed number line s out is = record {
  state = λ lines. ap (λ (o : Outcome). o.0) (passed lines);
  refused = λ lines. ap (λ (o : Outcome). out ++ refused_lines o.1) (passed lines);
  fault = λ lines. sym (ap (λ (t : Bool). cond {A = Option LineFault} t (fault_from lines (number + 1)) (or_fault number (said_by line) (fault_from lines (number + 1)))) is);
}
  where
    passed : (lines : List (List ℕ)) → planned_from lines (number + 1) s ≡ planned_from (line ∷ lines) number s
    passed lines = sym (ap (λ (t : Bool). cond t (planned_from lines (number + 1) s) (and_planned number (said_by line) s (planned_from lines (number + 1)))) is)

-- one that says a frame
pub goes_answered : (number : ℕ) (line : List ℕ) (said : Line) (s t : State) (before now : List ℕ) → passes line ≡ false → said_by line ≡ Ok said → PlansLine number said s t before now
    → GoesOn number line s t before now
goes_answered number line said s t before now passes_not is plans = record {
  state = λ lines.
      ap (λ (u : State). (planned_from lines (number + 1) u).0) plans.next ∙ sym (ap (λ (o : Outcome). o.0) (planned_at line lines number s (Ok said) passes_not is));
  refused = λ lines.
      let later : List RefusedLine = (planned_from lines (number + 1) t).1 in
      ap (λ (out : List ℕ). out ++ refused_lines later) plans.told
      ∙ append_assoc before (refusal_told number answered.0) (refused_lines later)
      ∙ ap (λ (out : List ℕ). before ++ out) (sym (told_before number answered.0 later))
      ∙ ap (λ (u : State). before ++ refused_lines (and_refused number answered.0 (planned_from lines (number + 1) u).1)) plans.next
      ∙ sym (ap (λ (o : Outcome). before ++ refused_lines o.1) (planned_at line lines number s (Ok said) passes_not is));
  fault = λ lines. sym (fault_at line lines number (Ok said) passes_not is);
}
  where
    answered : Reply × State
    answered = line_answer (meaning said.content said.body) s

-- one that says none
pub goes_not : (number : ℕ) (line : List ℕ) (cause : LineCause) → passes line ≡ false → said_by line ≡ Err cause
    → (lines : List (List ℕ)) → fault_from (line ∷ lines) number ≡ Some (record { line = number; cause = cause })
goes_not number line cause passes_not is lines = fault_at line lines number (Err cause) passes_not is

-- ---- a line that says something

pub plans : (number : ℕ) (line : Line) (s t : State) (before now : List ℕ) (r : Reply) → (r, t) ≡ line_answer (meaning line.content line.body) s → now ≡ before ++ refusal_told number r
    → PlansLine number line s t before now
plans number line s t before now r answered told = record {
  next = ap (λ (a : Reply × State). a.1) answered;
  told = told ∙ ap (λ (a : Reply × State). before ++ refusal_told number a.0) answered;
}

-- ---- all lines

-- so far: what the rest still comes to is what all lines come to, and the fault of the rest is the fault
pub record SoFar (all rest : List (List ℕ)) (number : ℕ) (start now : State) (out : List ℕ) : Type 0 where
  pub state : (planned_from rest number now).0 ≡ (planned all start).0
  pub refused : out ++ refused_lines (planned_from rest number now).1 ≡ refused_lines (planned all start).1
  pub fault : fault_from rest number ≡ fault_from all 1

pub starts : (all : List (List ℕ)) (s : State) → SoFar all all 1 s s []
starts all s = record { state = refl; refused = refl; fault = refl }

-- a line more
pub goes : (all rest behind : List (List ℕ)) (line : List ℕ) (number : ℕ) (start mid now : State) (before out : List ℕ)
    → SoFar all rest number start mid before → rest ≡ line ∷ behind → GoesOn number line mid now before out → SoFar all behind (number + 1) start now out
goes all rest behind line number start mid now before out so is turned = record {
  state = turned.state behind ∙ ap (λ (ls : List (List ℕ)). (planned_from ls number mid).0) (sym is) ∙ so.state;
  refused = turned.refused behind ∙ ap (λ (ls : List (List ℕ)). before ++ refused_lines (planned_from ls number mid).1) (sym is) ∙ so.refused;
  fault = turned.fault behind ∙ ap (λ (ls : List (List ℕ)). fault_from ls number) (sym is) ∙ so.fault;
}

-- a line that says no frame
pub fails : (all rest behind : List (List ℕ)) (line : List ℕ) (number : ℕ) (start now : State) (out : List ℕ) (cause : LineCause)
    → SoFar all rest number start now out → rest ≡ line ∷ behind
    → ((lines : List (List ℕ)) → fault_from (line ∷ lines) number ≡ Some (record { line = number; cause = cause }))
    → fault_from all 1 ≡ Some (record { line = number; cause = cause })
fails all rest behind line number start now out cause so is fault = sym so.fault ∙ ap (λ (ls : List (List ℕ)). fault_from ls number) is ∙ fault behind

-- the end of the lines
pub ends : (all rest : List (List ℕ)) (number : ℕ) (start now : State) (out : List ℕ) → SoFar all rest number start now out → rest ≡ []
    → ((planned all start).0 ≡ now) × (out ≡ refused_lines (planned all start).1) × (fault_from all 1 ≡ None)
ends all rest number start now out so is = (
  sym so.state ∙ ap (λ (ls : List (List ℕ)). (planned_from ls number now).0) is,
  sym (append-nil out) ∙ sym (ap (λ (ls : List (List ℕ)). out ++ refused_lines (planned_from ls number now).1) is) ∙ so.refused,
  sym so.fault ∙ ap (λ (ls : List (List ℕ)). fault_from ls number) is,
)
