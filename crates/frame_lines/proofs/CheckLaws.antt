-- All faults of a text, and what the check of a line puts down.
use Rattle.std.proofs.Common.{◌≡◌, ℕ, ◌+◌, ◌≤◌, Bool, true, false, cond, List, [], ◌∷◌, ◌++◌, length, None, Some, Ok, Err, refl, sym, ap, ◌∙◌, append_assoc, arith}
use Rattle.std.specs.declared.option.Option.{Option}
use Rattle.std.specs.declared.result.Result.{Result}
use Rattle.std.specs.List.{flat_map}
use Rattle.std.specs.Option.{option_or}
use Rattle.frame_lines.specs.declared.lines.Line.{Line}
use Rattle.frame_lines.specs.declared.lines.LineCause.{LineCause}
use Rattle.frame_lines.specs.declared.lines.LineFault.{LineFault}
use Rattle.frame_lines.specs.TextLines.{lines_of, passes}
use Rattle.frame_lines.specs.LineWords.{behind_word}
use Rattle.frame_lines.specs.LineReading.{said_by}
use Rattle.frame_lines.specs.TextReading.{or_fault, fault_from, fault_said}
use Rattle.frame_lines.specs.TextFaults.{TextFault, fault_with, and_faults, faults_from, faults_of, first_fault, fault_line}
use Rattle.frame_lines.specs.CheckTurns.{ChecksLine}
use Rattle.frame_lines.proofs.TurnLaws.{fault_at}

-- ---- what stands behind a word is no longer than the line

behind_at : (t : Bool) (b : ℕ) (line : List ℕ) → length (behind_word line) ≤ length line → length (cond t line (behind_word line)) ≤ length (b ∷ line)
behind_at true b line later = omega arith
behind_at false b line later = omega (arith, later)

pub behind_fits : (line : List ℕ) → length (behind_word line) ≤ length line
behind_fits [] = omega arith
behind_fits (b ∷ line) = behind_at _ b line (behind_fits line)

-- ---- the first fault

first_with : (said : Result Line LineCause) (number : ℕ) (line : List ℕ) (later : List TextFault) (rest : Option LineFault) → first_fault later ≡ rest
    → first_fault (and_faults number line said later) ≡ or_fault number said rest
first_with (Err cause) number line later rest is = refl
first_with (Ok said) number line later rest is = is

first_at : (t : Bool) (said : Result Line LineCause) (number : ℕ) (line : List ℕ) (later : List TextFault) (rest : Option LineFault) → first_fault later ≡ rest
    → first_fault (cond t later (and_faults number line said later)) ≡ cond {A = Option LineFault} t rest (or_fault number said rest)
first_at true said number line later rest is = is
first_at false said number line later rest is = first_with said number line later rest is

pub first_from : (lines : List (List ℕ)) (number : ℕ) → first_fault (faults_from lines number) ≡ fault_from lines number
first_from [] number = refl
first_from (line ∷ lines) number =
    first_at (passes line) (said_by line) number line (faults_from lines (number + 1)) (fault_from lines (number + 1)) (first_from lines (number + 1))

none_first : (faults : List TextFault) → first_fault faults ≡ None → faults ≡ []
none_first [] is = refl
none_first (f ∷ faults) is = cc

-- no fault is told exactly where the text has none
pub none_told : (text : List ℕ) → faults_of text ≡ [] → fault_said text ≡ None
none_told text is = sym (first_from (lines_of text) 1) ∙ ap first_fault is

pub told_none : (text : List ℕ) → fault_said text ≡ None → faults_of text ≡ []
told_none text is = none_first (faults_of text) (first_from (lines_of text) 1 ∙ is)

-- ---- each line by itself

joined_with : (said : Result Line LineCause) (number : ℕ) (line : List ℕ) (later more : List TextFault)
    → and_faults number line said (later ++ more) ≡ and_faults number line said later ++ more
joined_with (Err cause) number line later more = refl
joined_with (Ok said) number line later more = refl

joined_at : (t : Bool) (said : Result Line LineCause) (number : ℕ) (line : List ℕ) (later more : List TextFault)
    → cond t (later ++ more) (and_faults number line said (later ++ more)) ≡ cond t later (and_faults number line said later) ++ more
joined_at true said number line later more = refl
joined_at false said number line later more = joined_with said number line later more

-- the faults of some lines and of those behind them
pub faults_joined : (a b : List (List ℕ)) (number : ℕ) → faults_from (a ++ b) number ≡ faults_from a number ++ faults_from b (number + length a)
faults_joined [] b number =
    let same : number ≡ number + 0 = omega arith in
    ap (faults_from b) same
faults_joined (line ∷ a) b number =
    let place : number + 1 + length a ≡ number + length (line ∷ a) = omega arith in
    let later : List TextFault = faults_from a (number + 1) in
    ap (λ (fs : List TextFault). cond (passes line) fs (and_faults number line (said_by line) fs)) (faults_joined a b (number + 1))
    ∙ joined_at (passes line) (said_by line) number line later (faults_from b (number + 1 + length a))
    ∙ ap (λ (n : ℕ). faults_from (line ∷ a) number ++ faults_from b n) place

-- ---- a turn of the check

faults_passed : (line : List ℕ) (lines : List (List ℕ)) (number : ℕ) → passes line ≡ true → faults_from (line ∷ lines) number ≡ faults_from lines (number + 1)
faults_passed line lines number is =
    ap (λ (t : Bool). cond t (faults_from lines (number + 1)) (and_faults number line (said_by line) (faults_from lines (number + 1)))) is

fault_passed : (line : List ℕ) (lines : List (List ℕ)) (number : ℕ) → passes line ≡ true → fault_from (line ∷ lines) number ≡ fault_from lines (number + 1)
fault_passed line lines number is =
    ap (λ (t : Bool). cond {A = Option LineFault} t (fault_from lines (number + 1)) (or_fault number (said_by line) (fault_from lines (number + 1)))) is

faults_at : (line : List ℕ) (lines : List (List ℕ)) (number : ℕ) (said : Result Line LineCause) → passes line ≡ false → said_by line ≡ said
    → faults_from (line ∷ lines) number ≡ and_faults number line said (faults_from lines (number + 1))
faults_at line lines number said passes_not is =
    ap (λ (t : Bool). cond t (faults_from lines (number + 1)) (and_faults number line (said_by line) (faults_from lines (number + 1)))) passes_not
    ∙ ap (λ (s : Result Line LineCause). and_faults number line s (faults_from lines (number + 1))) is

-- a line that passes
pub checks_passed : (number : ℕ) (line out : List ℕ) → passes line ≡ true → ChecksLine number line out out None
checks_passed number line out is = record {
  told = λ lines. ap (λ (fs : List TextFault). out ++ flat_map fault_line fs) (sym (faults_passed line lines number is));
  first = λ lines. sym (fault_passed line lines number is);
}

-- a line that says a frame
pub checks_said : (number : ℕ) (line out : List ℕ) (said : Line) → passes line ≡ false → said_by line ≡ Ok said → ChecksLine number line out out None
checks_said number line out said passes_not is = record {
  told = λ lines. ap (λ (fs : List TextFault). out ++ flat_map fault_line fs) (sym (faults_at line lines number (Ok said) passes_not is));
  first = λ lines. sym (fault_at line lines number (Ok said) passes_not is);
}

-- a line that says none
pub checks_fault : (number : ℕ) (line before now : List ℕ) (cause : LineCause) → passes line ≡ false → said_by line ≡ Err cause
    → now ≡ before ++ fault_line (fault_with number line cause) → ChecksLine number line before now (Some (record { line = number; cause = cause }))
checks_fault number line before now cause passes_not is put = record {
  told = λ lines.
      let rest : List ℕ = flat_map fault_line (faults_from lines (number + 1)) in
      ap (λ (b : List ℕ). b ++ rest) put ∙ append_assoc before (fault_line (fault_with number line cause)) rest
      ∙ ap (λ (fs : List TextFault). before ++ flat_map fault_line fs) (sym (faults_at line lines number (Err cause) passes_not is));
  first = λ lines. sym (fault_at line lines number (Err cause) passes_not is);
}

-- the first of three that may be missing
pub first_of_three : {T : Type 0} (a b c : Option T) → option_or (option_or a b) c ≡ option_or a (option_or b c)
first_of_three None b c = refl
first_of_three (Some x) b c = refl
