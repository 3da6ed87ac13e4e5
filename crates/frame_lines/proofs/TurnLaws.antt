-- What a line says, and a turn of the reading of a text.
use Rattle.std.proofs.Common.{◌≡◌, ℕ, ◌+◌, ◌≤◌, Bool, true, false, cond, ltb, List, [], ◌∷◌, ◌++◌, length, None, Some, Ok, Err, inl, inr, refl, sym, ap, ◌∙◌, append_assoc}
use Rattle.std.specs.declared.option.Option.{Option}
use Rattle.std.specs.declared.result.Result.{Result}
use Rattle.std.specs.List.{flat_map, AllByRecursion}
use Rattle.std.specs.Result.{IsOk}
use Rattle.std.proofs.lemmas.Bool.{ltb-false}
use Rattle.channel_frame.specs.declared.frames.Frame.{Frame}
use Rattle.channel_frame.specs.FrameSpelling.{spelling}
use Rattle.frame_lines.specs.declared.lines.Line.{Line}
use Rattle.frame_lines.specs.declared.lines.LineCause.{LineCause}
use Rattle.frame_lines.specs.declared.lines.LineCause.TheVariants.{TooLong}
use Rattle.frame_lines.specs.declared.lines.LineFault.{LineFault}
use Rattle.frame_lines.specs.LineWords.{first_word, behind_word, are_digits, number_in}
use Rattle.frame_lines.specs.TypeNames.{number_named}
use Rattle.frame_lines.specs.TextLines.{passes}
use Rattle.frame_lines.specs.LineReading.{type_in, with_type, with_sequence, said_by}
use Rattle.frame_lines.specs.FullLines.{IsLine}
use Rattle.frame_lines.specs.LineTurns.{GoesOn, EndsAt}
use Rattle.frame_lines.specs.TextReading.{frame_of, next_after, and_then_frames, frames_from, or_fault, fault_from}

-- ---- a body keeps its limit

short_at : (t : Bool) (sequence : Option ℕ) (content : ℕ) (body : List ℕ) (l : Line) → ltb 1048576 (length body) ≡ t
    → cond t (Err TooLong) (Ok (record { sequence = sequence; content = content; body = body })) ≡ Ok l → length l.body ≤ 1048576
short_at true sequence content body l is e = cc
short_at false sequence content body l is e =
    let same : body ≡ l.body = cc in
    rw (← same) (ltb-false 1048576 (length body) is)

with_type_short : (sequence content : Option ℕ) (body : List ℕ) (l : Line) → with_type sequence content body ≡ Ok l → length l.body ≤ 1048576
with_type_short sequence None body l e = cc
with_type_short sequence (Some content) body l e = short_at (ltb 1048576 (length body)) sequence content body l refl e

with_sequence_short : (sequence : Option ℕ) (rest : List ℕ) (l : Line) → with_sequence sequence rest ≡ Ok l → length l.body ≤ 1048576
with_sequence_short None rest l e = cc
with_sequence_short (Some sequence) rest l e = with_type_short (Some sequence) (type_in (first_word rest)) (behind_word rest) l e

said_short_at : (t : Bool) (line : List ℕ) (l : Line)
    → cond t (with_sequence (number_in (first_word line)) (behind_word line)) (with_type None (number_named (first_word line)) (behind_word line)) ≡ Ok l → length l.body ≤ 1048576
said_short_at true line l e = with_sequence_short (number_in (first_word line)) (behind_word line) l e
said_short_at false line l e = with_type_short None (number_named (first_word line)) (behind_word line) l e

-- what a line says has a body within the limit
pub said_short : (line : List ℕ) (l : Line) → said_by line ≡ Ok l → length l.body ≤ 1048576
said_short line l e = said_short_at (are_digits (first_word line)) line l e

-- ---- a turn

-- a line that does not pass is what it says, and then those behind it
pub frames_at : (line : List ℕ) (lines : List (List ℕ)) (next : ℕ) (said : Result Line LineCause) → passes line ≡ false → said_by line ≡ said
    → frames_from (line ∷ lines) next ≡ and_then_frames next said (frames_from lines)
frames_at line lines next said passes_not is =
    ap (λ (t : Bool). cond t (frames_from lines next) (and_then_frames next (said_by line) (frames_from lines))) passes_not
    ∙ ap (λ (s : Result Line LineCause). and_then_frames next s (frames_from lines)) is

pub fault_at : (line : List ℕ) (lines : List (List ℕ)) (number : ℕ) (said : Result Line LineCause) → passes line ≡ false → said_by line ≡ said
    → fault_from (line ∷ lines) number ≡ or_fault number said (fault_from lines (number + 1))
fault_at line lines number said passes_not is =
    ap (λ (t : Bool). cond t (fault_from lines (number + 1)) (or_fault number (said_by line) (fault_from lines (number + 1)))) passes_not
    ∙ ap (λ (s : Result Line LineCause). or_fault number s (fault_from lines (number + 1))) is

pub says : (next : ℕ) (line before now : List ℕ) (said : Line) (then : ℕ) → passes line ≡ false → said_by line ≡ Ok said
    → now ≡ before ++ spelling (frame_of next said) → then ≡ next_after (frame_of next said).sequence → GoesOn next line before now then
says next line before now said then passes_not is put after = record {
  frames = λ lines.
      let rest : List ℕ = flat_map spelling (frames_from lines then) in
      ap (λ (b : List ℕ). b ++ rest) put ∙ append_assoc before (spelling (frame_of next said)) rest
      ∙ ap (λ (n : ℕ). before ++ (spelling (frame_of next said) ++ flat_map spelling (frames_from lines n))) after
      ∙ ap (λ (fs : List Frame). before ++ flat_map spelling fs) (sym (frames_at line lines next (Ok said) passes_not is));
  fault = λ lines number. sym (fault_at line lines number (Ok said) passes_not is);
}

pub ends : (next : ℕ) (line before now : List ℕ) (cause : LineCause) → passes line ≡ false → said_by line ≡ Err cause → now ≡ before → EndsAt next line before now cause
ends next line before now cause passes_not is same = record {
  stays = same;
  frames = λ lines. frames_at line lines next (Err cause) passes_not is;
  fault = λ lines number. fault_at line lines number (Err cause) passes_not is;
}

-- ---- texts without a fault

line_from : (said : Result Line LineCause) (number : ℕ) (later : Option LineFault) → or_fault number said later ≡ None → IsOk said × (later ≡ None)
line_from (Err cause) number later none = cc
line_from (Ok l) number later none = (refl, none)

fault_none : (said : Result Line LineCause) (number : ℕ) (later : Option LineFault) → IsOk said → later ≡ None → or_fault number said later ≡ None
fault_none (Err cause) number later ok none = cc
fault_none (Ok l) number later ok none = none

each_at : (t : Bool) (line : List ℕ) (lines : List (List ℕ)) (number : ℕ) → passes line ≡ t → ((n : ℕ) → fault_from lines n ≡ None → AllByRecursion IsLine lines)
    → cond {A = Option LineFault} t (fault_from lines (number + 1)) (or_fault number (said_by line) (fault_from lines (number + 1))) ≡ None
    → IsLine line × AllByRecursion IsLine lines
each_at true line lines number is later none = (inl is, later (number + 1) none)
each_at false line lines number is later none =
    let here = line_from (said_by line) number (fault_from lines (number + 1)) none in
    (inr here.0, later (number + 1) here.1)

pub each_line : (lines : List (List ℕ)) (number : ℕ) → fault_from lines number ≡ None → AllByRecursion IsLine lines
each_line [] number none = tt
each_line (line ∷ lines) number none = each_at (passes line) line lines number refl (λ n. each_line lines n) none

none_at : (t : Bool) (line : List ℕ) (number : ℕ) (later : Option LineFault) → passes line ≡ t → IsLine line → later ≡ None
    → cond {A = Option LineFault} t later (or_fault number (said_by line) later) ≡ None
none_at true line number later is ok none = none
none_at false line number later is ok none =
    fault_none (said_by line) number later (elim ok [ inl pass ↦ (let e : passes line ≡ true = pass in absurd cc) | inr said ↦ said ]) none

pub no_fault : (lines : List (List ℕ)) (number : ℕ) → AllByRecursion IsLine lines → fault_from lines number ≡ None
no_fault [] number all = refl
no_fault (line ∷ lines) number all = none_at (passes line) line number (fault_from lines (number + 1)) refl all.0 (no_fault lines (number + 1) all.1)
