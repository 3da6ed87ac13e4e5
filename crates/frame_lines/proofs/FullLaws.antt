-- What a text says is told in full.
use Rattle.std.proofs.Common.{◌≡◌, ℕ, ◌+◌, ◌-◌, ◌<◌, ◌≤◌, ◌^◌, ◌&&◌, Bool, true, false, cond, ltb, List, [], ◌∷◌, ◌++◌, length, map, unwrap_or, None, Some, Ok, Err, refl, sym, ap, ◌∙◌, append_assoc, append-nil, arith}
use Rattle.std.specs.declared.option.Option.{Option}
use Rattle.std.specs.declared.result.Result.{Result}
use Rattle.std.specs.List.{flat_map, AllByRecursion}
use Rattle.std.specs.Str.Parse.{digits_value}
use Rattle.std.proofs.lemmas.Bool.{ltb-true, ltb-false}
use Rattle.channel_frame.specs.declared.frames.Frame.{Frame}
use Rattle.channel_frame.specs.FrameSpelling.{IsFrame, spelling}
use Rattle.channel_frame.specs.StreamReading.{rest_of, Reads}
use Rattle.channel_frame.proofs.ReadingLaws.{tail_from, has_one_reading}
use Rattle.frame_lines.specs.declared.lines.Line.{Line}
use Rattle.frame_lines.specs.declared.lines.LineCause.{LineCause}
use Rattle.frame_lines.specs.declared.lines.LineCause.TheVariants.{TooLong}
use Rattle.frame_lines.specs.declared.told.TellCause.{TellCause}
use Rattle.frame_lines.specs.declared.told.DecodeFault.{DecodeFault}
use Rattle.frame_lines.specs.TypeNames.{number_named}
use Rattle.frame_lines.specs.LineWords.{first_word, behind_word, are_digits, is_plain, number_in}
use Rattle.frame_lines.specs.TextLines.{passes, lines_of}
use Rattle.frame_lines.specs.LineReading.{type_or, type_in, with_type, with_sequence, said_by}
use Rattle.frame_lines.specs.TextReading.{frame_of, next_after, and_then_frames, frames_from, frames_said, bytes_said}
use Rattle.frame_lines.specs.FrameLines.{frame_words, body_words, line_for}
use Rattle.frame_lines.specs.TextTelling.{and_then_lines, lines_for, or_untold, untold_from, tail_fault, fault_behind, framed, text_told, fault_told}
use Rattle.frame_lines.specs.FullLines.{full_line, HasToldBody}
use Rattle.frame_lines.proofs.TypeLaws.{and_right, named_fits}
use Rattle.frame_lines.proofs.RoundLaws.{full, told_in_full}

-- ---- what a line says fits a frame

fits_at : (t : Bool) (v n : ℕ) → cond {A = Option ℕ} t (Some v) None ≡ Some n → (t ≡ true) × (v ≡ n)
fits_at true v n is = (refl, cc)
fits_at false v n is = cc

number_fits : (word : List ℕ) (n : ℕ) → number_in word ≡ Some n → n < 2 ^ 32
number_fits word n is =
    let v : ℕ = digits_value 10 word in
    let both = fits_at (are_digits word && (is_plain word && ltb v (2 ^ 32))) v n is in
    let low : v < 2 ^ 32 = ltb-true v (2 ^ 32) (and_right (is_plain word) (ltb v (2 ^ 32)) (and_right (are_digits word) (is_plain word && ltb v (2 ^ 32)) both.0)) in
    let same : v ≡ n = both.1 in
    omega arith

type_fits_at : (o : Option ℕ) (word : List ℕ) (content : ℕ) → number_named word ≡ o → type_or o word ≡ Some content → content < 2 ^ 32
type_fits_at (Some named) word content is e =
    let same : named ≡ content = cc in
    named_fits content word (is ∙ ap Some same)
type_fits_at None word content is e = number_fits word content e

-- a sequence number, where there is one, fits four bytes
abbrev SequenceFits : Option ℕ → Type 0
SequenceFits None = Unit {0}
SequenceFits (Some sequence) = sequence < 2 ^ 32

pub record LineFits (l : Line) : Type 0 where
  pub sequence : SequenceFits l.sequence
  pub content : l.content < 2 ^ 32
  pub body : length l.body ≤ 1048576

with_type_at : (t : Bool) (sequence : Option ℕ) (content : ℕ) (body : List ℕ) (l : Line) → ltb 1048576 (length body) ≡ t → SequenceFits sequence → content < 2 ^ 32
    → cond {A = Result Line LineCause} t (Err TooLong) (Ok (record { sequence = sequence; content = content; body = body })) ≡ Ok l → LineFits l
with_type_at true sequence content body l is s c e = cc
with_type_at false sequence content body l is s c e =
    let said : Line = record { sequence = sequence; content = content; body = body } in
    let same : said ≡ l = cc in
    let fits : LineFits said = record { sequence = s; content = c; body = ltb-false 1048576 (length body) is } in
    rw same at fits

with_type_fits : (sequence content : Option ℕ) (body : List ℕ) (l : Line) → SequenceFits sequence → ((n : ℕ) → content ≡ Some n → n < 2 ^ 32)
    → with_type sequence content body ≡ Ok l → LineFits l
with_type_fits sequence None body l s c e = cc
with_type_fits sequence (Some content) body l s c e = with_type_at (ltb 1048576 (length body)) sequence content body l refl s (c content refl) e

with_sequence_fits : (sequence : Option ℕ) (rest : List ℕ) (l : Line) → SequenceFits sequence → with_sequence sequence rest ≡ Ok l → LineFits l
with_sequence_fits None rest l s e = cc
with_sequence_fits (Some sequence) rest l s e =
    with_type_fits (Some sequence) (type_in (first_word rest)) (behind_word rest) l s (λ n is. type_fits_at (number_named (first_word rest)) (first_word rest) n refl is) e

sequence_fits : (word : List ℕ) (o : Option ℕ) → number_in word ≡ o → SequenceFits o
sequence_fits word None is = tt
sequence_fits word (Some n) is = number_fits word n is

said_fits_at : (t : Bool) (line : List ℕ) (l : Line)
    → cond {A = Result Line LineCause} t (with_sequence (number_in (first_word line)) (behind_word line)) (with_type None (number_named (first_word line)) (behind_word line)) ≡ Ok l → LineFits l
said_fits_at true line l e = with_sequence_fits (number_in (first_word line)) (behind_word line) l (sequence_fits (first_word line) (number_in (first_word line)) refl) e
said_fits_at false line l e = with_type_fits None (number_named (first_word line)) (behind_word line) l tt (λ n is. named_fits n (first_word line) is) e

pub said_fits : (line : List ℕ) (l : Line) → said_by line ≡ Ok l → LineFits l
said_fits line l e = said_fits_at (are_digits (first_word line)) line l e

-- ---- the frames of a text

pub record IsSaid (f : Frame) : Type 0 where
  pub frame : IsFrame f
  pub headers : f.headers ≡ []

sequence_of : (o : Option ℕ) (next : ℕ) → next < 2 ^ 32 → SequenceFits o → unwrap_or o next < 2 ^ 32
sequence_of None next low fits = low
sequence_of (Some n) next low fits = fits

pub frame_fits : (next : ℕ) (l : Line) → next < 2 ^ 32 → LineFits l → IsSaid (frame_of next l)
frame_fits next l low fits = record {
  frame = record { content = fits.content; sequence = sequence_of l.sequence next low fits.sequence; keys = tt; headers_len = omega arith; body_len = fits.body };
  headers = refl;
}

pub next_fits : (n : ℕ) → next_after n < 2 ^ 32
next_fits n = omega arith

frames_fit_at : (next : ℕ) (line : List ℕ) (said : Result Line LineCause) (rest : ℕ → List Frame) → next < 2 ^ 32 → said_by line ≡ said
    → ((n : ℕ) → n < 2 ^ 32 → AllByRecursion IsSaid (rest n)) → AllByRecursion IsSaid (and_then_frames next said rest)
frames_fit_at next line (Err cause) rest low is later = tt
frames_fit_at next line (Ok l) rest low is later =
    (frame_fits next l low (said_fits line l is), later (next_after (frame_of next l).sequence) (next_fits (frame_of next l).sequence))

frames_fit : (lines : List (List ℕ)) (next : ℕ) → next < 2 ^ 32 → AllByRecursion IsSaid (frames_from lines next)
frames_fit [] next low = tt
frames_fit (line ∷ lines) next low =
    elim (passes line) as (λ t. AllByRecursion IsSaid (cond t (frames_from lines next) (and_then_frames next (said_by line) (frames_from lines)))) [
      | true ↦ frames_fit lines next low
      | false ↦ frames_fit_at next line (said_by line) (frames_from lines) low refl (λ n fits. frames_fit lines n fits)
    ]

-- ---- what a text says, told in full

all_frames : (frames : List Frame) → AllByRecursion IsSaid frames → AllByRecursion IsFrame frames
all_frames [] all = tt
all_frames (f ∷ frames) all = (all.0.frame, all_frames frames all.1)

in_full : (f : Frame) (rest : List ℕ) → full f ++ 10 ∷ rest ≡ full_line f ++ rest
in_full f rest =
    append_assoc (frame_words f) (body_words f.body) (10 ∷ rest) ∙ ap (λ (l : List ℕ). frame_words f ++ l) (sym (append_assoc (body_words f.body) (10 ∷ []) rest))
    ∙ sym (append_assoc (frame_words f) (body_words f.body ++ 10 ∷ []) rest)

lines_in_full : (frames : List Frame) → AllByRecursion IsSaid frames → AllByRecursion HasToldBody frames → lines_for frames ≡ flat_map full_line frames
lines_in_full [] all told = refl
lines_in_full (f ∷ frames) all told =
    ap (λ (r : Result (List ℕ) TellCause). and_then_lines r (lines_for frames)) (told_in_full f all.0.headers told.0)
    ∙ in_full f (lines_for frames) ∙ ap (λ (l : List ℕ). full_line f ++ l) (lines_in_full frames all.1 told.1)

none_untold : (frames : List Frame) (behind : ℕ → Option DecodeFault) (number : ℕ) → AllByRecursion IsSaid frames → AllByRecursion HasToldBody frames
    → ((n : ℕ) → behind n ≡ None) → untold_from (map line_for frames) behind number ≡ None
none_untold [] behind number all told none = none number
none_untold (f ∷ frames) behind number all told none =
    ap (λ (r : Result (List ℕ) TellCause). or_untold number r (untold_from (map line_for frames) behind (number + 1))) (told_in_full f all.0.headers told.0)
    ∙ none_untold frames behind (number + 1) all.1 told.1 none

nothing_behind : (bytes : List ℕ) (number : ℕ) → rest_of bytes ≡ [] → fault_behind framed bytes number ≡ None
nothing_behind bytes number none = ap (λ (r : List ℕ). tail_fault framed r (length bytes - length r) number) none

pub reads_alone : (frames : List Frame) → AllByRecursion IsFrame frames → Reads (flat_map spelling frames) frames []
reads_alone frames each = record { text = sym (append-nil (flat_map spelling frames)); each = each; tail = tail_from [] (λ f n e. cc) }

pub lines_back : (text : List ℕ) → AllByRecursion HasToldBody (frames_said text)
    → (text_told (bytes_said text) ≡ flat_map full_line (frames_said text)) × (fault_told (bytes_said text) ≡ None)
lines_back text told =
    let said : List Frame = frames_said text in
    let all : AllByRecursion IsSaid said = frames_fit (lines_of text) 1 (omega arith) in
    let bytes : List ℕ = flat_map spelling said in
    let reading = has_one_reading bytes said [] tt (reads_alone said (all_frames said all)) in (
      ap lines_for reading.0 ∙ lines_in_full said all told,
      ap (λ (fs : List Frame). untold_from (map line_for fs) (fault_behind framed bytes) 1) reading.0
          ∙ none_untold said (fault_behind framed bytes) 1 all told (λ n. nothing_behind bytes n reading.1),
    )
