-- What was told reads as it was, and what was read is told in full.
use Rattle.std.proofs.Common.{◌≡◌, ℕ, zero, suc, ◌+◌, ◌-◌, ◌||◌, ◌==◌, Bool, true, false, cond, eqb, get_or, List, [], ◌∷◌, ◌++◌, length, map, codes, decimal, None, Some, Ok, Err, refl, sym, ap, ◌∙◌, append_assoc, append-nil}
use Rattle.std.specs.declared.option.Option.{Option}
use Rattle.std.specs.declared.result.Result.{Result}
use Rattle.std.specs.List.{flat_map, list_any, AllByRecursion}
use Rattle.std.specs.Str.{is_utf8}
use Rattle.channel_frame.specs.declared.frames.Frame.{Frame}
use Rattle.channel_frame.specs.declared.frames.Front.{Front}
use Rattle.channel_frame.specs.declared.frames.Front.TheVariants.{Short, Bad, Whole}
use Rattle.channel_frame.specs.declared.frames.Header.{Header}
use Rattle.channel_frame.specs.FrameSpelling.{IsFrame, spelling}
use Rattle.channel_frame.specs.StreamReading.{AreBytes, front, frames_of, and_then_rest, rest_past, rest_of}
use Rattle.channel_frame.proofs.ReadingLaws.{has_reading}
use Rattle.frame_lines.specs.declared.lines.Line.{Line}
use Rattle.frame_lines.specs.declared.told.TellCause.{TellCause}
use Rattle.frame_lines.specs.declared.told.TellCause.TheVariants.{Newline, Return, NotText}
use Rattle.frame_lines.specs.declared.told.DecodeFault.{DecodeFault}
use Rattle.frame_lines.specs.TypeNames.{name_numbered}
use Rattle.frame_lines.specs.TextLines.{passes, lines_of}
use Rattle.frame_lines.specs.LineCuts.{Lacks}
use Rattle.frame_lines.specs.LineReading.{said_by}
use Rattle.frame_lines.specs.TextReading.{frame_of, next_after, frames_from, bytes_said, fault_from, fault_said}
use Rattle.frame_lines.specs.FrameLines.{words_from, words_for, name_or, frame_words, body_words, body_cause, line_from, line_with, line_for}
use Rattle.frame_lines.specs.TextTelling.{and_then_lines, lines_for, or_untold, untold_from, line_at, front_fault, tail_fault, fault_behind, framed, text_told, fault_told}
use Rattle.frame_lines.specs.FullLines.{HasToldBody, HasNoHeaders}
use Rattle.frame_lines.proofs.TurnLaws.{frames_at, fault_at}
use Rattle.frame_lines.proofs.WordLaws.{IsTold, IsPlainLine, number_word, type_word, full_says, digit_passes_not, line_alone_in, lacks_both}

-- ---- the line of a frame without headers

-- the words and the body of a frame in full
abbrev pub full : Frame → List ℕ
full f = frame_words f ++ body_words f.body

-- it is no piece of a batch
unshipped_line : (content sequence : ℕ) (body : List ℕ) → let f : Frame = record { content = content; sequence = sequence; headers = []; body = body } in line_for f ≡ line_with (words_for f) (body_cause body) body
unshipped_line content sequence body =
    let f : Frame = record { content = content; sequence = sequence; headers = []; body = body } in
    ap (λ (p : Option (ℕ × (ℕ × ℕ))). line_from p f) (no_piece_at ((content == 1900) || (content == 1901)))
  where
    no_piece_at : (t : Bool) → cond {A = Option (ℕ × (ℕ × ℕ))} t None None ≡ None
    no_piece_at true = refl
    no_piece_at false = refl

no_reply_at : (t : Bool) → cond {A = Option (ℕ × Bool)} t None None ≡ None
no_reply_at true = refl
no_reply_at false = refl

-- a frame without headers is told by its words
plain_words : (content sequence : ℕ) (body : List ℕ) → let f : Frame = record { content = content; sequence = sequence; headers = []; body = body } in words_for f ≡ Some (frame_words f)
plain_words content sequence body =
    let f : Frame = record { content = content; sequence = sequence; headers = []; body = body } in
    ap (λ (r : Option (ℕ × Bool)). words_from r f) (no_reply_at (eqb content 2))

told_at : (content sequence : ℕ) (body : List ℕ) → body_cause body ≡ None → let f : Frame = record { content = content; sequence = sequence; headers = []; body = body } in line_for f ≡ Ok (full f)
told_at content sequence body told =
    let f : Frame = record { content = content; sequence = sequence; headers = []; body = body } in
    unshipped_line content sequence body ∙ ap (λ (w : Option (List ℕ)). line_with w (body_cause body) body) (plain_words content sequence body)
    ∙ ap (λ (c : Option TellCause). line_with (Some (frame_words f)) c body) told

plain_frame : (f : Frame) → f.headers ≡ [] → f ≡ record { content = f.content; sequence = f.sequence; headers = []; body = f.body }
plain_frame f none = ap (λ (hs : List Header). let g : Frame = record { content = f.content; sequence = f.sequence; headers = hs; body = f.body } in g) none

-- a frame without headers whose body a line can tell has its line in full
pub told_in_full : (f : Frame) → f.headers ≡ [] → HasToldBody f → line_for f ≡ Ok (full f)
told_in_full f none told =
    ap line_for (plain_frame f none) ∙ told_at f.content f.sequence f.body told
    ∙ ap (λ (g : Frame). Ok (full g)) (sym (plain_frame f none))

-- ---- bodies that a line can tell

or_false : (a b : Bool) → (a || b) ≡ false → (a ≡ false) × (b ≡ false)
or_false true b is = cc
or_false false b is = (refl, is)

any_lacks : (body : List ℕ) → list_any (λ b. eqb b 10) body ≡ false → Lacks 10 body
any_lacks [] none = tt
any_lacks (b ∷ body) none =
    let both = or_false (eqb b 10) (list_any (λ x. eqb x 10) body) none in
    (both.0, any_lacks body both.1)

told_body_at : (newline return text : Bool)
    → cond {A = Option TellCause} newline (Some Newline) (cond return (Some Return) (cond text None (Some NotText))) ≡ None → (newline ≡ false) × (return ≡ false)
told_body_at true return text is = cc
told_body_at false true text is = cc
told_body_at false false text is = (refl, refl)

pub told_body : (body : List ℕ) → body_cause body ≡ None → IsTold body
told_body body is =
    let both = told_body_at (list_any (λ b. eqb b 10) body) (eqb (get_or body (length body - 1) 0) 13) (is_utf8 body) is in
    record { newlines = any_lacks body both.0; end = both.1 }

-- ---- a full line is read as its frame

-- a frame that a line tells whole
pub record IsPlain (f : Frame) : Type 0 where
  pub frame : IsFrame f
  pub headers : f.headers ≡ []
  pub body : HasToldBody f

plain_line : (f : Frame) → IsFrame f → IsPlainLine (frame_words f)
plain_line f is =
    let number = number_word f.sequence is.sequence in
    let type = type_word f.content is.content in
    let rest : List ℕ = codes " " ++ name_or (name_numbered f.content) f.content in
    record {
      newlines = lacks_both 10 (decimal f.sequence) rest number.plain.newlines (refl, type.plain.newlines);
      returns = lacks_both 13 (decimal f.sequence) rest number.plain.returns (refl, type.plain.returns);
    }

-- the line in full, as its words stand in a row
full_row : (f : Frame) → full f ≡ decimal f.sequence ++ 32 ∷ (name_or (name_numbered f.content) f.content ++ body_words f.body)
full_row f = append_assoc (decimal f.sequence) (codes " " ++ name_or (name_numbered f.content) f.content) (body_words f.body)

pub full_reads : (f : Frame) → IsFrame f → said_by (full f) ≡ Ok (record { sequence = Some f.sequence; content = f.content; body = f.body })
full_reads f is = ap said_by (full_row f) ∙ full_says f.sequence f.content (name_or (name_numbered f.content) f.content) f.body is.sequence (type_word f.content is.content) is.body_len

pub full_stays : (f : Frame) → IsFrame f → passes (full f) ≡ false
full_stays f is =
    let number = number_word f.sequence is.sequence in
    ap passes (full_row f) ∙ digit_passes_not (decimal f.sequence) (32 ∷ (name_or (name_numbered f.content) f.content ++ body_words f.body)) number.some number.digits

-- ---- lines of frames read back

-- the frames that full lines say, and no fault of theirs
pub record ReadsBack (frames : List Frame) (lines : List (List ℕ)) : Type 0 where
  pub frames_are : (next : ℕ) → frames_from lines next ≡ frames
  pub no_fault : (number : ℕ) → fault_from lines number ≡ None

frame_again : (next : ℕ) (f : Frame) → f.headers ≡ [] → frame_of next (record { sequence = Some f.sequence; content = f.content; body = f.body }) ≡ f
frame_again next f none = sym (plain_frame f none)

reads_more : (f : Frame) (frames : List Frame) (lines : List (List ℕ)) → IsPlain f → ReadsBack frames lines → ReadsBack (f ∷ frames) (full f ∷ lines)
reads_more f frames lines is later = record {
  frames_are = λ next.
      let said : Line = record { sequence = Some f.sequence; content = f.content; body = f.body } in
      frames_at (full f) lines next (Ok said) (full_stays f is.frame) (full_reads f is.frame)
      ∙ ap (λ (g : Frame). g ∷ frames_from lines (next_after (frame_of next said).sequence)) (frame_again next f is.headers)
      ∙ ap (λ (fs : List Frame). f ∷ fs) (later.frames_are (next_after (frame_of next said).sequence));
  no_fault = λ number.
      fault_at (full f) lines number (Ok (record { sequence = Some f.sequence; content = f.content; body = f.body })) (full_stays f is.frame) (full_reads f is.frame)
      ∙ later.no_fault (number + 1);
}

lines_more : (f : Frame) (frames : List Frame) → IsPlain f → lines_of (lines_for (f ∷ frames)) ≡ full f ∷ lines_of (lines_for frames)
lines_more f frames is =
    ap (λ (r : Result (List ℕ) TellCause). lines_of (and_then_lines r (lines_for frames))) (told_in_full f is.headers is.body)
    ∙ line_alone_in (frame_words f) f.body (lines_for frames) (plain_line f is.frame) (told_body f.body is.body)

pub reads_back : (frames : List Frame) → AllByRecursion IsPlain frames → ReadsBack frames (lines_of (lines_for frames))
reads_back [] all = record { frames_are = λ next. refl; no_fault = λ number. refl }
reads_back (f ∷ frames) all = rw (lines_more f frames all.0) (reads_more f frames (lines_of (lines_for frames)) all.0 (reads_back frames all.1))

-- ---- bytes, told and read back

-- a line tells the frame
abbrev IsLine : Frame → Type 0
IsLine f = (line : List ℕ) × (line_for f ≡ Ok line)

told_one : (f : Frame) (r : Result (List ℕ) TellCause) (later : Option DecodeFault) (number : ℕ) → line_for f ≡ r → or_untold number r later ≡ None → IsLine f × (later ≡ None)
told_one f (Err cause) later number is none = cc
told_one f (Ok line) later number is none = ((line, is), none)

-- without a fault a line tells each frame, and nothing is wrong behind them
all_told : (frames : List Frame) (behind : ℕ → Option DecodeFault) (number : ℕ) → untold_from (map line_for frames) behind number ≡ None
    → AllByRecursion IsLine frames × ((n : ℕ) × (behind n ≡ None))
all_told [] behind number none = (tt, (number, none))
all_told (f ∷ frames) behind number none =
    let one = told_one f (line_for f) (untold_from (map line_for frames) behind (number + 1)) number refl none in
    let others = all_told frames behind (number + 1) one.1 in
    ((one.0, others.0), others.1)

body_at : (content sequence : ℕ) (body : List ℕ) (o : Option TellCause) (line : List ℕ) → body_cause body ≡ o
    → line_for (record { content = content; sequence = sequence; headers = []; body = body }) ≡ Ok line → o ≡ None
body_at content sequence body None line is told = refl
body_at content sequence body (Some why) line is told =
    let f : Frame = record { content = content; sequence = sequence; headers = []; body = body } in
    let none : line_for f ≡ Err why = unshipped_line content sequence body ∙ ap (λ (w : Option (List ℕ)). line_with w (body_cause body) body) (plain_words content sequence body)
    ∙ ap (λ (c : Option TellCause). line_with (Some (frame_words f)) c body) is in
    cc

body_told : (f : Frame) (line : List ℕ) → f.headers ≡ [] → line_for f ≡ Ok line → HasToldBody f
body_told f line none told = body_at f.content f.sequence f.body (body_cause f.body) line refl (ap line_for (sym (plain_frame f none)) ∙ told)

all_plain : (frames : List Frame) → AllByRecursion IsFrame frames → AllByRecursion HasNoHeaders frames → AllByRecursion IsLine frames → AllByRecursion IsPlain frames
all_plain [] frame none told = tt
all_plain (f ∷ frames) frame none told =
    (record { frame = frame.0; headers = none.0; body = body_told f told.0.0 none.0 told.0.1 }, all_plain frames frame.1 none.1 told.1)

-- no whole frame stands at the front
abbrev HasNone : List ℕ → Type 0
HasNone bytes = (f : Frame) (n : ℕ) → front bytes ≡ Whole f n → ⊥

none_at : (bytes : List ℕ) (x : Front) (rest : ℕ → List ℕ) → front bytes ≡ x → ((n : ℕ) → HasNone (rest n)) → HasNone (and_then_rest bytes x rest)
none_at bytes Short rest is later f n whole = cc
none_at bytes (Bad e) rest is later f n whole = cc
none_at bytes (Whole g m) rest is later f n whole = later (m - 1) f n whole

-- none does at the tail of a reading
none_past : (bytes : List ℕ) (n : ℕ) → HasNone (rest_past bytes n)
none_past [] n f m whole = cc
none_past (b ∷ bytes) (suc n) f m whole = none_past bytes n f m whole
none_past (b ∷ bytes) zero f m whole = none_at (b ∷ bytes) (front (b ∷ bytes)) (rest_past bytes) refl (λ n g k is. none_past bytes n g k is) f m whole

has_fault : (x : Front) (at number : ℕ) → ((f : Frame) (n : ℕ) → x ≡ Whole f n → ⊥) → front_fault number at (line_at at x) ≡ None → ⊥
has_fault Short at number none is = cc
has_fault (Bad e) at number none is = cc
has_fault (Whole f n) at number none is = none f n refl

no_rest : (rest : List ℕ) (at number : ℕ) → HasNone rest → tail_fault framed rest at number ≡ None → rest ≡ []
no_rest [] at number none is = refl
no_rest (b ∷ rest) at number none is = absurd (has_fault (front (b ∷ rest)) at number none is)

pub bytes_back : (bytes : List ℕ) → AreBytes bytes → fault_told bytes ≡ None → AllByRecursion HasNoHeaders (frames_of bytes)
    → (bytes_said (text_told bytes) ≡ bytes) × (fault_said (text_told bytes) ≡ None)
bytes_back bytes fits none plain =
    let read : List Frame = frames_of bytes in
    let told = all_told read (fault_behind framed bytes) 1 none in
    let rest : rest_of bytes ≡ [] = no_rest (rest_of bytes) (length bytes - length (rest_of bytes)) told.1.0 (none_past bytes 0) told.1.1 in
    let reading = has_reading bytes fits in
    let whole : bytes ≡ flat_map spelling read = reading.text ∙ ap (λ (r : List ℕ). flat_map spelling read ++ r) rest ∙ append-nil (flat_map spelling read) in
    let back = reads_back read (all_plain read reading.each plain told.0) in
    (ap (λ (fs : List Frame). flat_map spelling fs) (back.frames_are 1) ∙ sym whole, back.no_fault 1)
