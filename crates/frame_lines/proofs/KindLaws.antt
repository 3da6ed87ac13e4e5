-- Frames stand one behind another.
use Rattle.std.proofs.Common.{◌≡◌, ℕ, ◌≤◌, List, [], ◌∷◌, length, drop, map, Result, refl, ap, ◌∙◌, arith}
use Rattle.channel_frame.specs.declared.frames.Frame.{Frame}
use Rattle.channel_frame.specs.declared.frames.Front as read
use Rattle.channel_frame.specs.declared.frames.Front.TheVariants as stands
use Rattle.channel_frame.specs.StreamReading.{front, frames_of, rest_of}
use Rattle.channel_frame.proofs.FrontLaws.{front_stays, whole_within}
use Rattle.channel_frame.proofs.ReadingLaws.{frames_step, rest_step, reading_stops}
use Rattle.frame_lines.specs.declared.told.TellCause.{TellCause}
use Rattle.frame_lines.specs.FrameLines.{line_for}
use Rattle.frame_lines.specs.LineKinds.{Short, Whole, IsInOrder}
use Rattle.frame_lines.specs.TextTelling.{line_at, framed}

-- a frame that is whole, behind its line
record IsWhole (x : read.Front) (line : Result (List ℕ) TellCause) (len : ℕ) : Type 0 where
  pub frame : Frame
  pub stands : x ≡ stands.Whole frame len
  pub told : line_for frame ≡ line

whole_frame : (x : read.Front) (at len : ℕ) (line : Result (List ℕ) TellCause) → line_at at x ≡ Whole line len → IsWhole x line len
whole_frame stands.Short at len line is = absurd cc
whole_frame (stands.Bad fault) at len line is = absurd cc
whole_frame (stands.Whole f n) at len line is =
    let same : n ≡ len = cc in
    record { frame = f; stands = ap (stands.Whole f) same; told = cc }

within : (at len : ℕ) (bytes : List ℕ) (line : Result (List ℕ) TellCause) → line_at at (front bytes) ≡ Whole line len → (1 ≤ len) × (len ≤ length bytes)
within at len bytes line is =
    let whole = whole_frame (front bytes) at len line is in
    let fits = whole_within bytes whole.frame len whole.stands in
    (omega (arith, fits.0), fits.1)

first : (at len : ℕ) (bytes : List ℕ) (line : Result (List ℕ) TellCause) → line_at at (front bytes) ≡ Whole line len
    → (map line_for (frames_of bytes) ≡ line ∷ map line_for (frames_of (drop len bytes))) × (rest_of bytes ≡ rest_of (drop len bytes))
first at len bytes line is =
    let whole = whole_frame (front bytes) at len line is in
    let others : List (Result (List ℕ) TellCause) = map line_for (frames_of (drop len bytes)) in (
      ap (map line_for) (frames_step bytes whole.frame len whole.stands) ∙ ap (λ (l : Result (List ℕ) TellCause). l ∷ others) whole.told,
      rest_step bytes whole.frame len whole.stands,
    )

last : (at : ℕ) (bytes : List ℕ) → ((line : Result (List ℕ) TellCause) (len : ℕ) → line_at at (front bytes) ≡ Whole line len → ⊥)
    → (map line_for (frames_of bytes) ≡ []) × (rest_of bytes ≡ bytes)
last at bytes none =
    let stop = reading_stops bytes (λ f n is. none (line_for f) n (ap (line_at at) is)) in
    (ap (map line_for) stop.0, stop.1)

not_short : (x : read.Front) (at : ℕ) → (line_at at x ≡ Short → ⊥) → x ≡ stands.Short → ⊥
not_short x at other is = other (ap (line_at at) is)

pub frames_in_order : IsInOrder framed
frames_in_order = record {
  none = λ at. refl;
  within = within;
  first = first;
  last = last;
  stays = λ at bytes more other. ap (line_at at) (front_stays bytes more (not_short (front bytes) at other));
}
