-- A session's bytes have one reading as frames and a tail, and it goes a frame at a time.
use Rattle.std.proofs.Common.{◌≡◌, ℕ, zero, suc, ◌-◌, ◌<◌, List, [], ◌∷◌, ◌++◌, length, take, drop, refl, sym, ap, ◌∙◌, append_assoc, arith}
use Rattle.std.specs.List.{flat_map, AllByRecursion}
use Rattle.std.proofs.lemmas.List.{take-append-drop, drop_at}
use Rattle.channel_frame.specs.declared.frames.Frame.{Frame}
use Rattle.channel_frame.specs.declared.frames.FrameFault.{FrameFault}
use Rattle.channel_frame.specs.declared.frames.Front.{Front}
use Rattle.channel_frame.specs.declared.frames.Front.TheVariants.{Short, Bad, Whole}
use Rattle.channel_frame.specs.FrameSpelling.{spelling, IsFrame}
use Rattle.channel_frame.specs.StreamReading.{AreBytes, front, and_then_frames, frames_past, frames_of, and_then_rest, rest_past, rest_of, IsTail, Reads}
use Rattle.channel_frame.proofs.FrontLaws.{front_takes, front_again, whole_within}

-- no frame stands at the front
abbrev pub HasNone : List ℕ → Type 0
HasNone bytes = (f : Frame) (n : ℕ) → front bytes ≡ Whole f n → ⊥

-- ---- tails

pub tail_from : (bytes : List ℕ) → HasNone bytes → IsTail bytes
tail_from bytes none f more is e = none f (length (spelling f)) (ap front e ∙ front_again f more is)

pub tail_has_none : (bytes : List ℕ) → AreBytes bytes → IsTail bytes → HasNone bytes
tail_has_none bytes fits tail f n e =
    let t = front_takes bytes f n fits e in
    tail f (drop n bytes) t.is_frame (sym (ap (λ (xs : List ℕ). xs ++ drop n bytes) t.text ∙ take-append-drop n bytes))

-- ---- a frame at a time

pub drop_before : (n b : ℕ) (bytes : List ℕ) → 0 < n → drop n (b ∷ bytes) ≡ drop (n - 1) bytes
drop_before zero b bytes lt = absurd (omega arith)
drop_before (suc n) b bytes lt =
    let e : suc n - 1 ≡ n = omega arith in
    rw e refl

-- bytes that are passed over are dropped
pub frames_past-drop : (bytes : List ℕ) (n : ℕ) → frames_past bytes n ≡ frames_of (drop n bytes)
frames_past-drop [] zero = refl
frames_past-drop [] (suc n) = refl
frames_past-drop (b ∷ bytes) zero = refl
frames_past-drop (b ∷ bytes) (suc n) = frames_past-drop bytes n

pub rest_past-drop : (bytes : List ℕ) (n : ℕ) → rest_past bytes n ≡ rest_of (drop n bytes)
rest_past-drop [] zero = refl
rest_past-drop [] (suc n) = refl
rest_past-drop (b ∷ bytes) zero = refl
rest_past-drop (b ∷ bytes) (suc n) = rest_past-drop bytes n

-- behind a whole frame the reading goes on
pub frames_step : (bytes : List ℕ) (f : Frame) (n : ℕ) → front bytes ≡ Whole f n → frames_of bytes ≡ f ∷ frames_of (drop n bytes)
frames_step [] f n e = absurd cc
frames_step (b ∷ bytes) f n e =
    let long = whole_within (b ∷ bytes) f n e in
    let behind : frames_past bytes (n - 1) ≡ frames_of (drop n (b ∷ bytes)) = frames_past-drop bytes (n - 1) ∙ ap frames_of (sym (drop_before n b bytes (omega (arith, long.0)))) in
    ap (λ (at : Front). and_then_frames at (frames_past bytes)) e ∙ ap (λ (fs : List Frame). f ∷ fs) behind

pub rest_step : (bytes : List ℕ) (f : Frame) (n : ℕ) → front bytes ≡ Whole f n → rest_of bytes ≡ rest_of (drop n bytes)
rest_step [] f n e = absurd cc
rest_step (b ∷ bytes) f n e =
    let long = whole_within (b ∷ bytes) f n e in
    let behind : rest_past bytes (n - 1) ≡ rest_of (drop n (b ∷ bytes)) = rest_past-drop bytes (n - 1) ∙ ap rest_of (sym (drop_before n b bytes (omega (arith, long.0)))) in
    ap (λ (at : Front). and_then_rest (b ∷ bytes) at (rest_past bytes)) e ∙ behind

-- where no whole frame stands, the reading ends
stops_at : (bytes : List ℕ) (at : Front) (next : ℕ → List Frame) (rest : ℕ → List ℕ) → ((f : Frame) (n : ℕ) → at ≡ Whole f n → ⊥)
    → (and_then_frames at next ≡ []) × (and_then_rest bytes at rest ≡ bytes)
stops_at bytes Short next rest none = (refl, refl)
stops_at bytes (Bad e) next rest none = (refl, refl)
stops_at bytes (Whole f n) next rest none = absurd (none f n refl)

pub reading_stops : (bytes : List ℕ) → HasNone bytes → (frames_of bytes ≡ []) × (rest_of bytes ≡ bytes)
reading_stops [] none = (refl, refl)
reading_stops (b ∷ bytes) none = stops_at (b ∷ bytes) (front (b ∷ bytes)) (frames_past bytes) (rest_past bytes) none

pub reading_stops_short : (bytes : List ℕ) → front bytes ≡ Short → (frames_of bytes ≡ []) × (rest_of bytes ≡ bytes)
reading_stops_short bytes e = reading_stops bytes (λ f n w. cc)

pub reading_stops_bad : (bytes : List ℕ) (d : FrameFault) → front bytes ≡ Bad d → (frames_of bytes ≡ []) × (rest_of bytes ≡ bytes)
reading_stops_bad bytes d e = reading_stops bytes (λ f n w. cc)

-- ---- every list of bytes has a reading

nothing_reads : Reads [] [] []
nothing_reads = record { text = refl; each = tt; tail = tail_from [] (λ f n e. cc) }

regrouped : (xs a b c d : List ℕ) → a ++ b ≡ xs → c ≡ a → b ≡ d → xs ≡ c ++ d
regrouped xs a b c d p q r = cc

reads_at : (bytes : List ℕ) (at : Front) (next : ℕ → List Frame) (rest : ℕ → List ℕ) → AreBytes bytes → front bytes ≡ at
    → ((n : ℕ) → 0 < n → Reads (drop n bytes) (next (n - 1)) (rest (n - 1))) → Reads bytes (and_then_frames at next) (and_then_rest bytes at rest)
reads_at bytes Short next rest fits e later = record { text = refl; each = tt; tail = tail_from bytes (λ f n w. cc) }
reads_at bytes (Bad d) next rest fits e later = record { text = refl; each = tt; tail = tail_from bytes (λ f n w. cc) }
reads_at bytes (Whole f n) next rest fits e later =
    let t = front_takes bytes f n fits e in
    let r = later n (omega (arith, t.long)) in
    let behind : List ℕ = flat_map spelling (next (n - 1)) in
    record {
      text = regrouped bytes (take n bytes) (drop n bytes) (spelling f) (behind ++ rest (n - 1)) (take-append-drop n bytes) t.text r.text ∙ sym (append_assoc (spelling f) behind (rest (n - 1)));
      each = (t.is_frame, r.each);
      tail = r.tail;
    }

reads_past : (bytes : List ℕ) (n : ℕ) → AreBytes bytes → Reads (drop n bytes) (frames_past bytes n) (rest_past bytes n)
reads_past [] zero fits = nothing_reads
reads_past [] (suc n) fits = nothing_reads
reads_past (b ∷ bytes) (suc n) fits = reads_past bytes n fits.1
reads_past (b ∷ bytes) zero fits =
    reads_at (b ∷ bytes) (front (b ∷ bytes)) (frames_past bytes) (rest_past bytes) fits refl (λ n lt. rw (drop_before n b bytes lt) (reads_past bytes (n - 1) fits.1))

pub has_reading : (bytes : List ℕ) → AreBytes bytes → Reads bytes (frames_of bytes) (rest_of bytes)
has_reading bytes fits = reads_past bytes 0 fits

-- ---- and no other

-- behind a spelled frame the reading goes on with what follows it
pub spelled_step : (f : Frame) (more : List ℕ) → IsFrame f → (frames_of (spelling f ++ more) ≡ f ∷ frames_of more) × (rest_of (spelling f ++ more) ≡ rest_of more)
spelled_step f more is =
    let n : ℕ = length (spelling f) in
    let first = front_again f more is in
    let behind : drop n (spelling f ++ more) ≡ more = drop_at (spelling f) more n refl in (
      frames_step (spelling f ++ more) f n first ∙ ap (λ (xs : List ℕ). f ∷ frames_of xs) behind,
      rest_step (spelling f ++ more) f n first ∙ ap rest_of behind,
    )

spelled_reads : (frames : List Frame) (rest : List ℕ) → AllByRecursion IsFrame frames → HasNone rest
    → (frames_of (flat_map spelling frames ++ rest) ≡ frames) × (rest_of (flat_map spelling frames ++ rest) ≡ rest)
spelled_reads [] rest each none = reading_stops rest none
spelled_reads (f ∷ frames) rest each none =
    let others : List ℕ = flat_map spelling frames ++ rest in
    let parts : flat_map spelling (f ∷ frames) ++ rest ≡ spelling f ++ others = append_assoc (spelling f) (flat_map spelling frames) rest in
    let step = spelled_step f others each.0 in
    let later = spelled_reads frames rest each.1 none in
    (ap frames_of parts ∙ step.0 ∙ ap (λ (fs : List Frame). f ∷ fs) later.0, ap rest_of parts ∙ step.1 ∙ later.1)

pub has_one_reading : (bytes : List ℕ) (frames : List Frame) (rest : List ℕ) → AreBytes rest → Reads bytes frames rest → (frames_of bytes ≡ frames) × (rest_of bytes ≡ rest)
has_one_reading bytes frames rest fits reads =
    let only = spelled_reads frames rest reads.each (tail_has_none rest fits reads.tail) in
    (ap frames_of reads.text ∙ only.0, ap rest_of reads.text ∙ only.1)
