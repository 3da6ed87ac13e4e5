-- What stands at the front of some bytes stands at the front of a part of them that is long enough.
use Rattle.std.proofs.Common.{◌≡◌, ℕ, ◌≤◌, ◌++◌, List, length, take, drop, Ok, Err, sym, ap, ◌∙◌, take-append-drop}
use Rattle.std.specs.Result.{OnErr}
use Rattle.std.specs.declared.result.Result.{Result}
use Rattle.std.proofs.lemmas.List.{length-take-le}
use Rattle.channel_frame.specs.declared.frames.Frame.{Frame}
use Rattle.channel_frame.specs.declared.frames.FrameFault.{FrameFault}
use Rattle.channel_frame.specs.declared.frames.Front.{Front}
use Rattle.channel_frame.specs.declared.frames.Front.TheVariants.{Short, Bad, Whole}
use Rattle.channel_frame.specs.StreamReading.{front}
use Rattle.channel_frame.specs.AnnouncedFrames.{IsWholeFront}
use Rattle.channel_frame.proofs.FrontLaws.{front_stays}

-- What a front part of the bytes shows whole or faulty, the bytes show.
pub front_from_part : (bytes part : List ℕ) (n : ℕ) (x : Front) → part ≡ take n bytes → front part ≡ x → (x ≡ Short → ⊥) → x ≡ front bytes
front_from_part bytes part n x is e not_short =
    sym e ∙ sym (front_stays part (drop n bytes) (λ s. not_short (sym e ∙ s)))
    ∙ ap (λ (p : List ℕ). front (p ++ drop n bytes)) is ∙ ap front (take-append-drop n bytes)

-- A frame that the first n bytes spell stands whole at the front.
pub whole_from_part : (bytes part : List ℕ) (n : ℕ) (f : Frame) → part ≡ take n bytes → n ≤ length bytes → front part ≡ Whole f (length part) → Whole f n ≡ front bytes
whole_from_part bytes part n f is enough e =
    let len : length part ≡ n = ap length is ∙ length-take-le n bytes enough in
    front_from_part bytes part n (Whole f n) is (e ∙ ap (λ (k : ℕ). Whole f k) len) (λ s. cc)

-- A fault of the first n bytes is the fault at the front.
pub bad_from_part : (bytes part : List ℕ) (n : ℕ) (e : FrameFault) → part ≡ take n bytes → front part ≡ Bad e → Bad e ≡ front bytes
bad_from_part bytes part n e is h = front_from_part bytes part n (Bad e) is h (λ s. cc)

-- A whole frame at the front of a front part stands at the front of all the bytes.
pub stands_from_part : (bytes part : List ℕ) (n : ℕ) → part ≡ take n bytes → IsWholeFront part → IsWholeFront bytes
stands_from_part bytes part n is w =
    record { frame = w.frame; len = w.len; stands = sym (front_from_part bytes part n (Whole w.frame w.len) is w.stands (λ s. cc)) }

-- What a cause gives holds where it is the cause of an error.
pub at_error_weaker : {T E : Type 0} (r : Result T E) (P Q : Type 0) → (P → Q) → OnErr r P → OnErr r Q
at_error_weaker (Ok x) P Q f p = tt
at_error_weaker (Err e) P Q f p = f p
