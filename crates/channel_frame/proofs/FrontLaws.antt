-- What stands at the front of some bytes.
use Rattle.std.proofs.Common.{◌≡◌, ℕ, ◌+◌, ◌<◌, ◌≤◌, Bool, true, false, cond, ltb, List, [], ◌++◌, length, take, drop, Option, Some, None, Result, Ok, Err, refl, sym, ap, subst, ◌∙◌, append_assoc, arith, inl, inr}
use Rattle.std.specs.Prelude.{is_some}
use Rattle.std.proofs.Math.Seq.{take-add}
use Rattle.std.proofs.lemmas.Bool.{ltb-false, le-ltb, lt-ltb, cases_lt}
use Rattle.std.proofs.lemmas.List.{append-nil, take-append-drop, get_or-take, take_at, drop_at, drop-drop, take_all, length-append, length-drop, length-take-le, get_or_append_left, take-append-le, drop-append-le, append_cancel_left}
use Rattle.channel_frame.specs.declared.frames.Frame.{Frame}
use Rattle.channel_frame.specs.declared.frames.Head.{Head}
use Rattle.channel_frame.specs.declared.frames.Header.{Header}
use Rattle.channel_frame.specs.declared.frames.FrameFault.{FrameFault}
use Rattle.channel_frame.specs.declared.frames.FrameFault.TheVariants.{BadHeaders}
use Rattle.channel_frame.specs.declared.frames.Front.{Front}
use Rattle.channel_frame.specs.declared.frames.Front.TheVariants.{Short, Bad, Whole}
use Rattle.channel_frame.specs.FrameSpelling.{head_for, head_spelling, headers_spelling, spelling, IsHead, IsFrame, KeepsLimits}
use Rattle.channel_frame.specs.StreamReading.{AreBytes, IsAnnounced, head_of, frame_len, headers_of, headers_part, with_headers, with_head, front}
use Rattle.channel_frame.specs.AnnouncedFrames.{IsWholeFront}
use Rattle.channel_frame.proofs.NumberLaws.{AreBytes-take, AreBytes-drop}
use Rattle.channel_frame.proofs.HeadLaws.{made_head, head_again, head_takes, head_of-same}
use Rattle.channel_frame.proofs.HeaderLaws.{headers_again, headers_take, some_from}

-- the frame of this head and these headers
abbrev pub frame_at : Head → List Header → List ℕ → Frame
frame_at h hs bytes = record { content = h.content; sequence = h.sequence; headers = hs; body = take h.body_len (drop (20 + h.headers_len) bytes) }

-- a frame stands whole at the front, and has this length
pub record Stands (bytes : List ℕ) (f : Frame) (n : ℕ) : Type 0 where
  pub long : 20 ≤ length bytes
  pub head : Head
  pub is_head : head_of bytes ≡ Ok head
  pub there : frame_len head ≤ length bytes
  pub headers : List Header
  pub are_headers : headers_of (headers_part head bytes) ≡ Some headers
  pub frame : frame_at head headers bytes ≡ f
  pub len : frame_len head ≡ n

-- ---- the tests of `front`

whole_past : (b : Bool) (x : Front) (f : Frame) (n : ℕ) → cond b Short x ≡ Whole f n → (b ≡ false) × (x ≡ Whole f n)
whole_past true x f n e = absurd cc
whole_past false x f n e = (refl, e)

whole_head : (bytes : List ℕ) (r : Result Head FrameFault) (f : Frame) (n : ℕ) → with_head bytes r ≡ Whole f n
    → (h : Head) × (r ≡ Ok h) × (cond (ltb (length bytes) (frame_len h)) Short (with_headers h bytes (headers_of (headers_part h bytes))) ≡ Whole f n)
whole_head bytes (Err d) f n e = absurd cc
whole_head bytes (Ok h) f n e = (h, refl, e)

whole_headers : (h : Head) (bytes : List ℕ) (o : Option (List Header)) (f : Frame) (n : ℕ) → with_headers h bytes o ≡ Whole f n
    → (hs : List Header) × (o ≡ Some hs) × (frame_at h hs bytes ≡ f) × (frame_len h ≡ n)
whole_headers h bytes None f n e = absurd cc
whole_headers h bytes (Some hs) f n e = (hs, refl, cc, cc)

pub front_stands : (bytes : List ℕ) (f : Frame) (n : ℕ) → front bytes ≡ Whole f n → Stands bytes f n
front_stands bytes f n e =
    let a = whole_past (ltb (length bytes) 20) (with_head bytes (head_of bytes)) f n e in
    let b = whole_head bytes (head_of bytes) f n a.1 in
    let c = whole_past (ltb (length bytes) (frame_len b.0)) (with_headers b.0 bytes (headers_of (headers_part b.0 bytes))) f n b.2 in
    let d = whole_headers b.0 bytes (headers_of (headers_part b.0 bytes)) f n c.1 in
    record {
      long = ltb-false _ _ a.0;
      head = b.0;
      is_head = b.1;
      there = ltb-false _ _ c.0;
      headers = d.0;
      are_headers = d.1;
      frame = d.2;
      len = d.3;
    }

-- behind a head whose bytes are all there
pub front_behind : (bytes : List ℕ) (h : Head) → 20 ≤ length bytes → head_of bytes ≡ Ok h → frame_len h ≤ length bytes
    → front bytes ≡ with_headers h bytes (headers_of (headers_part h bytes))
front_behind bytes h long is_head there =
    let a : ltb (length bytes) 20 ≡ false = le-ltb _ _ long in
    let b : ltb (length bytes) (frame_len h) ≡ false = le-ltb _ _ there in
    ap (λ (t : Bool). cond t Short (with_head bytes (head_of bytes))) a ∙ ap (with_head bytes) is_head ∙ ap (λ (t : Bool). cond t Short (with_headers h bytes (headers_of (headers_part h bytes)))) b

pub front_from : (bytes : List ℕ) (h : Head) (hs : List Header) → 20 ≤ length bytes → head_of bytes ≡ Ok h → frame_len h ≤ length bytes
    → headers_of (headers_part h bytes) ≡ Some hs → front bytes ≡ Whole (frame_at h hs bytes) (frame_len h)
front_from bytes h hs long is_head there are = front_behind bytes h long is_head there ∙ ap (with_headers h bytes) are

pub front_bad_headers : (bytes : List ℕ) (h : Head) → 20 ≤ length bytes → head_of bytes ≡ Ok h → frame_len h ≤ length bytes
    → headers_of (headers_part h bytes) ≡ None → front bytes ≡ Bad BadHeaders
front_bad_headers bytes h long is_head there are = front_behind bytes h long is_head there ∙ ap (with_headers h bytes) are

-- ---- what is spelled stands there

three_parts : (h : Head) (bytes : List ℕ) → take (frame_len h) bytes ≡ take 20 bytes ++ (headers_part h bytes ++ take h.body_len (drop (20 + h.headers_len) bytes))
three_parts h bytes =
    let k : 20 + h.headers_len + h.body_len ≡ 20 + (h.headers_len + h.body_len) = omega arith in
    let a : take (20 + (h.headers_len + h.body_len)) bytes ≡ take 20 bytes ++ take (h.headers_len + h.body_len) (drop 20 bytes) = take-add 20 (h.headers_len + h.body_len) bytes in
    let b : take (h.headers_len + h.body_len) (drop 20 bytes) ≡ headers_part h bytes ++ take h.body_len (drop h.headers_len (drop 20 bytes)) = take-add h.headers_len h.body_len (drop 20 bytes) in
    let c : drop h.headers_len (drop 20 bytes) ≡ drop (20 + h.headers_len) bytes = drop-drop h.headers_len 20 bytes in
    ap (λ (n : ℕ). take n bytes) k ∙ a ∙ ap (λ (xs : List ℕ). take 20 bytes ++ xs) (b ∙ ap (λ (xs : List ℕ). headers_part h bytes ++ take h.body_len xs) c)

three_joined : (a b c x y : List ℕ) → a ≡ x → b ≡ y → a ++ (b ++ c) ≡ x ++ (y ++ c)
three_joined a b c x y p q = cc

-- a frame that bytes spell at their front
pub record FrameTakes (f : Frame) (n : ℕ) (bytes : List ℕ) : Type 0 where
  pub is_frame : IsFrame f
  pub long : 20 ≤ n
  pub there : n ≤ length bytes
  pub text : spelling f ≡ take n bytes

frame_at_takes : (bytes : List ℕ) (h : Head) (hs : List Header) → AreBytes bytes → 20 ≤ length bytes → head_of bytes ≡ Ok h → frame_len h ≤ length bytes
    → headers_of (headers_part h bytes) ≡ Some hs → FrameTakes (frame_at h hs bytes) (frame_len h) bytes
frame_at_takes bytes h hs fits long is_head there are =
    let body : List ℕ = take h.body_len (drop (20 + h.headers_len) bytes) in
    let first = head_takes bytes h fits long is_head in
    let second = headers_take (headers_part h bytes) hs (AreBytes-take h.headers_len (drop 20 bytes) (AreBytes-drop 20 bytes fits)) are in
    let part_len : length (headers_part h bytes) ≡ h.headers_len = length-take-le h.headers_len (drop 20 bytes) (omega (arith, length-drop 20 bytes)) in
    let headers_len : length (headers_spelling hs) ≡ h.headers_len = ap length second.text ∙ part_len in
    let body_len : length body ≡ h.body_len = length-take-le h.body_len (drop (20 + h.headers_len) bytes) (omega (arith, length-drop (20 + h.headers_len) bytes)) in
    let same : head_for (frame_at h hs bytes) ≡ h = made_head h h.content h.sequence (length (headers_spelling hs)) (length body) refl refl headers_len body_len in
    let text = three_joined (head_spelling (head_for (frame_at h hs bytes))) (headers_spelling hs) body (take 20 bytes) (headers_part h bytes) (ap head_spelling same ∙ first.text) second.text in
    record {
      is_frame = record {
        content = first.is_head.content;
        sequence = first.is_head.sequence;
        keys = second.keys;
        headers_len = rw headers_len first.is_head.headers_len;
        body_len = rw body_len first.is_head.body_len;
      };
      long = omega arith;
      there = there;
      text = text ∙ sym (three_parts h bytes);
    }

pub front_takes : (bytes : List ℕ) (f : Frame) (n : ℕ) → AreBytes bytes → front bytes ≡ Whole f n → FrameTakes f n bytes
front_takes bytes f n fits e =
    let s = front_stands bytes f n e in
    let made = frame_at_takes bytes s.head s.headers fits s.long s.is_head s.there s.are_headers in
    subst (λ (m : ℕ). FrameTakes f m bytes) s.len (subst (λ (g : Frame). FrameTakes g (frame_len s.head) bytes) s.frame made)

-- ---- what stands there is spelled so

frame_made : (f : Frame) (hs : List Header) (body : List ℕ) → hs ≡ f.headers → body ≡ f.body
    → ◌≡◌ {A = Frame} (record { content = f.content; sequence = f.sequence; headers = hs; body = body }) f
frame_made f hs body p q = rw (p, q) refl

front_of_parts : (bytes : List ℕ) (f : Frame) → IsFrame f → 20 ≤ length bytes → head_of bytes ≡ Ok (head_for f) → frame_len (head_for f) ≤ length bytes
    → headers_part (head_for f) bytes ≡ headers_spelling f.headers → take (length f.body) (drop (20 + length (headers_spelling f.headers)) bytes) ≡ f.body
    → front bytes ≡ Whole f (frame_len (head_for f))
front_of_parts bytes f is long is_head there part body =
    let are : headers_of (headers_part (head_for f) bytes) ≡ Some f.headers = ap headers_of part ∙ headers_again f.headers is.keys (omega (arith, is.headers_len)) in
    front_from bytes (head_for f) f.headers long is_head there are
    ∙ ap (λ (g : Frame). Whole g (frame_len (head_for f))) (frame_made f f.headers (take (length f.body) (drop (20 + length (headers_spelling f.headers)) bytes)) refl body)

head_is_good : (f : Frame) → IsFrame f → IsHead (head_for f)
head_is_good f is = record { content = is.content; sequence = is.sequence; headers_len = is.headers_len; body_len = is.body_len }

pub length-spelling : (f : Frame) → length (spelling f) ≡ frame_len (head_for f)
length-spelling f = omega (arith, length-append (headers_spelling f.headers) f.body)

pub front_again : (f : Frame) (more : List ℕ) → IsFrame f → front (spelling f ++ more) ≡ Whole f (length (spelling f))
front_again f more is =
    let hs : List ℕ = headers_spelling f.headers in
    let behind : drop 20 (spelling f ++ more) ≡ hs ++ (f.body ++ more) = append_assoc hs f.body more in
    let part : headers_part (head_for f) (spelling f ++ more) ≡ hs = ap (take (length hs)) behind ∙ take_at hs (f.body ++ more) (length hs) refl in
    let last : drop (20 + length hs) (spelling f ++ more) ≡ f.body ++ more = sym (drop-drop (length hs) 20 (spelling f ++ more)) ∙ ap (drop (length hs)) behind ∙ drop_at hs (f.body ++ more) (length hs) refl in
    let body : take (length f.body) (drop (20 + length hs) (spelling f ++ more)) ≡ f.body = ap (take (length f.body)) last ∙ take_at f.body more (length f.body) refl in
    let len : length (spelling f ++ more) ≡ frame_len (head_for f) + length more = length-append (spelling f) more ∙ ap (λ (n : ℕ). n + length more) (length-spelling f) in
    front_of_parts (spelling f ++ more) f is (omega arith) (head_again (head_for f) ((hs ++ f.body) ++ more) (head_is_good f is)) (omega arith) part body
    ∙ ap (Whole f) (sym (length-spelling f))

pub front_spelled : (f : Frame) (bytes : List ℕ) → IsFrame f → spelling f ≡ bytes → front bytes ≡ Whole f (length bytes)
front_spelled f bytes is e =
    let alone : spelling f ++ [] ≡ bytes = append-nil (spelling f) ∙ e in
    ap front (sym alone) ∙ front_again f [] is ∙ ap (λ (xs : List ℕ). Whole f (length xs)) e

pub same_whole : (f g : Frame) (m n : ℕ) → Whole f m ≡ Whole g n → (f ≡ g) × (m ≡ n)
same_whole f g m n e = (cc, cc)

-- ---- bytes of which the head was read, as the code reads them

same_Ok : (g h : Head) → ◌≡◌ {A = Result Head FrameFault} (Ok g) (Ok h) → g ≡ h
same_Ok g h e = cc

-- a front of the bytes that has a head's length has their head
pub head_of_front : (n : ℕ) (bytes part : List ℕ) → part ≡ take n bytes → 20 ≤ n → head_of part ≡ head_of bytes
head_of_front n bytes part is long =
    ap head_of is ∙ head_of-same (take n bytes) bytes (λ i lt. let within : i < n = omega arith in get_or-take n bytes i 0 within)

-- bytes that are announced have the length that the head announces which was read of them
pub len_announced : (bytes : List ℕ) (h : Head) → IsAnnounced bytes → head_of bytes ≡ Ok h → length bytes ≡ frame_len h
len_announced bytes h announced e = announced.whole ∙ ap frame_len (same_Ok announced.head h (sym announced.is_head ∙ e))

-- the pieces into which the code cuts the bytes of a frame of which it has the head
pub record Cut (bytes after part : List ℕ) (h : Head) : Type 0 where
  pub is_head : head_of bytes ≡ Ok h
  pub whole : length bytes ≡ frame_len h
  pub behind : after ≡ drop 20 bytes
  pub row : part ≡ take h.headers_len after

cut_part : (bytes after part : List ℕ) (h : Head) → Cut bytes after part h → headers_part h bytes ≡ part
cut_part bytes after part h cut = ap (take h.headers_len) (sym cut.behind) ∙ sym cut.row

pub reads_whole : (bytes after part body : List ℕ) (h : Head) (hs : List Header) → Cut bytes after part h → headers_of part ≡ Some hs → body ≡ drop h.headers_len after
    → front bytes ≡ Whole (record { content = h.content; sequence = h.sequence; headers = hs; body = body }) (length bytes)
reads_whole bytes after part body h hs cut are body_is =
    let len : length bytes ≡ frame_len h = cut.whole in
    let last : drop (20 + h.headers_len) bytes ≡ body = sym (drop-drop h.headers_len 20 bytes) ∙ ap (drop h.headers_len) (sym cut.behind) ∙ sym body_is in
    let body_len : length body ≤ h.body_len = rw (← last) (omega (arith, length-drop (20 + h.headers_len) bytes)) in
    let all : take h.body_len (drop (20 + h.headers_len) bytes) ≡ body = ap (take h.body_len) last ∙ take_all h.body_len body body_len in
    front_from bytes h hs (omega arith) cut.is_head (omega arith) (ap headers_of (cut_part bytes after part h cut) ∙ are)
    ∙ ap (λ (xs : List ℕ). Whole (record { content = h.content; sequence = h.sequence; headers = hs; body = xs }) (frame_len h)) all
    ∙ ap (λ (n : ℕ). Whole (record { content = h.content; sequence = h.sequence; headers = hs; body = body }) n) (sym len)

pub reads_bad : (bytes after part : List ℕ) (h : Head) → Cut bytes after part h → headers_of part ≡ None → front bytes ≡ Bad BadHeaders
reads_bad bytes after part h cut are =
    let len : length bytes ≡ frame_len h = cut.whole in
    front_bad_headers bytes h (omega arith) cut.is_head (omega arith) (ap headers_of (cut_part bytes after part h cut) ∙ are)

-- a frame stands whole where the headers part is a row of headers
pub row_stands : (bytes after part : List ℕ) (h : Head) → Cut bytes after part h → is_some (headers_of part) ≡ true → IsWholeFront bytes
row_stands bytes after part h cut is_row =
    let some = some_from (headers_of part) is_row in
    record {
      frame = record { content = h.content; sequence = h.sequence; headers = some.0; body = drop h.headers_len after };
      len = length bytes;
      stands = reads_whole bytes after part (drop h.headers_len after) h some.0 cut some.1 refl;
    }

-- a frame that stands alone in some bytes is what they spell
pub alone_spelled : (bytes : List ℕ) (f : Frame) → AreBytes bytes → front bytes ≡ Whole f (length bytes) → IsFrame f × (spelling f ≡ bytes)
alone_spelled bytes f fits e =
    let t = front_takes bytes f (length bytes) fits e in
    (t.is_frame, t.text ∙ take_all (length bytes) bytes (omega arith))

pub alone_read : (bytes : List ℕ) (f g : Frame) → front bytes ≡ Whole g (length bytes) → IsFrame f → spelling f ≡ bytes → g ≡ f
alone_read bytes f g e is spelled = (same_whole g f (length bytes) (length bytes) (sym e ∙ front_spelled f bytes is spelled)).0

pub bad_unspelled : (bytes : List ℕ) (f : Frame) (e : FrameFault) → front bytes ≡ Bad e → IsFrame f → spelling f ≡ bytes → ⊥
bad_unspelled bytes f e bad is spelled =
    let whole = front_spelled f bytes is spelled in
    cc

-- ---- what stands stays

pub front_short : (bytes : List ℕ) → length bytes < 20 → front bytes ≡ Short
front_short bytes lt =
    let e : ltb (length bytes) 20 ≡ true = lt-ltb _ _ lt in
    ap (λ (t : Bool). cond t Short (with_head bytes (head_of bytes))) e

pub front_headed : (bytes : List ℕ) (r : Result Head FrameFault) → 20 ≤ length bytes → head_of bytes ≡ r → front bytes ≡ with_head bytes r
front_headed bytes r long e =
    let a : ltb (length bytes) 20 ≡ false = le-ltb _ _ long in
    ap (λ (t : Bool). cond t Short (with_head bytes (head_of bytes))) a ∙ ap (with_head bytes) e

pub front_cut : (bytes : List ℕ) (h : Head) → 20 ≤ length bytes → head_of bytes ≡ Ok h → length bytes < frame_len h → front bytes ≡ Short
front_cut bytes h long e lt =
    let b : ltb (length bytes) (frame_len h) ≡ true = lt-ltb _ _ lt in
    front_headed bytes (Ok h) long e ∙ ap (λ (t : Bool). cond t Short (with_headers h bytes (headers_of (headers_part h bytes)))) b

with_headers-same : (h : Head) (xs ys : List ℕ) (o : Option (List Header)) → take h.body_len (drop (20 + h.headers_len) xs) ≡ take h.body_len (drop (20 + h.headers_len) ys)
    → with_headers h xs o ≡ with_headers h ys o
with_headers-same h xs ys None e = refl
with_headers-same h xs ys (Some hs) e = ap (λ (body : List ℕ). Whole (record { content = h.content; sequence = h.sequence; headers = hs; body = body }) (frame_len h)) e

take_within : (n m : ℕ) (bytes more : List ℕ) → n + m ≤ length bytes → take m (drop n (bytes ++ more)) ≡ take m (drop n bytes)
take_within n m bytes more le =
    let here : n ≤ length bytes = omega arith in
    let there : m ≤ length (drop n bytes) = omega (arith, length-drop n bytes) in
    ap (take m) (drop-append-le n bytes more here) ∙ take-append-le m (drop n bytes) more there

stays_behind : (bytes more : List ℕ) (h : Head) → 20 ≤ length bytes → head_of bytes ≡ Ok h → head_of (bytes ++ more) ≡ Ok h → frame_len h ≤ length bytes
    → front (bytes ++ more) ≡ front bytes
stays_behind bytes more h long a b there =
    let len = length-append bytes more in
    let part : headers_part h (bytes ++ more) ≡ headers_part h bytes = take_within 20 h.headers_len bytes more (omega arith) in
    let body = take_within (20 + h.headers_len) h.body_len bytes more there in
    front_behind (bytes ++ more) h (omega (arith, len)) b (omega (arith, len))
    ∙ ap (λ (xs : List ℕ). with_headers h (bytes ++ more) (headers_of xs)) part
    ∙ with_headers-same h (bytes ++ more) bytes (headers_of (headers_part h bytes)) body
    ∙ sym (front_behind bytes h long a there)

stays_headed : (bytes more : List ℕ) (r : Result Head FrameFault) → 20 ≤ length bytes → head_of bytes ≡ r → head_of (bytes ++ more) ≡ r → (front bytes ≡ Short → ⊥)
    → front (bytes ++ more) ≡ front bytes
stays_headed bytes more (Err d) long a b stands = front_headed (bytes ++ more) (Err d) (omega (arith, length-append bytes more)) b ∙ sym (front_headed bytes (Err d) long a)
stays_headed bytes more (Ok h) long a b stands =
    elim (cases_lt (length bytes) (frame_len h)) [
      | inl lt ↦ absurd (stands (front_cut bytes h long a lt))
      | inr le ↦ stays_behind bytes more h long a b le
    ]

pub front_stays : (bytes more : List ℕ) → (front bytes ≡ Short → ⊥) → front (bytes ++ more) ≡ front bytes
front_stays bytes more stands =
    elim (cases_lt (length bytes) 20) [
      | inl lt ↦ absurd (stands (front_short bytes lt))
      | inr le ↦ stays_headed bytes more (head_of bytes) le refl (head_of-same (bytes ++ more) bytes (λ i lt. get_or_append_left bytes more 0 i (omega arith))) stands
    ]

-- a whole frame has at least its head, and lies in the bytes
pub whole_within : (bytes : List ℕ) (f : Frame) (n : ℕ) → front bytes ≡ Whole f n → (20 ≤ n) × (n ≤ length bytes)
whole_within bytes f n e =
    let s = front_stands bytes f n e in
    (omega (arith, s.len), omega (arith, s.len, s.there))

-- no spelling begins another
pub spelled_apart : (f g : Frame) (more others : List ℕ) → IsFrame f → IsFrame g → spelling f ++ more ≡ spelling g ++ others → (f ≡ g) × (more ≡ others)
spelled_apart f g more others is_f is_g e =
    let same = same_whole f g (length (spelling f)) (length (spelling g)) (sym (front_again f more is_f) ∙ ap front e ∙ front_again g others is_g) in
    (same.0, append_cancel_left (spelling g) more others (ap (λ (x : Frame). spelling x ++ more) (sym same.0) ∙ e))

-- what stands in a front part of the bytes stands in all of them
pub front_taken : (n : ℕ) (bytes : List ℕ) → (front (take n bytes) ≡ Short → ⊥) → front bytes ≡ front (take n bytes)
front_taken n bytes stands = ap front (sym (take-append-drop n bytes)) ∙ front_stays (take n bytes) (drop n bytes) stands

pub limits_from_frame : (f : Frame) → IsFrame f → KeepsLimits f
limits_from_frame f is = record { headers_len = is.headers_len; body_len = is.body_len }
