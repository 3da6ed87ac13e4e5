-- The kinds of a tail: what stands at the front of some bytes is told by what is spelled there.
use Rattle.std.proofs.Common.{◌≡◌, ℕ, ◌+◌, ◌<◌, ◌≤◌, Bool, true, false, cond, ltb, ◌||◌, List, [], ◌∷◌, ◌++◌, length, take, drop, Option, Some, None, Result, Ok, Err, refl, sym, ap, subst, ◌∙◌, arith, inl, inr, ◌⊎◌}
use Rattle.std.specs.List.{AllByRecursion, list_all}
use Rattle.std.proofs.lemmas.Bool.{ltb-true, lt-ltb, cases_lt, and_parts}
use Rattle.std.proofs.lemmas.List.{take-append-drop, length-append, length-take-le, length-drop}
use Rattle.std.proofs.lemmas.Nat.{from_le_bytes-to_le_bytes_4}
use Rattle.channel_frame.specs.declared.frames.Head.{Head}
use Rattle.channel_frame.specs.declared.frames.Header.{Header}
use Rattle.channel_frame.specs.declared.frames.FrameFault.{FrameFault}
use Rattle.channel_frame.specs.declared.frames.FrameFault.TheVariants.{BadMarker, TooLong, BadHeaders}
use Rattle.channel_frame.specs.declared.frames.Front.TheVariants.{Short, Bad}
use Rattle.channel_frame.specs.FrameSpelling.{marker, head_spelling, headers_spelling, IsHead, IsHeader}
use Rattle.channel_frame.specs.StreamReading.{AreBytes, number_at, starts_with_marker, head_of, frame_len, headers_of, headers_part, with_headers, front}
use Rattle.channel_frame.specs.TailKinds.{IsMarked, IsHeaded, IsUnfinished, IsUnmarked, IsTooLong, HasBadHeaders}
use Rattle.channel_frame.proofs.NumberLaws.{number_fits, AreBytes-take, AreBytes-drop}
use Rattle.channel_frame.proofs.HeadLaws.{head_at, head_again, head_takes, numbers_take}
use Rattle.channel_frame.proofs.HeaderLaws.{headers_again, headers_take}
use Rattle.channel_frame.proofs.FrontLaws.{front_behind, front_bad_headers, front_short, front_headed, front_cut}

-- Bytes that pass the test are bytes.
pub are_bytes : (bytes : List ℕ) → list_all (λ b. ltb b 256) bytes ≡ true → AreBytes bytes
are_bytes [] e = tt
are_bytes (b ∷ bytes) e =
    let p = and_parts (ltb b 256) (list_all (λ b. ltb b 256) bytes) e in
    (ltb-true b 256 p.0, are_bytes bytes p.1)

-- ---- the marker and the head

long_enough : (bytes : List ℕ) (h : Head) → IsHeaded bytes h → 20 ≤ length bytes
long_enough bytes h is = subst (λ bs. 20 ≤ length bs) (sym is.text) (omega (arith, length-append (head_spelling h) is.more))

begins_marked : (bytes : List ℕ) → IsMarked bytes → starts_with_marker bytes ≡ true
begins_marked bytes is = ap starts_with_marker is.text

is_marked : (bytes : List ℕ) → 4 ≤ length bytes → marker ≡ take 4 bytes → IsMarked bytes
is_marked bytes le e = record { more = drop 4 bytes; text = sym (take-append-drop 4 bytes) ∙ ap (λ bs. bs ++ drop 4 bytes) (sym e) }

headed_marked : (bytes : List ℕ) (h : Head) → IsHeaded bytes h → starts_with_marker bytes ≡ true
headed_marked bytes h is = ap starts_with_marker is.text

headed_good : (bytes : List ℕ) (h : Head) → IsHeaded bytes h → IsHead h → head_of bytes ≡ Ok h
headed_good bytes h is good = ap head_of is.text ∙ head_again h is.more good

headers_at : (bytes : List ℕ) (h : Head) → IsHeaded bytes h → number_at 12 bytes ≡ h.headers_len
headers_at bytes h is = ap (number_at 12) is.text ∙ from_le_bytes-to_le_bytes_4 h.headers_len is.headers_len

body_at : (bytes : List ℕ) (h : Head) → IsHeaded bytes h → number_at 16 bytes ≡ h.body_len
body_at bytes h is = ap (number_at 16) is.text ∙ from_le_bytes-to_le_bytes_4 h.body_len is.body_len

-- Twenty bytes with the marker are a head.
numbers_headed : (bytes : List ℕ) → AreBytes bytes → 20 ≤ length bytes → starts_with_marker bytes ≡ true → IsHeaded bytes (head_at bytes)
numbers_headed bytes fits le marked = record {
  more = drop 20 bytes;
  text = sym (take-append-drop 20 bytes) ∙ ap (λ bs. bs ++ drop 20 bytes) (sym (numbers_take bytes fits le marked));
  content = number_fits 4 bytes fits;
  sequence = number_fits 8 bytes fits;
  headers_len = number_fits 12 bytes fits;
  body_len = number_fits 16 bytes fits;
}

good_headed : (bytes : List ℕ) (h : Head) → AreBytes bytes → 20 ≤ length bytes → head_of bytes ≡ Ok h → IsHeaded bytes h × IsHead h
good_headed bytes h fits le e =
    let t = head_takes bytes h fits le e in (
      record {
        more = drop 20 bytes;
        text = sym (take-append-drop 20 bytes) ∙ ap (λ bs. bs ++ drop 20 bytes) (sym t.text);
        content = t.is_head.content;
        sequence = t.is_head.sequence;
        headers_len = omega (arith, t.is_head.headers_len);
        body_len = omega (arith, t.is_head.body_len);
      },
      t.is_head,
    )

-- ---- from a kind to what stands

pub unfinished_short : (bytes : List ℕ) → IsUnfinished bytes → front bytes ≡ Short
unfinished_short bytes (inl few) = front_short bytes few
unfinished_short bytes (inr k) = front_cut bytes k.head (long_enough bytes k.head k.headed) (headed_good bytes k.head k.headed k.is_head) k.few

unmarked_head : (marked long : Bool) (h : Head) → marked ≡ false → cond marked (cond long (Err TooLong) (Ok h)) (Err BadMarker) ≡ Err BadMarker
unmarked_head marked long h m = rw m refl

not_marked : (bytes : List ℕ) (b : Bool) → starts_with_marker bytes ≡ b → AreBytes bytes → IsUnmarked bytes → b ≡ false
not_marked bytes false is fits k = refl
not_marked bytes true is fits k =
    let h = numbers_headed bytes fits k.long is in
    absurd (k.other (record { more = _; text = h.text }))

pub unmarked_bad : (bytes : List ℕ) → AreBytes bytes → IsUnmarked bytes → front bytes ≡ Bad BadMarker
unmarked_bad bytes fits k =
    front_headed bytes (Err BadMarker) k.long
    (unmarked_head (starts_with_marker bytes) (ltb 65536 (number_at 12 bytes) || ltb 1048576 (number_at 16 bytes)) (head_at bytes) (not_marked bytes (starts_with_marker bytes) refl fits k))

long_head : (marked long : Bool) (h : Head) → marked ≡ true → long ≡ true → cond marked (cond long (Err TooLong) (Ok h)) (Err BadMarker) ≡ Err TooLong
long_head marked long h m l = rw (m, l) refl

one_long : (a b c d : ℕ) → a ≡ c → b ≡ d → (65536 < c) ⊎ (1048576 < d) → (ltb 65536 a || ltb 1048576 b) ≡ true
one_long a b c d p q (inl lt) = ap (λ t. t || ltb 1048576 b) (lt-ltb 65536 a (rw p lt))
one_long a b c d p q (inr lt) = by (ltb 65536 a) (lt-ltb 1048576 b (rw q lt))
  where
    by : (t : Bool) → ltb 1048576 b ≡ true → (t || ltb 1048576 b) ≡ true
    by true e = refl
    by false e = e

pub too_long_bad : (bytes : List ℕ) → IsTooLong bytes → front bytes ≡ Bad TooLong
too_long_bad bytes k =
    front_headed bytes (Err TooLong) (long_enough bytes k.head k.headed)
    (long_head (starts_with_marker bytes) (ltb 65536 (number_at 12 bytes) || ltb 1048576 (number_at 16 bytes)) (head_at bytes) (headed_marked bytes k.head k.headed)
    (one_long (number_at 12 bytes) (number_at 16 bytes) k.head.headers_len k.head.body_len (headers_at bytes k.head k.headed) (body_at bytes k.head k.headed) k.long))

no_headers : (part : List ℕ) → AreBytes part → ((hs : List Header) → AllByRecursion IsHeader hs → headers_spelling hs ≡ part → ⊥) → (o : Option (List Header)) → headers_of part ≡ o → o ≡ None
no_headers part fits none None e = refl
no_headers part fits none (Some hs) e =
    let t = headers_take part hs fits e in
    absurd (none hs t.keys t.text)

pub bad_headers_bad : (bytes : List ℕ) → AreBytes bytes → HasBadHeaders bytes → front bytes ≡ Bad BadHeaders
bad_headers_bad bytes fits k =
    front_bad_headers bytes k.head (long_enough bytes k.head k.headed) (headed_good bytes k.head k.headed k.is_head) k.there
    (no_headers (headers_part k.head bytes) (AreBytes-take k.head.headers_len (drop 20 bytes) (AreBytes-drop 20 bytes fits)) k.none (headers_of (headers_part k.head bytes)) refl)

-- ---- from what stands to a kind

headers_front : (bytes : List ℕ) (h : Head) (o : Option (List Header)) → with_headers h bytes o ≡ Short → ⊥
headers_front bytes h None e = cc
headers_front bytes h (Some hs) e = cc

pub short_unfinished : (bytes : List ℕ) → AreBytes bytes → front bytes ≡ Short → IsUnfinished bytes
short_unfinished bytes fits e =
    elim (cases_lt (length bytes) 20) [
      | inl lt ↦ inl lt
      | inr le ↦ headed le (head_of bytes) refl
    ]
  where
    behind : 20 ≤ length bytes → (h : Head) → head_of bytes ≡ Ok h → IsUnfinished bytes
    behind le h is =
        let good = good_headed bytes h fits le is in
        elim (cases_lt (length bytes) (frame_len h)) [
          | inl lt ↦ inr (record { head = h; headed = good.0; is_head = good.1; few = lt })
          | inr there ↦ absurd (headers_front bytes h (headers_of (headers_part h bytes)) (sym (front_behind bytes h le is there) ∙ e))
        ]

    headed : 20 ≤ length bytes → (r : Result Head FrameFault) → head_of bytes ≡ r → IsUnfinished bytes
    headed le (Ok h) is = behind le h is
    headed le (Err d) is = let stands = sym (front_headed bytes (Err d) le is) ∙ e in absurd (cc)

not_short : (bytes : List ℕ) (d : FrameFault) → front bytes ≡ Bad d → 20 ≤ length bytes
not_short bytes d e =
    elim (cases_lt (length bytes) 20) [
      | inl lt ↦ let stands = sym (front_short bytes lt) ∙ e in absurd (cc)
      | inr le ↦ le
    ]

-- What a fault at the front says of the head.
data FaultOf (bytes : List ℕ) : FrameFault → Type 0 where
  of_marker : starts_with_marker bytes ≡ false → FaultOf bytes BadMarker
  of_length : starts_with_marker bytes ≡ true → (ltb 65536 (number_at 12 bytes) || ltb 1048576 (number_at 16 bytes)) ≡ true → FaultOf bytes TooLong
  of_headers : (h : Head) → head_of bytes ≡ Ok h → frame_len h ≤ length bytes → headers_of (headers_part h bytes) ≡ None → FaultOf bytes BadHeaders

same_fault : (d g : FrameFault) → Bad d ≡ Bad g → d ≡ g
same_fault d g e = cc

same_head : (g h : Head) → ◌≡◌ {A = Result Head FrameFault} (Ok g) (Ok h) → g ≡ h
same_head g h e = cc

fault_at : (bytes : List ℕ) (d : FrameFault) → front bytes ≡ Bad d → FaultOf bytes d
fault_at bytes d e = by (starts_with_marker bytes) refl (ltb 65536 (number_at 12 bytes) || ltb 1048576 (number_at 16 bytes)) refl
  where
    long : 20 ≤ length bytes
    long = not_short bytes d e

    numbers : Bool → Bool → Result Head FrameFault
    numbers m l = cond m (cond l (Err TooLong) (Ok (head_at bytes))) (Err BadMarker)

    is_head : (m l : Bool) → starts_with_marker bytes ≡ m → (ltb 65536 (number_at 12 bytes) || ltb 1048576 (number_at 16 bytes)) ≡ l → head_of bytes ≡ cond m (cond l (Err TooLong) (Ok (head_at bytes))) (Err BadMarker)
    is_head m l p q = rw (p, q) refl

    behind : (h : Head) → head_of bytes ≡ Ok h → FaultOf bytes d
    behind h is =
        elim (cases_lt (length bytes) (frame_len h)) [
          | inl lt ↦ let stands = sym (front_cut bytes h long is lt) ∙ e in absurd (cc)
          | inr there ↦ headers (headers_of (headers_part h bytes)) refl (sym (front_behind bytes h long is there) ∙ e)
        ]
      where
        headers : (o : Option (List Header)) → headers_of (headers_part h bytes) ≡ o → with_headers h bytes o ≡ Bad d → FaultOf bytes d
        headers None are stands = subst (FaultOf bytes) (same_fault BadHeaders d stands) (of_headers h is (elim (cases_lt (length bytes) (frame_len h)) [ inl lt ↦ (let stands = sym (front_cut bytes h long is lt) ∙ e in absurd (cc)) | inr there ↦ there ]) are)
        headers (Some hs) are stands = absurd (cc)

    by : (m : Bool) → starts_with_marker bytes ≡ m → (l : Bool) → (ltb 65536 (number_at 12 bytes) || ltb 1048576 (number_at 16 bytes)) ≡ l → FaultOf bytes d
    by false p l q = subst (FaultOf bytes) (same_fault BadMarker d (sym (front_headed bytes (Err BadMarker) long (is_head false l p q)) ∙ e)) (of_marker p)
    by true p true q = subst (FaultOf bytes) (same_fault TooLong d (sym (front_headed bytes (Err TooLong) long (is_head true true p q)) ∙ e)) (of_length p q)
    by true p false q = behind (head_at bytes) (is_head true false p q)

pub bad_unmarked : (bytes : List ℕ) → front bytes ≡ Bad BadMarker → IsUnmarked bytes
bad_unmarked bytes e = by (fault_at bytes BadMarker e)
  where
    by : FaultOf bytes BadMarker → IsUnmarked bytes
    by (of_marker p) = record { long = not_short bytes BadMarker e; other = λ is. let no : true ≡ false = sym (begins_marked bytes is) ∙ p in cc }

or_cases : (a b : ℕ) → (ltb 65536 a || ltb 1048576 b) ≡ true → (65536 < a) ⊎ (1048576 < b)
or_cases a b e = by (ltb 65536 a) refl e
  where
    by : (t : Bool) → ltb 65536 a ≡ t → (t || ltb 1048576 b) ≡ true → (65536 < a) ⊎ (1048576 < b)
    by true is e = inl (ltb-true 65536 a is)
    by false is e = inr (ltb-true 1048576 b e)

pub bad_too_long : (bytes : List ℕ) → AreBytes bytes → front bytes ≡ Bad TooLong → IsTooLong bytes
bad_too_long bytes fits e = by (fault_at bytes TooLong e)
  where
    by : FaultOf bytes TooLong → IsTooLong bytes
    by (of_length p q) = record {
      head = head_at bytes;
      headed = numbers_headed bytes fits (not_short bytes TooLong e) p;
      long = or_cases (number_at 12 bytes) (number_at 16 bytes) q;
    }

pub bad_headers_none : (bytes : List ℕ) → AreBytes bytes → front bytes ≡ Bad BadHeaders → HasBadHeaders bytes
bad_headers_none bytes fits e = by (fault_at bytes BadHeaders e)
  where
    spelled : (h : Head) → IsHead h → headers_of (headers_part h bytes) ≡ None → (hs : List Header) → AllByRecursion IsHeader hs → headers_spelling hs ≡ headers_part h bytes → 20 + h.headers_len ≤ length bytes → ⊥
    spelled h good are hs keys text le =
        let len : length (headers_spelling hs) ≡ h.headers_len = ap length text ∙ length-take-le h.headers_len (drop 20 bytes) (omega (arith, length-drop 20 bytes)) in
        let read : headers_of (headers_part h bytes) ≡ Some hs = ap headers_of (sym text) ∙ headers_again hs keys (omega (arith, len, good.headers_len)) in
        let both = sym read ∙ are in
        cc

    by : FaultOf bytes BadHeaders → HasBadHeaders bytes
    by (of_headers h is there are) =
        let good = good_headed bytes h fits (not_short bytes BadHeaders e) is in
        record { head = h; headed = good.0; is_head = good.1; there = there; none = λ hs keys text. spelled h good.1 are hs keys text (omega arith) }
