-- The head: what is spelled is read, and what is read is spelled so.
use Rattle.std.proofs.Common.{◌≡◌, ℕ, ◌<◌, ◌≤◌, Bool, true, false, cond, ltb, eqb, ◌||◌, ◌&&◌, List, [], ◌∷◌, ◌++◌, length, get_or, take, drop, Ok, Err, refl, sym, ap, subst, ◌∙◌, arith}
use Rattle.std.proofs.Math.Seq.{take-add}
use Rattle.std.proofs.lemmas.Bool.{ltb-false, le-ltb, or_parts, or_from, and_parts, eqb-true}
use Rattle.std.proofs.lemmas.List.{drop-drop}
use Rattle.std.proofs.lemmas.Nat.{from_le_bytes-to_le_bytes_4}
use Rattle.channel_frame.specs.declared.frames.Head.{Head}
use Rattle.channel_frame.specs.declared.frames.FrameFault.TheVariants.{BadMarker, TooLong}
use Rattle.channel_frame.specs.FrameSpelling.{marker, number, head_spelling, IsHead}
use Rattle.channel_frame.specs.StreamReading.{AreBytes, number_at, starts_with_marker, head_of}
use Rattle.channel_frame.proofs.NumberLaws.{take_four, number_at-same, number_fits, number_takes_at}

-- the head that 20 bytes with the marker and good lengths have
abbrev pub head_at : List ℕ → Head
head_at bytes = record { content = number_at 4 bytes; sequence = number_at 8 bytes; headers_len = number_at 12 bytes; body_len = number_at 16 bytes }

head_from : (marked long : Bool) (h : Head) → marked ≡ true → long ≡ false → cond marked (cond long (Err TooLong) (Ok h)) (Err BadMarker) ≡ Ok h
head_from marked long h m l = rw (m, l) refl

pub made_head : (h : Head) (content sequence headers_len body_len : ℕ) → content ≡ h.content → sequence ≡ h.sequence → headers_len ≡ h.headers_len → body_len ≡ h.body_len
    → ◌≡◌ {A = Head} (record { content = content; sequence = sequence; headers_len = headers_len; body_len = body_len }) h
made_head h content sequence headers_len body_len a b c d = rw (a, b, c, d) refl

pub head_from_numbers : (bytes : List ℕ) (h : Head) → starts_with_marker bytes ≡ true → number_at 4 bytes ≡ h.content → number_at 8 bytes ≡ h.sequence
    → number_at 12 bytes ≡ h.headers_len → number_at 16 bytes ≡ h.body_len → IsHead h → head_of bytes ≡ Ok h
head_from_numbers bytes h marked content sequence headers_len body_len is =
    let headers_fit : ltb 65536 (number_at 12 bytes) ≡ false = le-ltb 65536 (number_at 12 bytes) (rw headers_len is.headers_len) in
    let body_fits : ltb 1048576 (number_at 16 bytes) ≡ false = le-ltb 1048576 (number_at 16 bytes) (rw body_len is.body_len) in
    let long = or_from (ltb 65536 (number_at 12 bytes)) (ltb 1048576 (number_at 16 bytes)) headers_fit body_fits in
    head_from (starts_with_marker bytes) (ltb 65536 (number_at 12 bytes) || ltb 1048576 (number_at 16 bytes)) (head_at bytes) marked long
    ∙ ap (λ (x : Head). Ok x) (made_head h (number_at 4 bytes) (number_at 8 bytes) (number_at 12 bytes) (number_at 16 bytes) content sequence headers_len body_len)

pub head_again : (h : Head) (more : List ℕ) → IsHead h → head_of (head_spelling h ++ more) ≡ Ok h
head_again h more is = head_from_numbers (head_spelling h ++ more) h refl (from_le_bytes-to_le_bytes_4 h.content is.content) (from_le_bytes-to_le_bytes_4 h.sequence is.sequence)
    (from_le_bytes-to_le_bytes_4 h.headers_len (omega (arith, is.headers_len))) (from_le_bytes-to_le_bytes_4 h.body_len (omega (arith, is.body_len))) is

head_past : (marked long : Bool) (x h : Head) → cond marked (cond long (Err TooLong) (Ok x)) (Err BadMarker) ≡ Ok h → (marked ≡ true) × (long ≡ false) × (x ≡ h)
head_past true true x h e = absurd cc
head_past true false x h e = (refl, refl, cc)
head_past false long x h e = absurd cc

marker_at : (a b c d : ℕ) → (eqb a 3 && eqb b 6 && eqb c 9 && eqb d 12) ≡ true → marker ≡ a ∷ b ∷ c ∷ d ∷ []
marker_at a b c d e =
    let abc = and_parts (eqb a 3 && eqb b 6 && eqb c 9) (eqb d 12) e in
    let ab = and_parts (eqb a 3 && eqb b 6) (eqb c 9) abc.0 in
    let a_b = and_parts (eqb a 3) (eqb b 6) ab.0 in
    let is_a : a ≡ 3 = eqb-true a 3 a_b.0 in
    let is_b : b ≡ 6 = eqb-true b 6 a_b.1 in
    let is_c : c ≡ 9 = eqb-true c 9 ab.1 in
    let is_d : d ≡ 12 = eqb-true d 12 abc.1 in
    rw (is_a, is_b, is_c, is_d) refl

marker_takes : (bytes : List ℕ) → 4 ≤ length bytes → starts_with_marker bytes ≡ true → marker ≡ take 4 bytes
marker_takes bytes le e = marker_at (get_or bytes 0 0) (get_or bytes 1 0) (get_or bytes 2 0) (get_or bytes 3 0) e ∙ sym (take_four bytes le)

five_parts : (bytes : List ℕ) → take 20 bytes ≡ take 4 bytes ++ (take 4 (drop 4 bytes) ++ (take 4 (drop 8 bytes) ++ (take 4 (drop 12 bytes) ++ take 4 (drop 16 bytes))))
five_parts bytes =
    let a : take 20 bytes ≡ take 4 bytes ++ take 16 (drop 4 bytes) = take-add 4 16 bytes in
    let b : take 16 (drop 4 bytes) ≡ take 4 (drop 4 bytes) ++ take 12 (drop 4 (drop 4 bytes)) = take-add 4 12 (drop 4 bytes) in
    let b' : drop 4 (drop 4 bytes) ≡ drop 8 bytes = drop-drop 4 4 bytes in
    let c : take 12 (drop 8 bytes) ≡ take 4 (drop 8 bytes) ++ take 8 (drop 4 (drop 8 bytes)) = take-add 4 8 (drop 8 bytes) in
    let c' : drop 4 (drop 8 bytes) ≡ drop 12 bytes = drop-drop 4 8 bytes in
    let d : take 8 (drop 12 bytes) ≡ take 4 (drop 12 bytes) ++ take 4 (drop 4 (drop 12 bytes)) = take-add 4 4 (drop 12 bytes) in
    let d' : drop 4 (drop 12 bytes) ≡ drop 16 bytes = drop-drop 4 12 bytes in
    cc

five_joined : (a b c d e p q r s t : List ℕ) → a ≡ p → b ≡ q → c ≡ r → d ≡ s → e ≡ t → a ++ (b ++ (c ++ (d ++ e))) ≡ p ++ (q ++ (r ++ (s ++ t)))
five_joined a b c d e p q r s t i j k l m = cc

-- a head that bytes spell at their front
pub record HeadTakes (h : Head) (bytes : List ℕ) : Type 0 where
  pub is_head : IsHead h
  pub text : head_spelling h ≡ take 20 bytes

-- twenty bytes with the marker spell their numbers
pub numbers_take : (bytes : List ℕ) → AreBytes bytes → 20 ≤ length bytes → starts_with_marker bytes ≡ true → head_spelling (head_at bytes) ≡ take 20 bytes
numbers_take bytes fits le marked =
    let first = marker_takes bytes (omega arith) marked in
    let text = five_joined marker (number (number_at 4 bytes)) (number (number_at 8 bytes)) (number (number_at 12 bytes)) (number (number_at 16 bytes)) _ _ _ _ _
    first (number_takes_at 4 bytes fits (omega arith)) (number_takes_at 8 bytes fits (omega arith)) (number_takes_at 12 bytes fits (omega arith)) (number_takes_at 16 bytes fits (omega arith)) in
    text ∙ sym (five_parts bytes)

pub head_takes : (bytes : List ℕ) (h : Head) → AreBytes bytes → 20 ≤ length bytes → head_of bytes ≡ Ok h → HeadTakes h bytes
head_takes bytes h fits le e =
    let p = head_past (starts_with_marker bytes) (ltb 65536 (number_at 12 bytes) || ltb 1048576 (number_at 16 bytes)) (head_at bytes) h e in
    let short = or_parts (ltb 65536 (number_at 12 bytes)) (ltb 1048576 (number_at 16 bytes)) p.1 in
    subst (λ (x : Head). HeadTakes x bytes) p.2 (record {
      is_head = record { content = number_fits 4 bytes fits; sequence = number_fits 8 bytes fits; headers_len = ltb-false _ _ short.0; body_len = ltb-false _ _ short.1 };
      text = numbers_take bytes fits le p.0;
    })

-- lists with the same first 20 bytes have the same head
pub head_of-same : (xs ys : List ℕ) → ((i : ℕ) → i < 20 → get_or xs i 0 ≡ get_or ys i 0) → head_of xs ≡ head_of ys
head_of-same xs ys same =
    let s0 = same 0 (omega arith) in let s1 = same 1 (omega arith) in let s2 = same 2 (omega arith) in let s3 = same 3 (omega arith) in
    let content : number_at 4 xs ≡ number_at 4 ys = number_at-same 4 xs ys (same 4 (omega arith)) (same 5 (omega arith)) (same 6 (omega arith)) (same 7 (omega arith)) in
    let sequence : number_at 8 xs ≡ number_at 8 ys = number_at-same 8 xs ys (same 8 (omega arith)) (same 9 (omega arith)) (same 10 (omega arith)) (same 11 (omega arith)) in
    let headers_len : number_at 12 xs ≡ number_at 12 ys = number_at-same 12 xs ys (same 12 (omega arith)) (same 13 (omega arith)) (same 14 (omega arith)) (same 15 (omega arith)) in
    let body_len : number_at 16 xs ≡ number_at 16 ys = number_at-same 16 xs ys (same 16 (omega arith)) (same 17 (omega arith)) (same 18 (omega arith)) (same 19 (omega arith)) in
    cc

-- a head that is read keeps the limits
pub head_limits : (bytes : List ℕ) (h : Head) → head_of bytes ≡ Ok h → (h.headers_len ≤ 65536) × (h.body_len ≤ 1048576)
head_limits bytes h e =
    let p = head_past (starts_with_marker bytes) (ltb 65536 (number_at 12 bytes) || ltb 1048576 (number_at 16 bytes)) (head_at bytes) h e in
    let short = or_parts (ltb 65536 (number_at 12 bytes)) (ltb 1048576 (number_at 16 bytes)) p.1 in
    let a : number_at 12 bytes ≤ 65536 = ltb-false 65536 (number_at 12 bytes) short.0 in
    let b : number_at 16 bytes ≤ 1048576 = ltb-false 1048576 (number_at 16 bytes) short.1 in
    let first : number_at 12 bytes ≡ h.headers_len = ap (λ (x : Head). x.headers_len) p.2 in
    let second : number_at 16 bytes ≡ h.body_len = ap (λ (x : Head). x.body_len) p.2 in
    (rw (← first) a, rw (← second) b)
