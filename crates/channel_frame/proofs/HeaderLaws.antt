-- The headers part: what is spelled is read, and what is read is spelled so.
use Rattle.std.proofs.Common.{◌≡◌, ℕ, zero, suc, ◌+◌, ◌^◌, ◌<◌, ◌≤◌, Bool, true, false, cond, ltb, ◌||◌, List, [], ◌∷◌, ◌++◌, length, get_or, take, drop, Option, Some, None, refl, sym, ap, subst, ◌∙◌, append_assoc, arith}
use Rattle.std.specs.Prelude.{is_some}
use Rattle.std.specs.Option.{option_map}
use Rattle.std.specs.List.{AllByRecursion}
use Rattle.std.proofs.Math.Seq.{take-add}
use Rattle.std.proofs.lemmas.Bool.{ltb-false, le-ltb, lt-ltb}
use Rattle.std.proofs.lemmas.List.{take-append-drop, take_at, drop_at, drop-drop, drop-take, append-nil, get_or-take, length-append, length-drop, length-take-le}
use Rattle.std.proofs.lemmas.List.Folds.{length-flat_map-take}
use Rattle.std.proofs.lemmas.Option.{same_Some}
use Rattle.std.proofs.lemmas.Nat.{from_le_bytes-to_le_bytes_4}
use Rattle.channel_frame.specs.declared.frames.Header.{Header}
use Rattle.channel_frame.specs.FrameSpelling.{number, header_spelling, headers_spelling, IsHeader}
use Rattle.channel_frame.specs.StreamReading.{AreBytes, number_at, header_at, headers_past, headers_of, and_then_headers, with_front}
use Rattle.channel_frame.proofs.NumberLaws.{number_at-same, number_fits, number_takes, number_takes_at}

pub length-header_spelling : (h : Header) → length (header_spelling h) ≡ 8 + length h.value
length-header_spelling h = omega arith

-- each header lies within the headers part, behind those before it
pub header_within : (hs : List Header) (i : ℕ) (h : Header) → h ≡ get_or hs i h → i < length hs
    → length (headers_spelling (take i hs)) + (8 + length h.value) ≤ length (headers_spelling hs)
header_within hs i h is lt =
    let all : length (headers_spelling (take i hs)) + length (header_spelling (get_or hs i h)) ≤ length (headers_spelling hs) = length-flat_map-take header_spelling hs i h lt in
    let one : length (headers_spelling (take i hs)) + length (header_spelling h) ≤ length (headers_spelling hs) = rw is all in
    omega (arith, length-header_spelling h)

pub value_fits : (hs : List Header) (i : ℕ) (h : Header) → h ≡ get_or hs i h → i < length hs → length (headers_spelling hs) ≤ 65536 → length h.value ≤ 65536
value_fits hs i h is lt le = omega (arith, header_within hs i h is lt)

-- ---- one header

pub header_again : (h : Header) (more : List ℕ) → h.key < 2 ^ 32 → length h.value < 2 ^ 32 → header_at (header_spelling h ++ more) ≡ Some h
header_again h more key len =
    let key_is : number_at 0 (header_spelling h ++ more) ≡ h.key = from_le_bytes-to_le_bytes_4 h.key key in
    let len_is : number_at 4 (header_spelling h ++ more) ≡ length h.value = from_le_bytes-to_le_bytes_4 (length h.value) len in
    let short : ltb (length (header_spelling h ++ more)) 8 ≡ false = le-ltb _ _ (omega (arith, length-append h.value more)) in
    let cut : ltb (length (header_spelling h ++ more)) (8 + length h.value) ≡ false = le-ltb _ _ (omega (arith, length-append h.value more)) in
    let value_is : take (length h.value) (h.value ++ more) ≡ h.value = take_at h.value more (length h.value) refl in
    rw (key_is, len_is, short, cut, value_is) refl

-- a header that bytes spell at their front
pub record HeaderTakes (h : Header) (bytes : List ℕ) : Type 0 where
  pub key : h.key < 2 ^ 32
  pub there : 8 + length h.value ≤ length bytes
  pub text : header_spelling h ≡ take (8 + length h.value) bytes

-- what two tests let through
some_past : {A : Type 0} (b c : Bool) (x y : A) → cond (b || c) None (Some x) ≡ Some y → (b ≡ false) × (c ≡ false) × (x ≡ y)
some_past true c x y e = absurd cc
some_past false true x y e = absurd cc
some_past false false x y e = (refl, refl, cc)

three_parts : (n : ℕ) (bytes : List ℕ) → take (8 + n) bytes ≡ take 4 bytes ++ (take 4 (drop 4 bytes) ++ take n (drop 8 bytes))
three_parts n bytes =
    let k : 8 + n ≡ 4 + (4 + n) = omega arith in
    let a : take (4 + (4 + n)) bytes ≡ take 4 bytes ++ take (4 + n) (drop 4 bytes) = take-add 4 (4 + n) bytes in
    let b : take (4 + n) (drop 4 bytes) ≡ take 4 (drop 4 bytes) ++ take n (drop 4 (drop 4 bytes)) = take-add 4 n (drop 4 bytes) in
    let c : drop 4 (drop 4 bytes) ≡ drop 8 bytes = drop-drop 4 4 bytes in
    ap (λ (m : ℕ). take m bytes) k ∙ a ∙ ap (λ (xs : List ℕ). take 4 bytes ++ xs) (b ∙ ap (λ (xs : List ℕ). take 4 (drop 4 bytes) ++ take n xs) c)

three_joined : (a x b y v : List ℕ) → a ≡ x → b ≡ y → a ++ (b ++ v) ≡ x ++ (y ++ v)
three_joined a x b y v p q = cc

made_takes : (bytes : List ℕ) (n : ℕ) → AreBytes bytes → 8 ≤ length bytes → number_at 4 bytes ≡ n → 8 + n ≤ length bytes
    → HeaderTakes (record { key = number_at 0 bytes; value = take n (drop 8 bytes) }) bytes
made_takes bytes n fits eight is le =
    let len : length (take n (drop 8 bytes)) ≡ n = length-take-le n (drop 8 bytes) (omega (arith, length-drop 8 bytes)) in
    let key : number (number_at 0 bytes) ≡ take 4 bytes = number_takes bytes fits (omega arith) in
    let len_is : number n ≡ take 4 (drop 4 bytes) = ap number (sym is) ∙ number_takes_at 4 bytes fits (omega arith) in
    let parts = three_joined (number (number_at 0 bytes)) (take 4 bytes) (number (length (take n (drop 8 bytes)))) (take 4 (drop 4 bytes)) (take n (drop 8 bytes)) key (ap number len ∙ len_is) in
    record {
      key = number_fits 0 bytes fits;
      there = rw len le;
      text = parts ∙ sym (three_parts n bytes) ∙ ap (λ (m : ℕ). take (8 + m) bytes) (sym len);
    }

pub header_takes : (bytes : List ℕ) (h : Header) → AreBytes bytes → header_at bytes ≡ Some h → HeaderTakes h bytes
header_takes bytes h fits e =
    let made : Header = record { key = number_at 0 bytes; value = take (number_at 4 bytes) (drop 8 bytes) } in
    let p = some_past (ltb (length bytes) 8) (ltb (length bytes) (8 + number_at 4 bytes)) made h e in
    subst (λ (x : Header). HeaderTakes x bytes) p.2 (made_takes bytes (number_at 4 bytes) fits (ltb-false _ _ p.0) refl (ltb-false _ _ p.1))

-- ---- a row of headers

-- bytes that are passed over are dropped
pub headers_past-drop : (bytes : List ℕ) (n : ℕ) → headers_past bytes n ≡ headers_of (drop n bytes)
headers_past-drop [] zero = refl
headers_past-drop [] (suc n) = refl
headers_past-drop (b ∷ bytes) zero = refl
headers_past-drop (b ∷ bytes) (suc n) = headers_past-drop bytes n

drop_next : (n : ℕ) (b : ℕ) (bytes : List ℕ) → drop (7 + n) bytes ≡ drop (8 + n) (b ∷ bytes)
drop_next n b bytes =
    let k : 8 + n ≡ suc (7 + n) = omega arith in
    rw k refl

pub headers_step : (bytes : List ℕ) (h : Header) → 0 < length bytes → header_at bytes ≡ Some h
    → headers_of bytes ≡ option_map (λ hs. h ∷ hs) (headers_of (drop (8 + length h.value) bytes))
headers_step [] h lt e = absurd (omega arith)
headers_step (b ∷ bytes) h lt e =
    let later : headers_past bytes (7 + length h.value) ≡ headers_of (drop (8 + length h.value) (b ∷ bytes)) = headers_past-drop bytes (7 + length h.value) ∙ ap headers_of (drop_next (length h.value) b bytes) in
    ap (λ (o : Option Header). and_then_headers o (headers_past bytes)) e ∙ ap (λ (o : Option (List Header)). option_map (λ (hs : List Header). h ∷ hs) o) later

differ : (b : Bool) → b ≡ true → b ≡ false → ⊥
differ true p q = absurd cc
differ false p q = absurd cc

-- the header that so many bytes spell
abbrev pub cut_header : ℕ → List ℕ → Header
cut_header len bytes = record { key = number_at 0 bytes; value = drop 8 (take len bytes) }

some_kept : {A : Type 0} (b c : Bool) (x : A) → b ≡ false → c ≡ false → cond (b || c) None (Some x) ≡ Some x
some_kept true c x p q = absurd cc
some_kept false true x p q = absurd cc
some_kept false false x p q = refl

none_cut : {A : Type 0} (b c : Bool) (x : A) → c ≡ true → cond (b || c) None (Some x) ≡ None
none_cut true c x q = refl
none_cut false true x q = refl
none_cut false false x q = absurd cc

-- what the code finds at the front: none where the bytes are too few, else the header that its bytes spell
pub header_short : (bytes : List ℕ) → length bytes < 8 → header_at bytes ≡ None
header_short bytes lt =
    let a : ltb (length bytes) 8 ≡ true = lt-ltb _ _ lt in
    rw a refl

pub header_cut : (bytes : List ℕ) (n : ℕ) → n ≡ number_at 4 bytes → length bytes < 8 + n → header_at bytes ≡ None
header_cut bytes n is lt =
    let made : Header = record { key = number_at 0 bytes; value = take (number_at 4 bytes) (drop 8 bytes) } in
    none_cut (ltb (length bytes) 8) (ltb (length bytes) (8 + number_at 4 bytes)) made (lt-ltb _ _ (rw is at lt))

pub header_there : (bytes : List ℕ) (n : ℕ) → n ≡ number_at 4 bytes → 8 ≤ length bytes → 8 + n ≤ length bytes → header_at bytes ≡ Some (cut_header (8 + n) bytes)
header_there bytes n is eight le =
    let made : Header = record { key = number_at 0 bytes; value = take (number_at 4 bytes) (drop 8 bytes) } in
    let value : take (number_at 4 bytes) (drop 8 bytes) ≡ drop 8 (take (8 + n) bytes) = sym (drop-take 8 (number_at 4 bytes) bytes) ∙ ap (λ (k : ℕ). drop 8 (take (8 + k) bytes)) (sym is) in
    some_kept (ltb (length bytes) 8) (ltb (length bytes) (8 + number_at 4 bytes)) made (le-ltb _ _ eight) (le-ltb _ _ (rw is at le))
    ∙ ap (λ (xs : List ℕ). Some (record { key = number_at 0 bytes; value = xs })) value

-- the bytes that a header takes are as many as it was cut of
cut_len : (bytes : List ℕ) (len : ℕ) → 8 ≤ len → len ≤ length bytes → 8 + length (drop 8 (take len bytes)) ≡ len
cut_len bytes len eight le = omega (arith, length-drop 8 (take len bytes), length-take-le len bytes le)

pub header_from_cut : (bytes : List ℕ) (len : ℕ) → 8 ≤ len → cut_header len bytes ≡ record { key = number_at 0 (take len bytes); value = drop 8 (take len bytes) }
header_from_cut bytes len eight =
    let same = number_at-same 0 (take len bytes) bytes (get_or-take len bytes 0 0 (omega arith)) (get_or-take len bytes 1 0 (omega arith)) (get_or-take len bytes 2 0 (omega arith)) (get_or-take len bytes 3 0 (omega arith)) in
    ap (λ (k : ℕ). record { key = k; value = drop 8 (take len bytes) }) (sym same)

-- what the bytes are read as, once a header is known at their front
pub headers_behind : (bytes : List ℕ) (len : ℕ) → 8 ≤ len → len ≤ length bytes → header_at bytes ≡ Some (cut_header len bytes)
    → headers_of bytes ≡ option_map (λ hs. cut_header len bytes ∷ hs) (headers_of (drop len bytes))
headers_behind bytes len eight le is =
    headers_step bytes (cut_header len bytes) (omega arith) is
    ∙ ap (λ (k : ℕ). option_map (λ (hs : List Header). cut_header len bytes ∷ hs) (headers_of (drop k bytes))) (cut_len bytes len eight le)

is_some_mapped : {A B : Type 0} (f : A → B) (o : Option A) → is_some (option_map f o) ≡ is_some o
is_some_mapped f None = refl
is_some_mapped f (Some x) = refl

-- whether the bytes are a row of headers goes on behind the first one, and ends where none is
pub some_behind : (bytes : List ℕ) (len : ℕ) → 8 ≤ len → len ≤ length bytes → header_at bytes ≡ Some (cut_header len bytes)
    → is_some (headers_of (drop len bytes)) ≡ is_some (headers_of bytes)
some_behind bytes len eight le is =
    sym (is_some_mapped (λ (hs : List Header). cut_header len bytes ∷ hs) (headers_of (drop len bytes))) ∙ ap is_some (sym (headers_behind bytes len eight le is))

none_at_end : (bytes : List ℕ) → header_at bytes ≡ None → 0 < length bytes → is_some (headers_of bytes) ≡ false
none_at_end [] none lt = absurd (omega arith)
none_at_end (b ∷ bytes) none lt = ap (λ (o : Option Header). is_some (and_then_headers o (headers_past bytes))) none

-- what a test of an option says
pub none_from : {A : Type 0} (o : Option A) → is_some o ≡ false → o ≡ None
none_from None e = refl
none_from (Some x) e = absurd cc

pub some_from : {A : Type 0} (o : Option A) → is_some o ≡ true → (x : A) × (o ≡ Some x)
some_from None e = absurd cc
some_from (Some x) e = (x, refl)

is_some_front : (front : List Header) (o : Option (List Header)) → is_some (with_front front o) ≡ is_some o
is_some_front front o = is_some_mapped (λ (hs : List Header). front ++ hs) o

-- all the headers are read where no header is left, of bytes that are a row of headers
pub headers_end : (bytes : List ℕ) (front : List Header) (total : Option (List Header)) → header_at bytes ≡ None → with_front front (headers_of bytes) ≡ total
    → is_some total ≡ true → total ≡ Some front
headers_end [] front total none so_far some = sym so_far ∙ ap (λ (xs : List Header). Some xs) (append-nil front)
headers_end (b ∷ bytes) front total none so_far some =
    let no : is_some (headers_of (b ∷ bytes)) ≡ false = none_at_end (b ∷ bytes) none (omega arith) in
    absurd (differ (is_some total) some (ap is_some (sym so_far) ∙ is_some_front front (headers_of (b ∷ bytes)) ∙ no))

pub headers_again : (hs : List Header) → AllByRecursion IsHeader hs → length (headers_spelling hs) < 2 ^ 32 → headers_of (headers_spelling hs) ≡ Some hs
headers_again [] keys lt = refl
headers_again (h ∷ hs) keys lt =
    let row : List ℕ = header_spelling h ++ headers_spelling hs in
    let len : length row ≡ 8 + length h.value + length (headers_spelling hs) = length-append (header_spelling h) (headers_spelling hs) ∙ ap (λ (n : ℕ). n + length (headers_spelling hs)) (length-header_spelling h) in
    let small : length row < 2 ^ 32 = lt in
    let first : header_at row ≡ Some h = header_again h (headers_spelling hs) keys.0 (omega arith) in
    let behind : drop (8 + length h.value) row ≡ headers_spelling hs = drop_at (header_spelling h) (headers_spelling hs) (8 + length h.value) (length-header_spelling h) in
    headers_step row h (omega arith) first ∙ ap (λ (o : Option (List Header)). option_map (λ (ts : List Header). h ∷ ts) o) (ap headers_of behind ∙ headers_again hs keys.1 (omega arith))

-- headers that bytes spell
pub record HeadersTake (hs : List Header) (part : List ℕ) : Type 0 where
  pub text : headers_spelling hs ≡ part
  pub keys : AllByRecursion IsHeader hs

mapped_some : {A B : Type 0} (f : A → B) (o : Option A) (y : B) → option_map f o ≡ Some y → (x : A) × (o ≡ Some x) × (f x ≡ y)
mapped_some f None y e = absurd cc
mapped_some f (Some x) y e = (x, refl, cc)

first_some : (o : Option Header) (later : ℕ → Option (List Header)) (hs : List Header) → and_then_headers o later ≡ Some hs
    → (h : Header) × (o ≡ Some h) × (option_map (λ ts. h ∷ ts) (later (7 + length h.value)) ≡ Some hs)
first_some None later hs e = absurd cc
first_some (Some h) later hs e = (h, refl, e)

two_joined : (a x b y z : List ℕ) → a ≡ x → b ≡ y → x ++ y ≡ z → a ++ b ≡ z
two_joined a x b y z p q r = cc

nothing_takes : (hs : List Header) → headers_of [] ≡ Some hs → HeadersTake hs []
nothing_takes hs e = subst (λ (ts : List Header). HeadersTake ts []) (same_Some [] hs e) (record { text = refl; keys = tt })

headers_past_take : (part : List ℕ) (n : ℕ) (hs : List Header) → AreBytes part → headers_past part n ≡ Some hs → HeadersTake hs (drop n part)
headers_past_take [] zero hs fits e = nothing_takes hs e
headers_past_take [] (suc n) hs fits e = nothing_takes hs e
headers_past_take (b ∷ part) (suc n) hs fits e = headers_past_take part n hs fits.1 e
headers_past_take (b ∷ part) zero hs fits e =
    let first = first_some (header_at (b ∷ part)) (headers_past part) hs e in
    let h : Header = first.0 in
    let rest = mapped_some (λ (ts : List Header). h ∷ ts) (headers_past part (7 + length h.value)) hs first.2 in
    let one = header_takes (b ∷ part) h fits first.1 in
    let later = headers_past_take part (7 + length h.value) rest.0 fits.1 rest.1 in
    let behind : headers_spelling rest.0 ≡ drop (8 + length h.value) (b ∷ part) = later.text ∙ drop_next (length h.value) b part in
    let text : header_spelling h ++ headers_spelling rest.0 ≡ b ∷ part =
    two_joined (header_spelling h) (take (8 + length h.value) (b ∷ part)) (headers_spelling rest.0) (drop (8 + length h.value) (b ∷ part)) (b ∷ part) one.text behind (take-append-drop (8 + length h.value) (b ∷ part)) in
    subst (λ (ts : List Header). HeadersTake ts (b ∷ part)) rest.2 (record { text = text; keys = (one.key, later.keys) })

pub headers_take : (part : List ℕ) (hs : List Header) → AreBytes part → headers_of part ≡ Some hs → HeadersTake hs part
headers_take part hs fits e = headers_past_take part 0 hs fits e

-- ---- the loop that reads them

regroup : (front : List Header) (h : Header) (o : Option (List Header)) → with_front front (option_map (λ hs. h ∷ hs) o) ≡ with_front (front ++ h ∷ []) o
regroup front h None = refl
regroup front h (Some hs) = ap (λ (ts : List Header). Some ts) (sym (append_assoc front (h ∷ []) hs))

pub headers_go_on : (front : List Header) (rest : List ℕ) (len : ℕ) (total : Option (List Header)) → 8 ≤ len → len ≤ length rest → header_at rest ≡ Some (cut_header len rest)
    → with_front front (headers_of rest) ≡ total → with_front (front ++ cut_header len rest ∷ []) (headers_of (drop len rest)) ≡ total
headers_go_on front rest len total eight le is so_far =
    sym (regroup front (cut_header len rest) (headers_of (drop len rest))) ∙ ap (λ (o : Option (List Header)). with_front front o) (sym (headers_behind rest len eight le is)) ∙ so_far
