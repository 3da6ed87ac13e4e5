-- Numbers of four bytes: what is spelled is read, and what is read is spelled so.
use Rattle.std.proofs.Common.{◌≡◌, ℕ, zero, suc, ◌+◌, ◌^◌, ◌<◌, ◌≤◌, List, [], ◌∷◌, length, get_or, take, drop, refl, sym, ap, ◌∙◌, arith}
use Rattle.std.proofs.lemmas.List.{get_or-drop, length-drop}
use Rattle.std.proofs.lemmas.Nat.{le_bytes_4}
use Rattle.channel_frame.specs.FrameSpelling.{number}
use Rattle.channel_frame.specs.StreamReading.{AreBytes, number_at}

-- the element at each place, and the 0 past the end, is a byte
pub byte_fits : (bytes : List ℕ) → AreBytes bytes → (i : ℕ) → get_or bytes i 0 < 256
byte_fits [] fits i = omega arith
byte_fits (b ∷ bytes) fits zero = fits.0
byte_fits (b ∷ bytes) fits (suc i) = byte_fits bytes fits.1 i

pub AreBytes-take : (n : ℕ) (bytes : List ℕ) → AreBytes bytes → AreBytes (take n bytes)
AreBytes-take zero bytes fits = tt
AreBytes-take (suc n) [] fits = tt
AreBytes-take (suc n) (b ∷ bytes) fits = (fits.0, AreBytes-take n bytes fits.1)

pub AreBytes-drop : (n : ℕ) (bytes : List ℕ) → AreBytes bytes → AreBytes (drop n bytes)
AreBytes-drop zero bytes fits = fits
AreBytes-drop (suc n) [] fits = tt
AreBytes-drop (suc n) (b ∷ bytes) fits = AreBytes-drop n bytes fits.1

-- the first four bytes, one by one
pub take_four : (bytes : List ℕ) → 4 ≤ length bytes → take 4 bytes ≡ get_or bytes 0 0 ∷ get_or bytes 1 0 ∷ get_or bytes 2 0 ∷ get_or bytes 3 0 ∷ []
take_four [] le = absurd (omega arith)
take_four (a ∷ []) le = absurd (omega arith)
take_four (a ∷ b ∷ []) le = absurd (omega arith)
take_four (a ∷ b ∷ c ∷ []) le = absurd (omega arith)
take_four (a ∷ b ∷ c ∷ d ∷ bytes) le = refl

-- a number read in the rest of a list stands later in the list
pub number_at-drop : (n at : ℕ) (bytes : List ℕ) → number_at at (drop n bytes) ≡ number_at (n + at) bytes
number_at-drop n at bytes =
    let a = get_or-drop n bytes at 0 in
    let b = get_or-drop n bytes (at + 1) 0 in
    let c = get_or-drop n bytes (at + 2) 0 in
    let d = get_or-drop n bytes (at + 3) 0 in
    let one : n + (at + 1) ≡ (n + at) + 1 = omega arith in
    let two : n + (at + 2) ≡ (n + at) + 2 = omega arith in
    let three : n + (at + 3) ≡ (n + at) + 3 = omega arith in
    cc

-- two lists with the same four bytes at a place have the same number there
pub number_at-same : (at : ℕ) (xs ys : List ℕ) → get_or xs at 0 ≡ get_or ys at 0 → get_or xs (at + 1) 0 ≡ get_or ys (at + 1) 0
    → get_or xs (at + 2) 0 ≡ get_or ys (at + 2) 0 → get_or xs (at + 3) 0 ≡ get_or ys (at + 3) 0 → number_at at xs ≡ number_at at ys
number_at-same at xs ys a b c d = cc

pub number_fits : (at : ℕ) (bytes : List ℕ) → AreBytes bytes → number_at at bytes < 2 ^ 32
number_fits at bytes fits = omega (arith, byte_fits bytes fits at, byte_fits bytes fits (at + 1), byte_fits bytes fits (at + 2), byte_fits bytes fits (at + 3))

-- four bytes spell the number that they are read as
pub number_takes : (bytes : List ℕ) → AreBytes bytes → 4 ≤ length bytes → number (number_at 0 bytes) ≡ take 4 bytes
number_takes bytes fits le =
    let four : List ℕ = get_or bytes 0 0 ∷ get_or bytes 1 0 ∷ get_or bytes 2 0 ∷ get_or bytes 3 0 ∷ [] in
    let is_four = take_four bytes le in
    let are_bytes : AreBytes (take 4 bytes) = AreBytes-take 4 bytes fits in
    let four_fit : AreBytes four = rw is_four at are_bytes in
    le_bytes_4 four (number_at 0 bytes) refl (byte_fits four four_fit) refl ∙ sym is_four

-- the same at a place
pub number_takes_at : (at : ℕ) (bytes : List ℕ) → AreBytes bytes → at + 4 ≤ length bytes → number (number_at at bytes) ≡ take 4 (drop at bytes)
number_takes_at at bytes fits le =
    let here : number_at 0 (drop at bytes) ≡ number_at (at + 0) bytes = number_at-drop at 0 bytes in
    let none : at + 0 ≡ at = omega arith in
    let is : number_at 0 (drop at bytes) ≡ number_at at bytes = rw none at here in
    ap number (sym is) ∙ number_takes (drop at bytes) (AreBytes-drop at bytes fits) (omega (arith, length-drop at bytes))

pub AreBytes-from : (bytes : List ℕ) → ((i : ℕ) → get_or bytes i 0 < 256) → AreBytes bytes
AreBytes-from [] each = tt
AreBytes-from (b ∷ bytes) each = (each 0, AreBytes-from bytes (λ i. each (suc i)))
