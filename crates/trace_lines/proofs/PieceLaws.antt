-- How bytes are cut into pieces.
use Rattle.std.proofs.Common.{◌≡◌, ℕ, zero, suc, ◌-◌, ◌≤◌, ◌<◌, List, [], ◌∷◌, ◌++◌, length, take, drop, map, refl, sym, ap, ◌∙◌, append_assoc, arith}
use Rattle.std.specs.List.{flat_map, AllByRecursion}
use Rattle.std.proofs.lemmas.List.{take-append-drop, length-take, take_all, drop_all}
use Rattle.channel_frame.proofs.ReadingLaws.{drop_before}
use Rattle.session_mux.specs.Arrivals.{Data, most_data, record_bytes}
use Rattle.trace_lines.specs.ActRecords.{pieces_past, pieces, data_records}

pieces_past-drop : (bytes : List ℕ) (n : ℕ) → pieces_past bytes n ≡ pieces (drop n bytes)
pieces_past-drop [] zero = refl
pieces_past-drop [] (suc n) = refl
pieces_past-drop (b ∷ bytes) zero = refl
pieces_past-drop (b ∷ bytes) (suc n) = pieces_past-drop bytes n

-- the first piece, and those of what stands behind it
pub pieces_more : (bytes : List ℕ) → 0 < length bytes → pieces bytes ≡ take most_data bytes ∷ pieces (drop most_data bytes)
pieces_more [] some = absurd (omega arith)
pieces_more (b ∷ bytes) some =
    ap (λ (ps : List (List ℕ)). take most_data (b ∷ bytes) ∷ ps)
    (pieces_past-drop bytes (most_data - 1) ∙ ap pieces (sym (drop_before most_data b bytes (omega arith))))

joined_past : (bytes : List ℕ) (n : ℕ) → flat_map (λ p. p) (pieces_past bytes n) ≡ drop n bytes
joined_past [] zero = refl
joined_past [] (suc n) = refl
joined_past (b ∷ bytes) (suc n) = joined_past bytes n
joined_past (b ∷ bytes) zero =
    ap (λ (t : List ℕ). take most_data (b ∷ bytes) ++ t) (joined_past bytes (most_data - 1) ∙ sym (drop_before most_data b bytes (omega arith)))
    ∙ take-append-drop most_data (b ∷ bytes)

-- the pieces are the bytes, joined
pub pieces_joined : (bytes : List ℕ) → flat_map (λ p. p) (pieces bytes) ≡ bytes
pieces_joined bytes = joined_past bytes 0

abbrev pub IsShort : List ℕ → Type 0
IsShort piece = length piece ≤ most_data

take_short : (bytes : List ℕ) → length (take most_data bytes) ≤ most_data
take_short bytes = omega (arith, length-take most_data bytes)

short_past : (bytes : List ℕ) (n : ℕ) → AllByRecursion IsShort (pieces_past bytes n)
short_past [] n = tt
short_past (b ∷ bytes) (suc n) = short_past bytes n
short_past (b ∷ bytes) zero = (take_short (b ∷ bytes), short_past bytes (most_data - 1))

-- no piece is longer than a data record may be
pub pieces_short : (bytes : List ℕ) → AllByRecursion IsShort (pieces bytes)
pieces_short bytes = short_past bytes 0

-- ---- a turn of the cutting

-- bytes that one piece brings
pub whole_piece : (bytes : List ℕ) → length bytes ≤ most_data → take (length bytes) bytes ≡ take most_data bytes
whole_piece bytes few = take_all (length bytes) bytes (omega arith) ∙ sym (take_all most_data bytes few)

pub none_behind : (bytes : List ℕ) → length bytes ≤ most_data → drop (length bytes) bytes ≡ drop most_data bytes
none_behind bytes few = drop_all (length bytes) bytes (omega arith) ∙ sym (drop_all most_data bytes few)

taken_some : (n : ℕ) (bytes piece : List ℕ) → 0 < length piece → piece ≡ take n bytes → 0 < length bytes
taken_some n bytes piece some is =
    let same : length piece ≡ length (take n bytes) = ap length is in
    omega (arith, some, same, length-take n bytes)

-- a piece that was put down, and the records of what stands behind it
pub put_more : (s : ℕ) (out now bytes piece after : List ℕ) → 0 < length piece → piece ≡ take most_data bytes → after ≡ drop most_data bytes
    → now ≡ out ++ record_bytes (Data s piece) → now ++ flat_map record_bytes (data_records s after) ≡ out ++ flat_map record_bytes (data_records s bytes)
put_more s out now bytes piece after some first behind put =
    let rest : List ℕ = flat_map record_bytes (data_records s after) in
    ap (λ (b : List ℕ). b ++ rest) put ∙ append_assoc out (record_bytes (Data s piece)) rest
    ∙ ap (λ (p : List ℕ). out ++ (record_bytes (Data s p) ++ rest)) first
    ∙ ap (λ (r : List ℕ). out ++ (record_bytes (Data s (take most_data bytes)) ++ flat_map record_bytes (data_records s r))) behind
    ∙ ap (λ (ps : List (List ℕ)). out ++ flat_map record_bytes (map (Data s) ps)) (sym (pieces_more bytes (taken_some most_data bytes piece some first)))
