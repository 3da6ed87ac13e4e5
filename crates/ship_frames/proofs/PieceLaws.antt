-- The frames of the pieces of a batch, in parts.
use Rattle.std.proofs.Common.{◌≡◌, ℕ, zero, suc, ◌+◌, ◌*◌, ◌/◌, ◌%◌, ◌^◌, ◌<◌, ◌≤◌, take, drop, Bool, true, false, cond, List, [], ◌∷◌, ◌++◌, length, filter, refl, sym, ap, ◌∙◌, arith}
use Rattle.std.specs.List.{flat_map}
use Rattle.std.proofs.Math.Seq.{take-nil}
use Rattle.std.proofs.lemmas.List.{drop-drop, take_all, length-take, length-drop}
use Rattle.channel_frame.specs.declared.frames.Frame.{Frame}
use Rattle.ship_frames.specs.declared.shipments.Shipment.{Shipment}
use Rattle.ship_frames.specs.Pieces.{piece_size, piece_count, piece_at, piece_frame, frames_from, frames_of, frames_of_all}

-- The frames of some pieces, and of those behind them.
pub frames_split : (place : ℕ) (s : Shipment) (number these those total : ℕ) → total ≡ these + those
    → frames_from place s number total ≡ frames_from place s number these ++ frames_from (place + these) s (number + these) those
frames_split place s number zero those total e =
    let count : total ≡ those = omega (arith, e) in
    let same : place + 0 ≡ place = omega arith in
    let first : number + 0 ≡ number = omega arith in
    ap (frames_from place s number) count ∙ ap (λ (p : ℕ). frames_from p s number those) (sym same) ∙ ap (λ (n : ℕ). frames_from (place + 0) s n those) (sym first)
frames_split place s number (suc these) those zero e = absurd (omega (arith, e))
frames_split place s number (suc these) those (suc total) e =
    let behind : place + 1 + these ≡ place + suc these = omega arith in
    let next : number + 1 + these ≡ number + suc these = omega arith in
    ap (λ (l : List Frame). piece_frame place s number ∷ l)
    (frames_split (place + 1) s (number + 1) these those total (omega (arith, e))
    ∙ ap (λ (p : ℕ). frames_from (place + 1) s (number + 1) these ++ frames_from p s (number + 1 + these) those) behind
    ∙ ap (λ (n : ℕ). frames_from (place + 1) s (number + 1) these ++ frames_from (place + suc these) s n those) next)

-- One piece more.
pub frames_push : (place : ℕ) (s : Shipment) (number : ℕ) → frames_from place s 0 (number + 1) ≡ frames_from place s 0 number ++ piece_frame (place + number) s number ∷ []
frames_push place s number =
    let same : 0 + number ≡ number = omega arith in
    frames_split place s 0 number 1 (number + 1) refl ∙ ap (λ (n : ℕ). frames_from place s 0 number ++ piece_frame (place + number) s n ∷ []) same

-- As many frames as pieces.
pub frames_count : (place : ℕ) (s : Shipment) (number count : ℕ) → length (frames_from place s number count) ≡ count
frames_count place s number zero = refl
frames_count place s number (suc count) = ap suc (frames_count (place + 1) s (number + 1) count)

-- The sequence of the next place.
pub next_sequence : (place : ℕ) → (place % 2 ^ 32 + 1) % 2 ^ 32 ≡ (place + 1) % 2 ^ 32
next_sequence place = omega arith

-- ---- the bytes of pieces

-- A front, and a front of what is behind it.
pub split_take : (n m : ℕ) (xs : List ℕ) → take n xs ++ take m (drop n xs) ≡ take (n + m) xs
split_take zero m xs = ap (λ (k : ℕ). take k xs) (omega arith)
split_take (suc n) m [] = take-nil m ∙ sym (take-nil (suc n + m))
split_take (suc n) m (x ∷ xs) =
    let count : suc (n + m) ≡ suc n + m = omega arith in
    ap (λ (l : List ℕ). x ∷ l) (split_take n m xs) ∙ ap (λ (k : ℕ). take k (x ∷ xs)) count

-- The bodies of the frames of so many pieces are the bytes from the first of them on.
bodies_from : (place : ℕ) (s : Shipment) (number count : ℕ)
    → flat_map (λ (f : Frame). f.body) (frames_from place s number count) ≡ take (count * piece_size) (drop (number * piece_size) s.bytes)
bodies_from place s number zero = refl
bodies_from place s number (suc count) =
    let rest = drop (number * piece_size) s.bytes in
    let next : (number + 1) * piece_size ≡ number * piece_size + piece_size = omega arith in
    let whole : piece_size + count * piece_size ≡ suc count * piece_size = omega arith in
    ap (λ (l : List ℕ). take piece_size rest ++ l) (bodies_from (place + 1) s (number + 1) count)
    ∙ ap (λ (n : ℕ). take piece_size rest ++ take (count * piece_size) (drop n s.bytes)) next
    ∙ ap (λ (l : List ℕ). take piece_size rest ++ take (count * piece_size) l) (sym (drop-drop piece_size (number * piece_size) s.bytes))
    ∙ split_take piece_size (count * piece_size) rest
    ∙ ap (λ (n : ℕ). take n rest) whole

-- All of them are the bytes of the batch.
pub bodies : (place : ℕ) (s : Shipment) → flat_map (λ (f : Frame). f.body) (frames_of place s) ≡ s.bytes
bodies place s =
    bodies_from place s 0 (piece_count s.bytes) ∙ take_all (piece_count s.bytes * piece_size) s.bytes (omega arith)

-- How long a front of what is behind a place is.
pub most_take : (k : ℕ) (xs : List ℕ) → length (take k xs) ≤ k
most_take k xs = let long = length-take k xs in omega (arith, long)

some_take : (k m : ℕ) (xs : List ℕ) → 1 ≤ k → m + 1 ≤ length xs → 1 ≤ length (take k (drop m xs))
some_take k m xs one within =
    let long = length-take k (drop m xs) in
    let rest = length-drop m xs in
    omega (arith, long, rest, one, within)

full_take : (k m : ℕ) (xs : List ℕ) → m + k ≤ length xs → length (take k (drop m xs)) ≡ k
full_take k m xs within =
    let long = length-take k (drop m xs) in
    let rest = length-drop m xs in
    omega (arith, long, rest, within)

-- Where a piece begins and ends.
pub piece_begins : (number len : ℕ) → number < (len + 1048575) / 1048576 → number * 1048576 + 1 ≤ len
piece_begins number len within = omega (arith, within)

piece_ends : (number len : ℕ) → number + 1 < (len + 1048575) / 1048576 → number * 1048576 + 1048576 ≤ len
piece_ends number len within = omega (arith, within)

-- How long a piece is.
pub piece_len : (bytes : List ℕ) (number : ℕ) → number < piece_count bytes → 1 ≤ length (piece_at number bytes)
piece_len bytes number within = some_take piece_size (number * piece_size) bytes (omega arith) (piece_begins number (length bytes) within)

pub piece_most : (bytes : List ℕ) (number : ℕ) → length (piece_at number bytes) ≤ piece_size
piece_most bytes number = most_take piece_size (drop (number * piece_size) bytes)

-- But for the last one it has all bytes.
pub whole_len : (bytes : List ℕ) (number : ℕ) → number + 1 < piece_count bytes → length (piece_at number bytes) ≡ piece_size
whole_len bytes number within = full_take piece_size (number * piece_size) bytes (piece_ends number (length bytes) within)

-- A byte more than a piece may have makes two pieces.
pub two_pieces : (place : ℕ) (s : Shipment) → length s.bytes ≡ 1048577 → frames_of place s ≡ frames_from place s 0 2
two_pieces place s e =
    let count : piece_count s.bytes ≡ 2 = omega (arith, e) in
    ap (frames_from place s 0) count
