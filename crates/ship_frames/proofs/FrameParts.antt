-- The frame of a piece, made of its parts.
use Rattle.std.proofs.Common.{◌≡◌, ℕ, ◌%◌, ◌^◌, ◌≤◌, List, [], ◌∷◌, length, sym, ap, ◌∙◌, subst, arith}
use Rattle.std.specs.Int.{w32, w64, to_le_bytes}
use Rattle.channel_frame.specs.declared.frames.Frame.{Frame}
use Rattle.channel_frame.specs.declared.frames.Header.{Header}
use Rattle.channel_frame.specs.FrameSpelling.{headers_spelling, longest_headers, longest_body, KeepsLimits}
use Rattle.ship_frames.specs.declared.shipments.Shipment.{Shipment}
use Rattle.ship_frames.specs.Pieces.{type_of, piece_count, piece_at, piece_headers, piece_frame}
use Rattle.ship_frames.proofs.PieceLaws.{piece_most}

-- Three headers with these values.
abbrev pub three_headers : (serial number count : ℕ) → List Header
three_headers serial number count =
    record { key = 1000; value = to_le_bytes w64 serial } ∷ record { key = 1001; value = to_le_bytes w32 number } ∷ record { key = 1002; value = to_le_bytes w32 count } ∷ []

-- What was made of the parts of a piece is its frame.
pub frame_is : (place content sequence : ℕ) (s : Shipment) (number count : ℕ) (headers : List Header) (body bytes : List ℕ) → content ≡ type_of s.sort → sequence ≡ place % 2 ^ 32
    → bytes ≡ s.bytes → count ≡ piece_count bytes → body ≡ piece_at number bytes → headers ≡ three_headers s.serial number count
    → ◌≡◌ {A = Frame} (record { content = content; sequence = sequence; headers = headers; body = body }) (piece_frame place s number)
frame_is place content sequence s number count headers body bytes sort at own many piece made =
    ap (λ (n : ℕ). record { content = n; sequence = sequence; headers = headers; body = body }) sort
    ∙ ap (λ (n : ℕ). record { content = type_of s.sort; sequence = n; headers = headers; body = body }) at
    ∙ ap (λ (h : List Header). record { content = type_of s.sort; sequence = place % 2 ^ 32; headers = h; body = body })
    (made ∙ ap (three_headers s.serial number) (many ∙ ap piece_count own))
    ∙ ap (λ (b : List ℕ). record { content = type_of s.sort; sequence = place % 2 ^ 32; headers = piece_headers s number; body = b }) (piece ∙ ap (piece_at number) own)

-- It keeps the limits of frames.
pub frame_keeps : (content sequence serial number count : ℕ) (headers : List Header) (body bytes : List ℕ) → body ≡ piece_at number bytes → headers ≡ three_headers serial number count
    → KeepsLimits (record { content = content; sequence = sequence; headers = headers; body = body })
frame_keeps content sequence serial number count headers body bytes piece made = record {
  headers_len = subst (λ (h : List Header). length (headers_spelling h) ≤ longest_headers) (sym made) (three_len serial number count);
  body_len = subst (λ (b : List ℕ). length b ≤ longest_body) (sym piece) (piece_most bytes number);
}
  where
    three_len : (a b c : ℕ) → length (headers_spelling (three_headers a b c)) ≤ longest_headers
    three_len a b c = omega arith
