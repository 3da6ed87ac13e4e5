-- The pieces of a batch, said one by one.
use Rattle.std.proofs.Common.{◌≡◌, ℕ, ◌+◌, ◌-◌, ◌%◌, ◌^◌, ◌<◌, List, [], ◌∷◌, ◌++◌, None, Some, sym, ap, ◌∙◌, subst, arith}
use Rattle.ziti_outside.specs.Views.{Seen, Stopped}
use Rattle.channel_frame.specs.declared.frames.Frame.{Frame}
use Rattle.ship_frames.specs.declared.shipments.Shipment.{Shipment}
use Rattle.ship_frames.specs.Pieces.{piece_count, piece_frame, frames_from, frames_of}
use Rattle.ship_frames.proofs.PieceLaws.{frames_push, frames_split}
use Rattle.ship_core.specs.declared.faults.ShipFault.{ShipFault}
use Rattle.ship_core.specs.Steps.{ShipsFrames}
use Rattle.ship_core.proofs.SaidLaws.{ShipsFrames-then, ShipsFrames-wider}

-- One piece more was said.
pub one_more : {D : Type 0} {seen : D → Seen} {stopped : D → Stopped} {old mid new : D} (place : ℕ) (s : Shipment) (number : ℕ)
    → ShipsFrames seen stopped old mid None (frames_from place s 0 number) → ShipsFrames seen stopped mid new None (piece_frame (place + number) s number ∷ [])
    → ShipsFrames seen stopped old new None (frames_from place s 0 (number + 1))
one_more {seen = seen} {stopped = stopped} {old = old} {new = new} place s number before next =
    subst (λ (l : List Frame). ShipsFrames seen stopped old new None l) (sym (frames_push place s number)) (ShipsFrames-then None before next)

-- A piece was not said whole.
pub one_fails : {D : Type 0} {seen : D → Seen} {stopped : D → Stopped} {old mid new : D} (place : ℕ) (s : Shipment) (number : ℕ) (fault : ShipFault) → number < piece_count s.bytes
    → ShipsFrames seen stopped old mid None (frames_from place s 0 number) → ShipsFrames seen stopped mid new (Some fault) (piece_frame (place + number) s number ∷ [])
    → ShipsFrames seen stopped old new (Some fault) (frames_of place s)
one_fails place s number fault within before next =
    let count = piece_count s.bytes in
    let whole : count ≡ number + 1 + (count - (number + 1)) = omega (arith, within) in
    let split = frames_split place s 0 (number + 1) (count - (number + 1)) count whole in
    let first : (frames_from place s 0 number ++ piece_frame (place + number) s number ∷ []) ++ frames_from (place + (number + 1)) s (0 + (number + 1)) (count - (number + 1)) ≡ frames_of place s =
    ap (λ (l : List Frame). l ++ frames_from (place + (number + 1)) s (0 + (number + 1)) (count - (number + 1))) (sym (frames_push place s number)) ∙ sym split in
    ShipsFrames-wider (Some fault) (frames_from place s 0 number ++ piece_frame (place + number) s number ∷ []) (frames_of place s)
    (frames_from (place + (number + 1)) s (0 + (number + 1)) (count - (number + 1)), first)
    (ShipsFrames-then (Some fault) before next)

-- The sequence of the next piece.
pub next_piece : (place number sequence : ℕ) → sequence ≡ (place + number) % 2 ^ 32 → (sequence + 1) % 2 ^ 32 ≡ (place + (number + 1)) % 2 ^ 32
next_piece place number sequence e = omega (arith, e)
