use Rattle.std.proofs.Common.{◌≡◌, ℕ, ◌+◌, ◌%◌, ◌^◌, None}
use Rattle.ship_frames.specs.Pieces.{frames_from}
use Rattle.ship_core.specs.Steps.{ShipsFrames}
use Rattle.ship_core.proofs.saying.say_pieces.Given as goal

-- the pieces before this one were said, and the sequence is that of its place
abbrev pub invariant-pieces : goal.invariant-pieces
invariant-pieces g l = record {
  ships : (place : ℕ) → l.first ≡ place % 2 ^ 32 → ShipsFrames g.D.Desk.seen g.D.Desk.stopped l.fn.desk l.desk None (frames_from place l.shipment 0 l.number);
  sequence : (place : ℕ) → l.first ≡ place % 2 ^ 32 → l.sequence ≡ (place + l.number) % 2 ^ 32;
}
