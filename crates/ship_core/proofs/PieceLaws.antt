-- The frames of batches, one behind another.
use Rattle.std.proofs.Common.{◌≡◌, ℕ, ◌+◌, Bool, true, false, cond, List, [], ◌∷◌, ◌++◌, length, filter, sym, ap, arith}
use Rattle.ship_frames.specs.declared.shipments.Shipment.{Shipment}
use Rattle.ship_frames.specs.Pieces.{piece_count, frames_of, frames_of_all}
use Rattle.ship_frames.proofs.PieceLaws.{frames_count}
use Rattle.ship_core.specs.Shipping.{is_from}
use Rattle.ship_core.specs.Steps.{frames_if}

-- Behind a batch the frames of those go on that are shipped from a serial on.
pub frames_go_on : (from place : ℕ) (s : Shipment) (more : List Shipment)
    → frames_of_all place (filter (is_from from) (s ∷ more)) ≡ frames_if from place s ++ frames_of_all (place + length (frames_if from place s)) (filter (is_from from) more)
frames_go_on from place s more = by (is_from from s)
  where
    by : (b : Bool) → frames_of_all place (cond b (s ∷ filter (is_from from) more) (filter (is_from from) more))
        ≡ cond b (frames_of place s) [] ++ frames_of_all (place + length (cond b (frames_of place s) [])) (filter (is_from from) more)
    by true = ap (λ (n : ℕ). frames_of place s ++ frames_of_all (place + n) (filter (is_from from) more)) (sym (frames_count place s 0 (piece_count s.bytes)))
    by false = let same : place ≡ place + 0 = omega arith in ap (λ (n : ℕ). frames_of_all n (filter (is_from from) more)) same
