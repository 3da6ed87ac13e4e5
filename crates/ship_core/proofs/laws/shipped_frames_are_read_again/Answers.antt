use Rattle.ship_core.specs.Shipping.{shipped}
use Rattle.ship_core.proofs.FrameLimits.{shipped_fit, found_fit, read_again, read_alone}
use Rattle.ship_core.proofs.laws.shipped_frames_are_read_again.Goals as goal

pub returns : goal.returns
returns c = record {
  limits = shipped_fit;
  found = found_fit;
  reads = λ from format batches. read_again (shipped from format batches) (shipped_fit from format batches);
  only = read_alone;
}
