use Rattle.std.proofs.Common.{◌+◌, false, not}
use Rattle.bit_lanes.specs.Words.{has_all}
use Rattle.bit_lanes.proofs.LaneLemmas.{zipped, mapped, same_lanes, compared, mask_tells}
use Rattle.bit_lanes.proofs.all_bits.AllBitsPlaceTest.passes_from.Goals as goal

pub returns : goal.returns
returns c =
    let have = c.vector_at-have.ensures.vector in
    let want = c.vector_at-want.ensures.vector in
    mask_tells (has_all c.args.self.now.have.now c.args.self.now.want.now) c.args.place _
    (same_lanes false 8 _ _ _ (mapped _ 0 false 8 _ _ (zipped _ 0 0 0 8 _ _ _ _ (zipped _ 0 0 0 8 _ _ _ _ have want) want))
    (λ i p. compared (not (has_all c.args.self.now.have.now c.args.self.now.want.now (c.args.place + i)))))
