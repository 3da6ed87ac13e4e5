use Rattle.bit_lanes.proofs.BitLemmas.{AllIn-words}
use Rattle.bit_lanes.proofs.all_bits.all_in.Goals as goal

pub returns : goal.returns
returns c =
    AllIn-words c.args.have.now c.args.want.now c.each_passes.result c.requires (λ k. (c.type_inv.want k).fits)
    c.each_passes.ensures.all c.each_passes.ensures.some
