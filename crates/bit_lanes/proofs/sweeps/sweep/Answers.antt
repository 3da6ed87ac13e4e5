use Rattle.bit_lanes.proofs.BitLemmas.{Sweeps-words}
use Rattle.bit_lanes.proofs.sweeps.sweep.Goals as goal

pub returns : goal.returns
returns c =
    Sweeps-words c.args.left.now c.args.cost.now c.args.right.now c.each_passes.result c.requires.cost c.requires.right
    c.each_passes.ensures.all c.each_passes.ensures.some
