use Rattle.std.proofs.Common.{ap, leb, get_or}
use Rattle.bit_lanes.proofs.sweeps.ColumnsPlaceTest.passes_at.Goals as goal

pub returns : goal.returns
returns c = ap (leb (get_or c.args.self.now.left.now c.args.place 0)) c.saturating_add.ensures
