use Rattle.frame_lines.proofs.DecodeLaws.{stands_start}
use Rattle.frame_lines.proofs.decoding.LineTelling.new.Goals as goal

pub returns : goal.returns
returns g c = stands_start g.K.LineKind.reading c.in_order.ensures c.new.result.items c.new.ensures.items
