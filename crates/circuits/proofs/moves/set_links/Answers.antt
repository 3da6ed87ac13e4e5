use Rattle.std.proofs.Common.{sym}
use Rattle.circuits.proofs.MoveLaws.{edited_absent}
use Rattle.circuits.proofs.moves.set_links.Goals as goal

pub returns-else-is_some : goal.returns-else-is_some
returns-else-is_some c = edited_absent (λ d. record d { links = c.args.links }) c.args.granted.now c.args.number _ c.get.ensures (sym c.if-is_some.ensures)
