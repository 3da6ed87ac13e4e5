use Rattle.std.proofs.Common.{rules}
use Rattle.route_choice.proofs.precedences.exits_at.Goals as goal

pub returns : goal.returns
returns c = search rules
