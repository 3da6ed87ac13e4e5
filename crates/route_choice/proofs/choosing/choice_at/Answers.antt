use Rattle.std.proofs.Common.{rules}
use Rattle.route_choice.proofs.choosing.choice_at.Goals as goal

pub returns : goal.returns
returns c = search rules
