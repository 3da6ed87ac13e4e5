use Rattle.std.proofs.Common.{rules}
use Rattle.intercepts.proofs.hits.place_of.Goals as goal

pub returns : goal.returns
returns c = search rules
