use Rattle.std.proofs.Common.{rules}
use Rattle.intercepts.proofs.hits.comes_before.Goals as goal

pub returns : goal.returns
returns c = search rules
