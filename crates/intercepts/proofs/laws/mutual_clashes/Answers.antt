use Rattle.intercepts.proofs.ClashLaws.{clashes-back}
use Rattle.intercepts.proofs.laws.mutual_clashes.Goals as goal

pub returns : goal.returns
returns c = clashes-back
