use Rattle.intercept_commands.proofs.RowLaws.{set_again}
use Rattle.intercept_commands.proofs.laws.the_same_intercept_again.Goals as goal

pub returns : goal.returns
returns c = λ low high xs service i b there. set_again high xs low service.0 i b there
