use Rattle.row_laws.proofs.RisingRows.{same_rows}
use Rattle.row_laws.proofs.difference_laws.same_answers.Goals as goal

pub returns : goal.returns
returns g c R xs ys o a = same_rows o a xs ys
