use Rattle.row_laws.proofs.NarrowedLaws.{rows_narrowed}
use Rattle.row_laws.proofs.state_rows.narrowed_rows.Goals as goal

pub returns : goal.returns
returns c = λ s v has. rows_narrowed s has
