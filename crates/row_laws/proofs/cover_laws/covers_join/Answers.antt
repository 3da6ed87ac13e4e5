use Rattle.row_laws.proofs.Covers.{Covers-append}
use Rattle.row_laws.proofs.cover_laws.covers_join.Goals as goal

pub returns : goal.returns
returns c = Covers-append
