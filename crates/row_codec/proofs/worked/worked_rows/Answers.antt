use Rattle.std.proofs.Common.{◌==◌, refl, ap}
use Rattle.std.proofs.lemmas.Bool.{false≢true}
use Rattle.row_codec.proofs.worked.worked_rows.Goals as goal

pub returns-clause-has_rows : goal.returns-clause-has_rows
returns-clause-has_rows c = (refl, refl)

pub returns-clause-serial : goal.returns-clause-serial
returns-clause-serial c = λ has. false≢true (ap (λ n. n == 0) has.1)

pub returns-clause-every : goal.returns-clause-every
returns-clause-every c = tt
