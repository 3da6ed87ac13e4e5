use Rattle.row_laws.proofs.TouchedKeys.{Covers-intercepts, Covers-serial}
use Rattle.row_laws.proofs.touched_keys.intercepts_and_the_serial_are_covered.Goals as goal

pub returns-clause-intercepts : goal.returns-clause-intercepts
returns-clause-intercepts c = Covers-intercepts

pub returns-clause-serial : goal.returns-clause-serial
returns-clause-serial c = Covers-serial
