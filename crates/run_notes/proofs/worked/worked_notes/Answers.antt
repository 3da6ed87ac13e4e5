use Rattle.std.proofs.Common.{refl}
use Rattle.std.specs.Fmt.{digits}
use Rattle.run_notes.proofs.worked.worked_notes.Goals as goal

pub returns-clause-cut : goal.returns-clause-cut
unfolding digits
returns-clause-cut c = refl

pub returns-clause-marker : goal.returns-clause-marker
unfolding digits
returns-clause-marker c = refl

pub returns-clause-body : goal.returns-clause-body
unfolding digits
returns-clause-body c = refl

pub returns-clause-headers : goal.returns-clause-headers
unfolding digits
returns-clause-headers c = refl

pub returns-clause-unread_behind : goal.returns-clause-unread_behind
unfolding digits
returns-clause-unread_behind c = refl

pub returns-clause-another_session : goal.returns-clause-another_session
unfolding digits
returns-clause-another_session c = refl

pub returns-clause-damaged : goal.returns-clause-damaged
unfolding digits
returns-clause-damaged c = refl
