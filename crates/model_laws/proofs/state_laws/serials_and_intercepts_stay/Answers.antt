use Rattle.model_laws.proofs.CountedLaws.{answer-serial, answer-no_intercepts}
use Rattle.model_laws.proofs.state_laws.serials_and_intercepts_stay.Goals as goal

pub returns-clause-serial : goal.returns-clause-serial
returns-clause-serial c = answer-serial

pub returns-clause-intercepts : goal.returns-clause-intercepts
returns-clause-intercepts c = answer-no_intercepts
