use Rattle.model_laws.proofs.NextNumbers.{answer-follows, answer-stays_free}
use Rattle.model_laws.proofs.state_laws.numbers_are_given_once.Goals as goal

pub returns-clause-given : goal.returns-clause-given
returns-clause-given c = answer-follows

pub returns-clause-stays_free : goal.returns-clause-stays_free
returns-clause-stays_free c = answer-stays_free
