use Rattle.model_laws.proofs.LeastPathLaws.{rerouted-links, rerouted-still, rerouted-least, rerouted-none}
use Rattle.model_laws.proofs.state_laws.rerouted_circuits.Goals as goal

pub returns-clause-links_alone : goal.returns-clause-links_alone
returns-clause-links_alone c = rerouted-links

pub returns-clause-stays : goal.returns-clause-stays
returns-clause-stays c = rerouted-still

pub returns-clause-gets_the_least : goal.returns-clause-gets_the_least
returns-clause-gets_the_least c = rerouted-least

pub returns-clause-has_none : goal.returns-clause-has_none
returns-clause-has_none c = rerouted-none
