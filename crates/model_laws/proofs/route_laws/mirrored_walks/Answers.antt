use Rattle.model_laws.proofs.MirrorLaws.{same_goes, same_cost}
use Rattle.model_laws.proofs.route_laws.mirrored_walks.Goals as goal

pub returns-clause-same_walks : goal.returns-clause-same_walks
returns-clause-same_walks c = λ places rename a b t v seen links m q p below. same_goes places rename a b t m q links seen v below p

pub returns-clause-same_costs : goal.returns-clause-same_costs
returns-clause-same_costs c = λ places rename a b v links m p. same_cost places rename a b m links v p
