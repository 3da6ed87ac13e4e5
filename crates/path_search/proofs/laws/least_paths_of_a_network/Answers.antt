use Rattle.path_search.proofs.NetworkPaths.{first_is_least, first_of_network, none_of_network}
use Rattle.path_search.proofs.laws.least_paths_of_a_network.Goals as goal

pub returns-clause-is_least : goal.returns-clause-is_least
returns-clause-is_least c = first_is_least

pub returns-clause-first : goal.returns-clause-first
returns-clause-first c = first_of_network

pub returns-clause-none : goal.returns-clause-none
returns-clause-none c = none_of_network
