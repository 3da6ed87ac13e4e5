use Rattle.fabric_graph.proofs.StateLaws.{keeps_links, have_graph, are_routers}
use Rattle.fabric_graph.proofs.state_laws.fabric_of_a_state.Goals as goal

pub returns-clause-links : goal.returns-clause-links
returns-clause-links c = keeps_links

pub returns-clause-graph : goal.returns-clause-graph
returns-clause-graph c = have_graph

pub returns-clause-routers : goal.returns-clause-routers
returns-clause-routers c = are_routers
