use Rattle.std.proofs.Common.{ℕ, ◌<◌, List, ◌++◌, length}
use Rattle.ctrl_model.specs.Claims.{no_path}
use Rattle.path_certificate.specs.Graphs.{potential, graph_hops}
use Rattle.path_search.proofs.FirstChains.{FirstChain}
use Rattle.path_search.proofs.walking.first_links.Given as goal

-- the links so far and a first chain from the place that was reached are a first chain from the start
abbrev pub invariant-links : goal.invariant-links
invariant-links l = record {
  place : l.at < length l.graph.through;
  there : potential l.potentials l.at < no_path;
  told : (rest : List ℕ) → FirstChain (graph_hops l.graph l.target) l.potentials l.target l.at rest
      → FirstChain (graph_hops l.graph l.target) l.potentials l.target l.from (l.links.items ++ rest);
}

abbrev pub decreases-links : goal.decreases-links
decreases-links l = potential l.potentials l.at
