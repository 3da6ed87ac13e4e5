use Rattle.std.proofs.Common.{◌≡◌, ◌<◌, length, drop}
use Rattle.ctrl_model.specs.Claims.{is_tight}
use Rattle.path_certificate.specs.Graphs.{graph_hops, potential}
use Rattle.path_certificate.proofs.checking.is_chain.Given as goal

-- the links that are left are a chain from the place that was reached exactly if all are one from the start
abbrev pub invariant-links : goal.invariant-links
invariant-links l = record {
  place : l.at < length l.graph.through;
  told : is_tight (graph_hops l.graph l.target) (potential l.potentials) l.target l.at (drop l.link-index l.path)
      ≡ is_tight (graph_hops l.graph l.target) (potential l.potentials) l.target l.from l.path;
}
