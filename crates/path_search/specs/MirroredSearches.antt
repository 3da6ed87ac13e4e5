-- When what a search finds in a graph holds of a network (docs/PROMISES.md, "Paths of a graph").
use Rattle.std.specs.Prelude.{ℕ, ◌<◌, List, length}
use Rattle.ctrl_model.specs.Mirrors.{Mirrors}
use Rattle.ctrl_model.specs.Networks.{Network, hops}
use Rattle.path_certificate.specs.Graphs.{GraphSeen, graph_hops}
use Rattle.path_search.specs.Searches.{IsLeast}

-- The hops of a network to a router mirror those of a graph to a place, under other names of the places, and the least costs of paths
-- to the place are known.
pub record IsSearched (w : Network) (g : GraphSeen) (rename : ℕ → ℕ) (target : ℕ) (p : List ℕ) : Type 0 where
  pub mirrors : Mirrors (length g.through) rename (graph_hops g target) (hops w (rename target))
  pub target_is_place : target < length g.through
  pub least : IsLeast g target p
