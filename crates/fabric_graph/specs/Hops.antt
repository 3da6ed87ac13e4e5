-- A hop over a link as the rules have it (docs/RULES.md, "Links and paths").
use Rattle.std.specs.Prelude.{ℕ}
use Rattle.fabric_graph.specs.declared.hopping.Hop.{Hop}

-- The number of the router that a hop leads to, and what the hop costs.
abbrev pub hop_of : Hop → ℕ × ℕ
hop_of h = (h.to.0, h.cost)
