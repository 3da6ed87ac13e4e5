-- Graphs and their paths (docs/PROMISES.md, "Paths of a graph").
use Rattle.std.specs.Prelude.{◌≡◌, ◌≢◌, ℕ, ◌^◌, ◌<◌, ◌≤◌, ◌==◌, nat_lt, Bool, true, false, not, ◌&&◌, ◌||◌, cond, List, [], ◌∷◌, length, None, Some, option_and_then, slice_index, slice_index_or, find}
use Rattle.std.specs.declared.option.Option.{Option}
use Rattle.std.specs.List.{list_all, AllByRecursion}
use Rattle.path_certificate.specs.declared.graph.Step.{Step}
use Rattle.ctrl_model.specs.Walks.{Hops, goes, cost_along}
use Rattle.ctrl_model.specs.Claims.{reach_over}
use Rattle.ctrl_model.specs.Limits.{limit}
use Rattle.ctrl_model.specs.declared.kinds.Kind.TheVariants as kind

-- A graph: for each place whether it may be passed through, and the steps.
pub record GraphSeen : Type 0 where
  pub through : List Bool
  pub steps : List Step

-- The step leaves the place over the link.
abbrev pub leaves : ℕ → ℕ → Step → Bool
leaves v l s = (s.from == v) && (s.link == l)

-- A step counts for a target where it leads to the target or to a place that may be passed through.
abbrev pub counts : List Bool → ℕ → Step → Bool
counts through t s = (s.to == t) || slice_index_or through s.to false

-- Where a step leads and what it costs, if it counts.
abbrev pub taken : List Bool → ℕ → Step → Option (ℕ × ℕ)
taken through t s = cond (counts through t s) (Some (s.to, s.cost)) None

-- The rule of hops of a graph for a target: over a link from a place goes the counting step that has them. A path of the
-- graph is a walk of this rule (`goes`), so it visits no place twice.
abbrev pub graph_hops : GraphSeen → ℕ → Hops
graph_hops g t v l = option_and_then (taken g.through t) (find (leaves v l) g.steps)

-- Each step's ends are two different places, and it costs at least 1.
pub record IsStep (places : ℕ) (s : Step) : Type 0 where
  pub from : s.from < places
  pub to : s.to < places
  pub apart : s.from ≢ s.to
  pub cost : 1 ≤ s.cost
  pub small : s.cost < 2 ^ 32

-- One step stands before another: by the place it leaves, then by its link.
abbrev pub before : Step → Step → Bool
before s u = nat_lt s.from u.from || ((s.from == u.from) && nat_lt s.link u.link)

-- Each step stands before all that follow it, so no place has two steps over one link.
abbrev pub is_ordered : List Step → Bool
is_ordered [] = true
is_ordered (s ∷ ss) = list_all (before s) ss && is_ordered ss

-- What flags and steps must be to make a graph.
pub record IsGraph (through : List Bool) (steps : List Step) : Type 0 where
  pub few : length through ≤ limit kind.Router
  pub each : AllByRecursion (IsStep (length through)) steps
  pub ordered : is_ordered steps ≡ true

-- The potential of a place.
abbrev pub potential : List ℕ → ℕ → ℕ
potential p v = slice_index p v

-- A step improves a potential where it counts and its cost with the potential of its end is less than that of its start.
abbrev pub improves : List Bool → ℕ → List ℕ → Step → Bool
improves through t p s = counts through t s && nat_lt (reach_over s.cost (potential p s.to)) (potential p s.from)

-- No counting step improves a potential.
abbrev pub none_improves : GraphSeen → ℕ → List ℕ → Bool
none_improves g t p = list_all (λ s. not (improves g.through t p s)) g.steps

-- The links are a path of the graph from a place to the target.
abbrev pub IsPath : GraphSeen → ℕ → ℕ → List ℕ → Type 0
IsPath g target from path = goes (graph_hops g target) target (from ∷ []) from path ≡ true

-- What the links cost from a place.
abbrev pub cost_of : GraphSeen → ℕ → ℕ → List ℕ → ℕ
cost_of g target from path = cost_along (graph_hops g target) from path
