-- What a search for least paths finds, said of all paths of the graph (docs/PROMISES.md, "Paths of a graph").
use Rattle.std.specs.Prelude.{◌≡◌, ℕ, ◌-◌, ◌*◌, ◌<◌, ◌≤◌, max, List, [], ◌∷◌, length, false}
use Rattle.std.specs.Cmp.Lexicographic.{slice_cmp}
use Rattle.std.specs.Ordering.{nat_cmp, is_lt}
use Rattle.path_certificate.specs.declared.graph.Step.{Step}
use Rattle.ctrl_model.specs.Claims.{no_path}
use Rattle.path_certificate.specs.Graphs.{GraphSeen, potential, IsPath, cost_of}

-- A place's potential is the least cost of a path: it is `no_path` where there is no path; else some path costs it, and none
-- costs less.
pub record IsLeastAt (g : GraphSeen) (target : ℕ) (p : List ℕ) (v : ℕ) : Type 0 where
  pub within : potential p v ≤ no_path
  pub none : potential p v ≡ no_path → (links : List ℕ) → IsPath g target v links → ⊥
  pub some : potential p v < no_path → (links : List ℕ) × IsPath g target v links × (cost_of g target v links ≡ potential p v)
  pub below : (links : List ℕ) → IsPath g target v links → potential p v ≤ cost_of g target v links

-- There is one potential for each place, and each is the least cost of a path.
pub record IsLeast (g : GraphSeen) (target : ℕ) (p : List ℕ) : Type 0 where
  pub places : length p ≡ length g.through
  pub each : (v : ℕ) → v < length g.through → IsLeastAt g target p v

-- The greatest cost of a step.
abbrev pub greatest_cost : List Step → ℕ
greatest_cost [] = 0
greatest_cost (s ∷ ss) = max s.cost (greatest_cost ss)

-- Each potential that is there is at most what one step less than there are places can cost.
abbrev pub AreFew : GraphSeen → List ℕ → Type 0
AreFew g p =
    (v : ℕ) → v < length g.through → potential p v < no_path → potential p v ≤ (length g.through - 1) * greatest_cost g.steps

-- The links are a path of the potential's cost, and no other path of that cost comes before it in lexicographic order.
pub record IsFirst (g : GraphSeen) (target : ℕ) (p : List ℕ) (from : ℕ) (links : List ℕ) : Type 0 where
  pub path_is : IsPath g target from links
  pub cost_is : cost_of g target from links ≡ potential p from
  pub first : (other : List ℕ) → IsPath g target from other → cost_of g target from other ≡ potential p from
      → is_lt (slice_cmp nat_cmp other links) ≡ false
