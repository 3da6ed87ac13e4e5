-- What certifies a path, and what the certificate is for (docs/PROMISES.md, "Paths of a graph").
use Rattle.std.specs.Prelude.{◌≡◌, ℕ, ◌<◌, ◌≤◌, true, List, length}
use Rattle.ctrl_model.specs.Claims.{no_path, is_tight}
use Rattle.path_certificate.specs.Graphs.{GraphSeen, graph_hops, potential, none_improves, IsPath, cost_of}

-- The potentials certify the path: there is one for each place, the target's is 0, no counting step improves one, and the
-- path is a chain of tight counting steps from its place to the target.
pub record Certified (g : GraphSeen) (target : ℕ) (p : List ℕ) (from : ℕ) (path : List ℕ) : Type 0 where
  pub places : length p ≡ length g.through
  pub target_is_place : target < length g.through
  pub from_is_place : from < length g.through
  pub zero_at_target : potential p target ≡ 0
  pub settled : none_improves g target p ≡ true
  pub chain : is_tight (graph_hops g target) (potential p) target from path ≡ true

-- The path is a path of the graph and costs its first place's potential.
pub record IsLeastPath (g : GraphSeen) (target : ℕ) (p : List ℕ) (from : ℕ) (path : List ℕ) : Type 0 where
  pub path_is : IsPath g target from path
  pub cost_is : cost_of g target from path ≡ potential p from

-- No path from a place costs less than its potential, and where the potential is `no_path` there is no path.
pub record IsLower (g : GraphSeen) (target : ℕ) (p : List ℕ) (v : ℕ) : Type 0 where
  pub below : (links : List ℕ) → IsPath g target v links → potential p v ≤ cost_of g target v links
  pub none : potential p v ≡ no_path → (links : List ℕ) → IsPath g target v links → ⊥

-- That holds of each place.
abbrev pub AreLeast : GraphSeen → ℕ → List ℕ → Type 0
AreLeast g target p = (v : ℕ) → v < length g.through → IsLower g target p v
