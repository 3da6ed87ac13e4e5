-- What the private functions of the search keep. No public contract cites it.
use Rattle.std.specs.Prelude.{◌≡◌, sum, ℕ, ◌+◌, ◌<◌, ◌≤◌, ◌==◌, ◌&&◌, ◌⊎◌, nat_lt, Bool, true, List, length, map, Some}
use Rattle.path_certificate.specs.declared.graph.Step.{Step}
use Rattle.std.specs.List.{All, Contains, slice_set}
use Rattle.ctrl_model.specs.Membership.{Among}
use Rattle.ctrl_model.specs.Claims.{no_path, reach_over}
use Rattle.path_certificate.specs.Graphs.{GraphSeen, counts, graph_hops, potential}

-- A place's potential is at least what some hop from it gives.
pub record Paid (g : GraphSeen) (target : ℕ) (p : List ℕ) (v : ℕ) : Type 0 where
  pub link : ℕ
  pub hop : ℕ × ℕ
  pub is : graph_hops g target v link ≡ Some hop
  pub enough : hop.1 + potential p hop.0 ≤ potential p v

-- There is one potential for each place, the target's is 0, and each other that is there is paid for by a hop.
pub record Supported (g : GraphSeen) (target : ℕ) (p : List ℕ) : Type 0 where
  pub places : length p ≡ length g.through
  pub within : (v : ℕ) → potential p v ≤ no_path
  pub zero_at_target : potential p target ≡ 0
  pub paid : (v : ℕ) → v < length g.through → potential p v < no_path → (v ≡ target) ⊎ Paid g target p v

-- What the start of a step reaches over it.
abbrev pub reached : List ℕ → Step → ℕ
reached p s = reach_over s.cost (potential p s.to)

-- The potentials after the start of a step was lowered to what it reaches.
abbrev pub lowered : List ℕ → Step → List ℕ
lowered p s = slice_set p s.from (reached p s)

-- What relaxing the steps into a place makes of the potentials: none rises, that of the place is the same, and no counting step into
-- the place improves one any more.
pub record Relaxed (g : GraphSeen) (target v : ℕ) (before p : List ℕ) : Type 0 where
  pub supported : Supported g target p
  pub falls : (u : ℕ) → potential p u ≤ potential before u
  pub stays : potential p v ≡ potential before v
  pub settled : (s : Step) → Among s g.steps → s.to ≡ v → counts g.through target s ≡ true → potential p s.from ≤ reached p s

-- No potential is less than the fixed one.
abbrev pub AllFixed : List ℕ → List ℕ → Type 0
AllFixed p fixed = (v : ℕ) → v < length p → potential fixed v ≤ potential p v

-- Potentials in a search, and those that are fixed: each place's is at most its fixed one, and no counting step improves one by the
-- fixed potential of its end. A place whose steps were not yet relaxed has `no_path` for its fixed one.
pub record Spread (g : GraphSeen) (target : ℕ) (p fixed : List ℕ) : Type 0 where
  pub supported : Supported g target p
  pub places : length fixed ≡ length g.through
  pub above : (v : ℕ) → v < length g.through → potential p v ≤ potential fixed v
  pub settled : (s : Step) → Among s g.steps → counts g.through target s ≡ true → potential p s.from ≤ reached fixed s

-- The places of what waits, which are pairs of potential and place.
abbrev pub places_of : List (ℕ × ℕ) → List ℕ
places_of waiting = map (λ e. e.1) waiting

-- Each place whose potential is less than the fixed one waits, and nothing but places does.
pub record IsWaiting (p fixed waiting : List ℕ) : Type 0 where
  pub each : (v : ℕ) → v < length p → potential p v < potential fixed v → Contains waiting v
  pub places : All (λ v. v < length p) waiting

-- What waits after some potentials fell: what did before, each place whose potential fell, and nothing but places. For each place
-- that waits more the potentials have fallen by at least 1.
pub record Grown (before p old new : List ℕ) : Type 0 where
  pub kept : (v : ℕ) → Contains old v → Contains new v
  pub fell : (v : ℕ) → potential p v < potential before v → Contains new v
  pub places : All (λ v. v < length before) old → All (λ v. v < length before) new
  pub fewer : length new + sum p ≤ length old + sum before

-- The step leaves the place, counts, and falls from the place's potential, which is not `no_path`, by exactly its cost.
abbrev pub falls_from : List Bool → ℕ → List ℕ → ℕ → Step → Bool
falls_from through t p v s =
    (s.from == v) && counts through t s && (potential p s.from == s.cost + potential p s.to) && nat_lt (potential p s.from) no_path
