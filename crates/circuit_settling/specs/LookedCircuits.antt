-- Which circuits are looked at after a change (docs/RULES.md, "Settling").
use Rattle.std.specs.Prelude.{ℕ, ◌==◌, nat_lt, Bool, true, false, not, ◌||◌, List, length, filter}
use Rattle.std.specs.Option.{option_map_or}
use Rattle.ctrl_model.specs.Numbered.{at}
use Rattle.ctrl_model.specs.State.{Terminator, Circuit}
use Rattle.ctrl_model.specs.Walks.{is_among}
use Rattle.grant_denorm.specs.PairCounts.{count_of}
use Rattle.circuit_settling.specs.OtherLinks.{going_after}
use Rattle.circuit_settling.specs.declared.emptying.Pairs.{Pairs}
use Rattle.circuit_settling.specs.declared.looking.Look.{Look}
use Rattle.circuit_settling.specs.declared.looking.Look.TheVariants.{Paths, These, All}

-- Whether the host of a terminator needs one of some pairs to serve: Bind on its service, or what shares its router.
abbrev pub host_needs : Pairs → Terminator → ℕ → Bool
host_needs g e h =
    nat_lt 0 (count_of g.bind h e.service) || (nat_lt 0 (count_of g.identity_router h e.router) || nat_lt 0 (count_of g.service_router e.service e.router))

-- The same of the host that a terminator has, if it has one.
abbrev pub term_needs : Pairs → Terminator → Bool
term_needs g e = option_map_or (host_needs g e) e.host false

-- Whether a circuit needs one of some pairs: Dial on its service, what shares its ingress, or what the host of its terminator needs.
abbrev pub needs : Pairs → List (ℕ × Terminator) → Circuit → Bool
needs g terms c =
    nat_lt 0 (count_of g.dial c.identity c.service)
    || (nat_lt 0 (count_of g.identity_router c.identity c.ingress)
    || (nat_lt 0 (count_of g.service_router c.service c.ingress) || option_map_or (term_needs g) (at terms c.terminator) false))

-- Whether the circuit at a number is looked at: it needs one of some pairs, or its path is taken.
abbrev pub is_looked_at : List (ℕ × Circuit) → List (ℕ × Terminator) → Pairs → List ℕ → ℕ → Bool
is_looked_at circuits terms g pathless n = option_map_or (needs g terms) (at circuits n) false || is_among n pathless

-- The numbers of the circuits that do not stay as they are, of those that are looked at.
abbrev pub going_by : Look → List ℕ → List ℕ → (ℕ → Bool) → (ℕ → Bool) → List ℕ
going_by Paths pathless all granted keeps = going_after true pathless all granted keeps
going_by (These ns) pathless all granted keeps = filter (λ n. not (keeps n)) ns
going_by All pathless all granted keeps = going_after false pathless all granted keeps

-- Whether none is looked at.
abbrev pub goes_none : List ℕ → Look → Bool
goes_none pathless Paths = length pathless == 0
goes_none pathless (These ns) = length ns == 0
goes_none pathless All = false
