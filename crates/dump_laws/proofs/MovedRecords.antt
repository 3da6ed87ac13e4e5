-- Records that stand on others, as they stand on these where all are numbered anew.
use Rattle.std.proofs.Common.{ℕ, ◌+◌, List, [], ◌∷◌}
use Rattle.std.specs.Option.{option_map, option_map_or}
use Rattle.ctrl_model.specs.declared.intercepts.Intercept.{Intercept}
use Rattle.ctrl_model.specs.State.{State, Link, Terminator}
use Rattle.dump_laws.proofs.RenumberedRows.{place}

-- a link between the new numbers of its routers
abbrev pub moved_link : State → Link → Link
moved_link s l = record l { a = place 1 s.routers.rows l.a; b = place 1 s.routers.rows l.b }

-- a terminator of the new number of its service, at that of its router, with that of its host
abbrev pub moved_terminator : State → Terminator → Terminator
moved_terminator s e = record e {
  service = place 1 s.services.rows e.service;
  router = place 1 s.routers.rows e.router;
  host = option_map (place 1 s.identities.rows) e.host;
}

-- the number behind as many terminators as have a host, from a number on
abbrev pub hosted : ℕ → List (ℕ × Terminator) → ℕ
hosted n [] = n
hosted n (x ∷ xs) = hosted (option_map_or (λ h. n + 1) x.1.host n) xs

-- an intercept under the new number of its service
abbrev pub moved_intercept : State → ℕ × Intercept → ℕ × Intercept
moved_intercept s x = (place 1 s.services.rows x.0, x.1)
