use Rattle.std.proofs.Common.{◌≡◌, replicate}
use Rattle.session_mux.specs.declared.sessions.Session.TheVariants.{Unopened}
use Rattle.session_mux.proofs.tables.unopened_sessions.Given as goal

-- as many as were counted
abbrev pub invariant-numbers : goal.invariant-numbers
invariant-numbers l = l.all.items ≡ replicate l._number Unopened
