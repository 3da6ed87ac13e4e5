use Rattle.std.specs.Prelude.{◌≡◌, nat_lt, false}
use Rattle.std.specs.List.{list_any, range_with_len}
use Rattle.session_mux.specs.Completion.{end_of}
use Rattle.run_notes.specs.Inputs.{rest_at}
use Rattle.run_notes.proofs.telling.has_session_rest.Given as goal

-- none of the numbers before has a rest
abbrev pub invariant-numbers : goal.invariant-numbers
invariant-numbers l = list_any (λ s. nat_lt 0 (rest_at (end_of l.mux) l.sessions.closed s)) (range_with_len 0 l.number) ≡ false
