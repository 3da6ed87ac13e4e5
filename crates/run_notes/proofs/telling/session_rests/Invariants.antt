use Rattle.std.specs.Prelude.{◌≡◌}
use Rattle.std.specs.List.{flat_map, range_with_len}
use Rattle.std.specs.String.{string_bytes}
use Rattle.session_mux.specs.Completion.{end_of}
use Rattle.run_notes.specs.Inputs.{rest_at}
use Rattle.run_notes.specs.Notes.{session_rest_lines}
use Rattle.run_notes.proofs.telling.session_rests.Given as goal

-- the lines of the numbers before
abbrev pub invariant-numbers : goal.invariant-numbers
invariant-numbers l = string_bytes l.lines ≡ flat_map (λ s. session_rest_lines s (rest_at (end_of l.mux) l.sessions.closed s)) (range_with_len 0 l.number)
