use Rattle.std.proofs.Common.{◌≡◌, length, take, map}
use Rattle.session_mux.specs.Completion.{stage_of}
use Rattle.session_mux.proofs.tables.fill_stages.Given as goal

-- each number before this one has its stage
abbrev pub invariant-numbers : goal.invariant-numbers
invariant-numbers l = record { filled : take l.number l.stages ≡ map stage_of (take l.number l.sessions); numbers : length l.stages ≡ length l.sessions }
