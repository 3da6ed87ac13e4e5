use Rattle.std.proofs.Common.{◌≡◌, replicate}
use Rattle.ctrl_model.specs.declared.kinds.Who.TheVariants.{Admin}
use Rattle.run_notes.proofs.sessions.admins.Given as goal

-- as many as were counted
abbrev pub invariant-numbers : goal.invariant-numbers
invariant-numbers l = l.senders.items ≡ replicate l._number Admin
