use Rattle.std.proofs.Common.{◌≡◌, drop}
use Rattle.ctrl_model.specs.Choices.{first_denial}
use Rattle.route_choice.proofs.denying.first_denial.Given as goal

-- none of the rules before the index fails
abbrev pub invariant-rules : goal.invariant-rules
invariant-rules l = first_denial (drop l.fails-index l.rules) ≡ first_denial l.rules
