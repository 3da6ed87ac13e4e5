-- The states of the worked examples, and the advice on ann and web.
use Rattle.std.specs.Prelude.{ℕ, true, false, List, [], ◌∷◌, codes, None, Some}
use Rattle.ctrl_model.specs.declared.commands.Command.{Command}
use Rattle.ctrl_model.specs.declared.commands.Command.TheVariants.{DeleteServicePolicy}
use Rattle.ctrl_model.specs.declared.kinds.Relation.TheVariants.{Dial}
use Rattle.ctrl_model.specs.declared.refusals.Denial.TheVariants.{UnknownIdentity}
use Rattle.ctrl_model.specs.State.{State, Router}
use Rattle.ctrl_model.specs.WorkedStates.{after, everyone, only, service_policy, line}
use Rattle.policy_advisor.specs.declared.advised.Advice.{Advice}

-- The line of three routers where one policy d lets ann dial web.
abbrev pub line_of_d : State
line_of_d = after (
    DeleteServicePolicy (codes "dial")
    ∷ service_policy (codes "d") Dial (only (codes "ann")) (only (codes "web"))
    ∷ []) line

-- The same behind one more command.
abbrev pub line_behind : Command → State
line_behind c = after (c ∷ []) line_of_d

-- The same with a policy b that lets everyone dial everything.
abbrev pub line_with_b : State
line_with_b = line_behind (service_policy (codes "b") Dial everyone everyone)

-- The advice on ann and web there.
abbrev pub ann_may_dial : Advice
ann_may_dial = record {
  dial = 1;
  bind = 0;
  common = 1 ∷ [];
  online = 1 ∷ [];
  terminators = 1 ∷ [];
  admissible = 1 ∷ [];
  policies = record { name = codes "d"; left = true; right = true } ∷ [];
  rule = None;
}

-- The advice on bob, whom there is not, and web.
abbrev pub bob_is_absent : Advice
bob_is_absent = record ann_may_dial {
  dial = 0;
  common = [];
  online = [];
  policies = record { name = codes "d"; left = false; right = true } ∷ [];
  rule = Some UnknownIdentity;
}

-- The first router of the line.
abbrev pub routers_of_line : List (ℕ × Router)
routers_of_line = (1, record { name = codes "r1"; attributes = []; cost = 0; through = true; connected = true }) ∷ []
