-- The states of the worked examples: a line on which ann may dial web, and what one fault makes of it.
use Rattle.std.specs.Prelude.{ℕ, List, [], ◌∷◌, codes}
use Rattle.ctrl_model.specs.declared.commands.Command.{Command}
use Rattle.ctrl_model.specs.declared.commands.Command.TheVariants.{DeleteServicePolicy, UpdateIdentity, CreateIdentity}
use Rattle.ctrl_model.specs.declared.kinds.Relation.TheVariants.{Dial}
use Rattle.ctrl_model.specs.State.{State}
use Rattle.ctrl_model.specs.WorkedStates.{after, only, carrying, everyone, service_policy, line, hosted_line}
use Rattle.policy_advisor.specs.WorkedAdvice.{line_behind}
use Rattle.access_reasons.specs.Reasons.{why}
use Rattle.access_reasons.specs.ReasonLines.{lines_of, failing_lines}

-- The lines on ann and web in a state.
abbrev pub ann_on_web : State → List ℕ
ann_on_web s = lines_of (why s (codes "ann") (codes "web"))

-- Those of them that fail.
abbrev pub ann_fails_on_web : State → List ℕ
ann_fails_on_web s = failing_lines (why s (codes "ann") (codes "web"))

-- Those that fail behind one more command on the line of three routers where one policy d lets ann dial web.
abbrev pub ann_fails_behind : Command → List ℕ
ann_fails_behind c = ann_fails_on_web (line_behind c)

-- The line, whose policy asks of identities for an attribute that is written otherwise than ann's.
abbrev pub misspelt_line : State
misspelt_line = after (
    DeleteServicePolicy (codes "dial")
    ∷ UpdateIdentity (codes "ann") (codes "staff" ∷ [])
    ∷ service_policy (codes "d") Dial (carrying (codes "staf" ∷ [])) (only (codes "web"))
    ∷ []) line

-- The line, whose terminator has bob as its host, who has no Bind on web any more.
abbrev pub unbound_line : State
unbound_line = after (DeleteServicePolicy (codes "bind") ∷ []) hosted_line

-- The line with bob, and with two more policies that grant Dial: a to everyone on web, and c to bob on web.
abbrev pub shared_line : State
shared_line = after (
    CreateIdentity (codes "bob") []
    ∷ service_policy (codes "a") Dial everyone (only (codes "web"))
    ∷ service_policy (codes "c") Dial (only (codes "bob")) (only (codes "web"))
    ∷ []) line
