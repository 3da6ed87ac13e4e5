-- What the worked examples of answers ask.
use Rattle.std.specs.Prelude.{ℕ, List, [], ◌∷◌, ◌++◌, codes}
use Rattle.channel_frame.specs.declared.frames.Frame.{Frame}
use Rattle.ctrl_model.specs.declared.kinds.Who.TheVariants.{Admin}
use Rattle.ctrl_model.specs.declared.replies.Reply.{Reply}
use Rattle.ctrl_model.specs.State.{State, start}
use Rattle.ctrl_serve.specs.FrameAnswer.{no_bounds, alone, frame_answer}

-- A frame of a content type and a body, without headers.
abbrev pub frame_of : ℕ → List ℕ → Frame
frame_of content body = record { content = content; sequence = 7; headers = []; body = body }

-- The state behind some frames, each given by its content type and its body.
abbrev pub state_after : List (ℕ × List ℕ) → State → State
state_after [] s = s
state_after (x ∷ xs) s = state_after xs (frame_answer no_bounds Admin (frame_of x.0 x.1) (alone s)).1.state

-- The reply to one frame behind others, which come from the start.
abbrev pub reply_behind : List (ℕ × List ℕ) → ℕ → List ℕ → Reply
reply_behind frames content body = (frame_answer no_bounds Admin (frame_of content body) (alone (state_after frames start))).0

-- The reply to one frame at the start.
abbrev pub reply_at_start : ℕ → List ℕ → Reply
reply_at_start content body = reply_behind [] content body

-- An identity, a service, and a policy by which the one may dial the other, each by its name.
abbrev pub ann_may_dial : List (ℕ × List ℕ)
ann_may_dial =
    (1000, codes "{\"name\":\"ann\"}")
    ∷ (1010, codes "{\"name\":\"web\"}")
    ∷ (1100, codes "{\"name\":\"p\",\"type\":\"Dial\",\"semantic\":\"AllOf\",\"identity_roles\":[\"@ann\"],\"service_roles\":[\"@web\"]}")
    ∷ []

-- And a second policy, by which every identity may dial every service.
abbrev pub all_may_dial : List (ℕ × List ℕ)
all_may_dial =
    ann_may_dial
    ++ ((1100, codes "{\"name\":\"q\",\"type\":\"Dial\",\"semantic\":\"AnyOf\",\"identity_roles\":[\"#all\"],\"service_roles\":[\"#all\"]}") ∷ [])

-- The first policy goes.
abbrev pub first_goes : List (ℕ × List ℕ)
first_goes = (1102, codes "{\"name\":\"p\"}") ∷ []

-- The identity goes, and another one of its name comes.
abbrev pub ann_comes_again : List (ℕ × List ℕ)
ann_comes_again = (1002, codes "{\"name\":\"ann\"}") ∷ (1000, codes "{\"name\":\"ann\"}") ∷ []

-- A service, two routers, a link between them, and a terminator of the service on the first router.
abbrev pub two_routers : List (ℕ × List ℕ)
two_routers =
    (1010, codes "{\"name\":\"web\"}")
    ∷ (1020, codes "{\"name\":\"r1\"}")
    ∷ (1020, codes "{\"name\":\"r2\"}")
    ∷ (1200, codes "{\"name\":\"l1\",\"a\":\"r1\",\"b\":\"r2\"}")
    ∷ (1300, codes "{\"service\":\"web\",\"router\":\"r1\"}")
    ∷ []

-- The first router goes.
abbrev pub router_goes : List (ℕ × List ℕ)
router_goes = (1022, codes "{\"name\":\"r1\"}") ∷ []

-- Three connected routers in a row, with links that cost 11 each; ann may dial web and enters at the first router, and web is
-- offered at the third.
abbrev pub line : List (ℕ × List ℕ)
line =
    (1000, codes "{\"name\":\"ann\"}")
    ∷ (1010, codes "{\"name\":\"web\"}")
    ∷ (1020, codes "{\"name\":\"r1\"}")
    ∷ (1020, codes "{\"name\":\"r2\"}")
    ∷ (1020, codes "{\"name\":\"r3\"}")
    ∷ (1023, codes "{\"name\":\"r1\"}")
    ∷ (1023, codes "{\"name\":\"r2\"}")
    ∷ (1023, codes "{\"name\":\"r3\"}")
    ∷ (1200, codes "{\"name\":\"l1\",\"a\":\"r1\",\"b\":\"r2\",\"latency_a\":5,\"latency_b\":5}")
    ∷ (1200, codes "{\"name\":\"l2\",\"a\":\"r2\",\"b\":\"r3\",\"latency_a\":5,\"latency_b\":5}")
    ∷ (1100, codes "{\"name\":\"d\",\"type\":\"Dial\",\"semantic\":\"AnyOf\",\"identity_roles\":[\"@ann\"],\"service_roles\":[\"@web\"]}")
    ∷ (1110, codes "{\"name\":\"e\",\"semantic\":\"AnyOf\",\"identity_roles\":[\"@ann\"],\"router_roles\":[\"@r1\"]}")
    ∷ (1120, codes "{\"name\":\"s\",\"semantic\":\"AnyOf\",\"service_roles\":[\"#all\"],\"router_roles\":[\"#all\"]}")
    ∷ (1300, codes "{\"service\":\"web\",\"router\":\"r3\"}")
    ∷ []

-- What ann asks for.
abbrev pub ann_asks : List ℕ
ann_asks = codes "{\"identity\":\"ann\",\"service\":\"web\"}"

-- The middle router may not be passed through any more.
abbrev pub middle_closes : List (ℕ × List ℕ)
middle_closes = (1021, codes "{\"name\":\"r2\",\"attributes\":[],\"cost\":0,\"no_traversal\":true}") ∷ []
