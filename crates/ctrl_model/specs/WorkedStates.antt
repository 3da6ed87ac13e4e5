-- States and commands of the worked examples: what an operator would send, and what stands then.
use Rattle.std.specs.Prelude.{ℕ, true, false, List, [], ◌∷◌, codes, None, Some, map, drop, take, ◌++◌}
use Rattle.std.specs.List.{flat_map}
use Rattle.ctrl_model.specs.declared.commands.Command.{Command}
use Rattle.ctrl_model.specs.declared.commands.Command.TheVariants.{CreateIdentity, CreateService, CreateRouter, UpdateRouter, ConnectRouter, CreateServicePolicy, CreateEdgeRouterPolicy, CreateServiceEdgeRouterPolicy, CreateLink, CreateTerminator, CreateCircuit, Explain, VerifyRoute, DeleteTerminator, DeleteServiceEdgeRouterPolicy}
use Rattle.ctrl_model.specs.declared.kinds.Side.{Side}
use Rattle.ctrl_model.specs.declared.kinds.Semantic.TheVariants.{AnyOf}
use Rattle.ctrl_model.specs.declared.kinds.Relation.{Relation}
use Rattle.ctrl_model.specs.declared.kinds.Relation.TheVariants.{Dial, Bind}
use Rattle.ctrl_model.specs.declared.kinds.Precedence.{Precedence}
use Rattle.ctrl_model.specs.declared.kinds.Precedence.TheVariants.{Required, Normal, Failed}
use Rattle.ctrl_model.specs.declared.kinds.Who.TheVariants.{Admin}
use Rattle.ctrl_model.specs.declared.claims.Reach.{Reach}
use Rattle.ctrl_model.specs.declared.replies.Reply.{Reply}
use Rattle.ctrl_model.specs.State.{State, start}
use Rattle.ctrl_model.specs.Controller.{answer, numbered}

-- The reply to a command of an admin.
abbrev pub reply_to : Command → State → Reply
reply_to c s = (answer Admin c s).0

-- The state after some commands of an admin, one after the other.
abbrev pub after : List Command → State → State
after [] s = s
after (c ∷ cs) s = after cs (answer Admin c s).1

-- The same, each change counted.
abbrev pub counted_after : List Command → State → State
counted_after [] s = s
counted_after (c ∷ cs) s = counted_after cs (numbered s (answer Admin c s)).1

-- The side `#all`.
abbrev pub everyone : Side
everyone = record { all = true; ids = []; attributes = [] }

-- The side of one `@` name.
abbrev pub only : List ℕ → Side
only name = record { all = false; ids = name ∷ []; attributes = [] }

-- The side of some attributes.
abbrev pub carrying : List (List ℕ) → Side
carrying attributes = record { all = false; ids = []; attributes = attributes }

-- A service policy between two sides.
abbrev pub service_policy : List ℕ → Relation → Side → Side → Command
service_policy name relation left right = CreateServicePolicy name relation AnyOf left right

-- A link of cost 1 with latencies 5 and 5, so of cost 11 in all.
abbrev pub link_of_eleven : List ℕ → List ℕ → List ℕ → Command
link_of_eleven name a b = CreateLink name a b 1 5 5

-- A router made and connected.
abbrev pub connected_router : List ℕ → List Command
connected_router name = CreateRouter name [] 0 false ∷ ConnectRouter name ∷ []

-- A terminator of a service on a router, without a host.
abbrev pub offered : List ℕ → List ℕ → ℕ → Precedence → Command
offered service router cost precedence = CreateTerminator service router [] None cost precedence

-- What makes three routers in a line; ann may dial web, may use r1, and web may use every router.
abbrev pub line_commands : List Command
line_commands =
    CreateRouter (codes "r1") [] 0 false ∷ ConnectRouter (codes "r1")
    ∷ CreateRouter (codes "r2") [] 0 false ∷ ConnectRouter (codes "r2")
    ∷ CreateRouter (codes "r3") [] 0 false ∷ ConnectRouter (codes "r3")
    ∷ link_of_eleven (codes "l1") (codes "r1") (codes "r2")
    ∷ link_of_eleven (codes "l2") (codes "r2") (codes "r3")
    ∷ CreateIdentity (codes "ann") [] ∷ CreateService (codes "web") []
    ∷ service_policy (codes "dial") Dial (only (codes "ann")) (only (codes "web"))
    ∷ CreateEdgeRouterPolicy (codes "edge") AnyOf (only (codes "ann")) (only (codes "r1"))
    ∷ CreateServiceEdgeRouterPolicy (codes "all") AnyOf everyone everyone
    ∷ []

-- That line.
abbrev pub line_without_terminator : State
line_without_terminator = after line_commands start

-- The line, with a terminator of web on r3 at cost 0.
abbrev pub line : State
line = after (offered (codes "web") (codes "r3") 0 Normal ∷ []) line_without_terminator

-- Ann's request for a circuit to web.
abbrev pub ann_to_web : Command
ann_to_web = CreateCircuit (codes "ann") (codes "web") None []

-- The same request, to be explained.
abbrev pub explain_ann_to_web : Command
explain_ann_to_web = Explain (codes "ann") (codes "web") None []

-- The claim that the route of the line is the least, with these potentials towards r3.
abbrev pub claim_on_line : List ℕ → Command
claim_on_line values = VerifyRoute (codes "ann") (codes "web") None [] (codes "r1") (1 ∷ 2 ∷ [])
    (record { router = record { 0 = 3 }; values = values } ∷ []) (1 ∷ 2 ∷ 3 ∷ []) 1 42

-- The line with a circuit of ann's over both its links, and after it a dear link from r1 straight to r3.
abbrev pub detoured : State
detoured = after (ann_to_web ∷ CreateLink (codes "l3") (codes "r1") (codes "r3") 60 0 0 ∷ []) line

-- The line with a second terminator of web on r3, at cost 0 too.
abbrev pub two_on_r3 : State
two_on_r3 = after (offered (codes "web") (codes "r3") 0 Normal ∷ []) line

-- The line with a circuit of ann's over both its links.
abbrev pub line_in_use : State
line_in_use = after (ann_to_web ∷ []) line

-- The same without the policy that lets her dial: what no run comes to from the start.
abbrev pub ungranted : State
ungranted = record line_in_use { service_policies = record line_in_use.service_policies { rows = [] } }

-- The line with r2 made a router that no path passes through.
abbrev pub line_stopped_at_r2 : State
line_stopped_at_r2 = after (UpdateRouter (codes "r2") [] 0 true ∷ []) (after (ann_to_web ∷ []) line)

-- The line with three terminators in place of the one: a required one on a router r4 without links, a default one on r3 at
-- cost 500, and a failed one on r1 at cost 0.
abbrev pub line_of_precedences : State
line_of_precedences = after (
    DeleteTerminator 1
    ∷ CreateRouter (codes "r4") [] 0 false
    ∷ offered (codes "web") (codes "r4") 0 Required
    ∷ offered (codes "web") (codes "r3") 500 Normal
    ∷ offered (codes "web") (codes "r1") 0 Failed
    ∷ []) line

-- Four routers in a square: links 1 and 4 lead round by r2, links 2 and 3 round by r3, all at one cost; web is on r4.
abbrev pub square : State
square = after (
    CreateRouter (codes "r1") [] 0 false ∷ ConnectRouter (codes "r1")
    ∷ CreateRouter (codes "r2") [] 0 false ∷ ConnectRouter (codes "r2")
    ∷ CreateRouter (codes "r3") [] 0 false ∷ ConnectRouter (codes "r3")
    ∷ CreateRouter (codes "r4") [] 0 false ∷ ConnectRouter (codes "r4")
    ∷ link_of_eleven (codes "l1") (codes "r1") (codes "r2")
    ∷ link_of_eleven (codes "l2") (codes "r1") (codes "r3")
    ∷ link_of_eleven (codes "l3") (codes "r3") (codes "r4")
    ∷ link_of_eleven (codes "l4") (codes "r2") (codes "r4")
    ∷ CreateIdentity (codes "ann") [] ∷ CreateService (codes "web") []
    ∷ service_policy (codes "dial") Dial everyone everyone
    ∷ CreateEdgeRouterPolicy (codes "edge") AnyOf (only (codes "ann")) (only (codes "r1"))
    ∷ CreateServiceEdgeRouterPolicy (codes "all") AnyOf everyone everyone
    ∷ offered (codes "web") (codes "r4") 0 Normal
    ∷ []) start

-- Ann and web, and two policies that let ann dial it.
abbrev pub two_policies : State
two_policies = after (
    CreateIdentity (codes "ann") (codes "staff" ∷ []) ∷ CreateService (codes "web") (codes "public" ∷ [])
    ∷ service_policy (codes "p1") Dial (only (codes "ann")) everyone
    ∷ service_policy (codes "p2") Dial (carrying (codes "staff" ∷ [])) (carrying (codes "public" ∷ []))
    ∷ []) start

-- The line, its terminator hosted by bob: bob may bind web and may use every router.
abbrev pub hosted_line : State
hosted_line = after (
    CreateIdentity (codes "bob") []
    ∷ service_policy (codes "bind") Bind (only (codes "bob")) (only (codes "web"))
    ∷ CreateEdgeRouterPolicy (codes "bobs") AnyOf (only (codes "bob")) everyone
    ∷ CreateTerminator (codes "web") (codes "r3") [] (Some (codes "bob")) 0 Normal
    ∷ []) line_without_terminator

-- The least costs of paths to a router, as an entry of a claim.
abbrev pub towards : ℕ → List ℕ → Reach
towards router values = record { router = record { 0 = router }; values = values }

-- The claim, for ann and web and any ingress, that a route from r1 to a terminator is the least.
abbrev pub claim_from_r1 : List ℕ → List Reach → List ℕ → ℕ → ℕ → Command
claim_from_r1 links potentials routers terminator total =
    VerifyRoute (codes "ann") (codes "web") None [] (codes "r1") links potentials routers terminator total

-- The claim that the route of the line is the least, for a request that names its ingress, from a router.
abbrev pub claim_by_ingress : List ℕ → List ℕ → Command
claim_by_ingress ingress chosen =
    VerifyRoute (codes "ann") (codes "web") (Some ingress) [] chosen (1 ∷ 2 ∷ []) (towards 3 (42 ∷ 21 ∷ 0 ∷ []) ∷ []) (1 ∷ 2 ∷ 3 ∷ []) 1 42

-- The line, on which ann may use r2 too.
abbrev pub line_from_two : State
line_from_two = after (CreateEdgeRouterPolicy (codes "second") AnyOf (only (codes "ann")) (only (codes "r2")) ∷ []) line

-- The line, on which web may use r2 alone.
abbrev pub narrow_line : State
narrow_line = after (
    CreateServiceEdgeRouterPolicy (codes "narrow") AnyOf (only (codes "web")) (only (codes "r2"))
    ∷ DeleteServiceEdgeRouterPolicy (codes "all")
    ∷ []) line

-- Two routers without links; everyone may dial web and use every router; terminator 1 is on r2, and terminator 2 on r1.
abbrev pub two_terminators : State
two_terminators = after (
    CreateRouter (codes "r1") [] 0 false ∷ ConnectRouter (codes "r1")
    ∷ CreateRouter (codes "r2") [] 0 false ∷ ConnectRouter (codes "r2")
    ∷ CreateIdentity (codes "ann") [] ∷ CreateService (codes "web") []
    ∷ service_policy (codes "dial") Dial everyone everyone
    ∷ CreateEdgeRouterPolicy (codes "edge") AnyOf everyone everyone
    ∷ CreateServiceEdgeRouterPolicy (codes "all") AnyOf everyone everyone
    ∷ offered (codes "web") (codes "r2") 0 Normal
    ∷ offered (codes "web") (codes "r1") 0 Normal
    ∷ []) start

-- Link 1 leads from r2 to r3, and link 2 from r1 to r3, at one cost; ann may use r1 and r2; web is on r3.
abbrev pub fork : State
fork = after (
    CreateRouter (codes "r1") [] 0 false ∷ ConnectRouter (codes "r1")
    ∷ CreateRouter (codes "r2") [] 0 false ∷ ConnectRouter (codes "r2")
    ∷ CreateRouter (codes "r3") [] 0 false ∷ ConnectRouter (codes "r3")
    ∷ link_of_eleven (codes "l1") (codes "r2") (codes "r3")
    ∷ link_of_eleven (codes "l2") (codes "r1") (codes "r3")
    ∷ CreateIdentity (codes "ann") [] ∷ CreateService (codes "web") []
    ∷ service_policy (codes "dial") Dial everyone everyone
    ∷ CreateEdgeRouterPolicy (codes "edge") AnyOf everyone (record { all = false; ids = codes "r1" ∷ codes "r2" ∷ []; attributes = [] })
    ∷ CreateServiceEdgeRouterPolicy (codes "all") AnyOf everyone everyone
    ∷ offered (codes "web") (codes "r3") 0 Normal
    ∷ []) start

-- The names of one byte: 65 of them, as many as there are bytes of names.
abbrev pub names_of_one_byte : List (List ℕ)
names_of_one_byte = map (λ b. b ∷ []) (codes "-.0123456789ABCDEFGHIJKLMNOPQRSTUVWXYZ_abcdefghijklmnopqrstuvwxyz")

-- All of these but the first.
abbrev pub names_of_one_byte_but_one : List (List ℕ)
names_of_one_byte_but_one = drop 1 names_of_one_byte

-- Names of two bytes, each of which is one of the first 64 bytes of these: 4,096 of them.
abbrev pub names_of_two_bytes : List (List ℕ)
names_of_two_bytes = flat_map (λ a. map (λ b. a ++ b) (take 64 names_of_one_byte)) (take 64 names_of_one_byte)
