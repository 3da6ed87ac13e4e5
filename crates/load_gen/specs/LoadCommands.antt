-- The commands of a generated load, group by group (docs/FORMATS.md, "The load generator"). Fields that are not named have their
-- default.
use Rattle.std.specs.Prelude.{ℕ, ◌+◌, ◌==◌, nat_le, true, false, if◌then◌else◌, List, [], ◌∷◌, ◌++◌, codes, None, decimal}
use Rattle.ctrl_model.specs.declared.commands.Command.{Command}
use Rattle.ctrl_model.specs.declared.commands.Command.TheVariants as command
use Rattle.ctrl_model.specs.declared.kinds.Precedence.TheVariants.{Normal}
use Rattle.ctrl_model.specs.declared.kinds.Relation.TheVariants.{Dial, Bind}
use Rattle.ctrl_model.specs.declared.kinds.Semantic.TheVariants.{AnyOf, AllOf}
use Rattle.ctrl_model.specs.declared.kinds.Side.{Side}
use Rattle.load_gen.specs.declared.groups.Group.{Group}
use Rattle.load_gen.specs.declared.groups.Group.TheVariants as group
use Rattle.load_gen.specs.Draws.{Drawn, generator_of, draw, ◌>>=◌, those, one, both, for_each_to}

-- A letter and a number, as the name of an entity or an attribute.
abbrev pub numbered : List ℕ → ℕ → List ℕ
numbered letter n = letter ++ decimal n

-- A side that has these attributes.
abbrev pub with_attributes : List (List ℕ) → Side
with_attributes names = record { all = false; ids = []; attributes = names }

-- The side of all.
abbrev pub everything : Side
everything = record { all = true; ids = []; attributes = [] }

-- The attributes of an identity.
abbrev pub two_attributes : ℕ → ℕ → List (List ℕ)
two_attributes g h = numbered (codes "g") g ∷ numbered (codes "h") h ∷ []

-- An identity with two attributes, each one of eight.
abbrev pub an_identity : ℕ → Drawn (List Command)
an_identity i = do
  g ← draw 8
  h ← draw 8
  one (command.CreateIdentity (numbered (codes "u") i) (two_attributes g h))

-- A service with one attribute of four.
abbrev pub a_service : ℕ → Drawn (List Command)
a_service i = do
  c ← draw 4
  one (command.CreateService (numbered (codes "s") i) (numbered (codes "c") c ∷ []))

-- A router is made and then connected.
abbrev pub a_router : ℕ → Drawn (List Command)
a_router i = do
  e ← draw 3
  cost ← draw 100
  passed ← draw 6
  those (command.CreateRouter (numbered (codes "r") i) (numbered (codes "e") e ∷ []) cost (passed == 0) ∷ command.ConnectRouter (numbered (codes "r") i) ∷ [])

-- A link between two of the twelve routers.
abbrev pub a_link : ℕ → Drawn (List Command)
a_link i = do
  a ← draw 12
  b ← draw 12
  cost ← draw 100
  one (command.CreateLink (numbered (codes "l") i) (numbered (codes "r") (1 + a)) (numbered (codes "r") (1 + b)) (1 + cost) 0 0)

-- A service policy between two attributes of identities and one of services.
abbrev pub a_service_policy : ℕ → Drawn (List Command)
a_service_policy i = do
  relation ← draw 4
  semantic ← draw 2
  g ← draw 8
  h ← draw 8
  c ← draw 4
  one (command.CreateServicePolicy (numbered (codes "d") i) (if relation == 0 then Bind else Dial) (if semantic == 0 then AnyOf else AllOf)
      (with_attributes (two_attributes g h)) (with_attributes (numbered (codes "c") c ∷ [])))

-- An edge-router policy between one attribute of identities and one of routers.
abbrev pub an_edge_router_policy : ℕ → Drawn (List Command)
an_edge_router_policy i = do
  g ← draw 8
  e ← draw 3
  one (command.CreateEdgeRouterPolicy (numbered (codes "e") i) AnyOf (with_attributes (numbered (codes "g") g ∷ [])) (with_attributes (numbered (codes "e") e ∷ [])))

-- A service-edge-router policy between one attribute of services and every router.
abbrev pub a_service_edge_router_policy : ℕ → Drawn (List Command)
a_service_edge_router_policy i = do
  c ← draw 4
  one (command.CreateServiceEdgeRouterPolicy (numbered (codes "f") i) AnyOf (with_attributes (numbered (codes "c") c ∷ [])) everything)

-- A terminator of one of the services on one of the routers.
abbrev pub a_terminator : Drawn (List Command)
a_terminator = do
  s ← draw 40
  r ← draw 12
  cost ← draw 200
  one (command.CreateTerminator (numbered (codes "s") (1 + s)) (numbered (codes "r") (1 + r)) [] None cost Normal)

-- A circuit of one of the identities to one of the services.
abbrev pub a_circuit : Drawn (List Command)
a_circuit = do
  u ← draw 200
  s ← draw 40
  one (command.CreateCircuit (numbered (codes "u") (1 + u)) (numbered (codes "s") (1 + s)) None [])

-- Other attributes of one of the identities.
abbrev pub a_changed_identity : Drawn (List Command)
a_changed_identity = do
  u ← draw 200
  g ← draw 8
  h ← draw 8
  one (command.UpdateIdentity (numbered (codes "u") (1 + u)) (two_attributes g h))

-- Another cost of one of the links.
abbrev pub a_changed_cost : Drawn (List Command)
a_changed_cost = do
  l ← draw 30
  cost ← draw 100
  one (command.SetLinkCost (numbered (codes "l") (1 + l)) (1 + cost))

-- One of the routers is disconnected.
abbrev pub a_disconnection : Drawn (List Command)
a_disconnection = do
  r ← draw 12
  one (command.DisconnectRouter (numbered (codes "r") (1 + r)))

-- One of the routers is connected.
abbrev pub a_connection : Drawn (List Command)
a_connection = do
  r ← draw 12
  one (command.ConnectRouter (numbered (codes "r") (1 + r)))

-- Which of these: six of ten ask for a circuit, and one each is of the others.
abbrev pub request_of : ℕ → Drawn (List Command)
request_of kind =
    if nat_le kind 5 then a_circuit
    else (if kind == 6 then a_changed_identity
    else (if kind == 7 then a_changed_cost
    else (if kind == 8 then a_disconnection
    else a_connection)))

-- A command of the last group.
abbrev pub a_request : Drawn (List Command)
a_request = draw 10 >>= request_of

-- What is made for a place in a group.
abbrev pub made_for : Group → ℕ → Drawn (List Command)
made_for group.Identities i = an_identity i
made_for group.Services i = a_service i
made_for group.Routers i = a_router i
made_for group.Links i = a_link i
made_for group.ServicePolicies i = a_service_policy i
made_for group.EdgeRouterPolicies i = an_edge_router_policy i
made_for group.ServiceEdgeRouterPolicies i = a_service_edge_router_policy i
made_for group.Terminators i = a_terminator
made_for group.Requests i = a_request

-- The groups in their order, each with how often it is made for.
abbrev pub whole_load : Drawn (List Command)
whole_load =
    both (for_each_to 200 (made_for group.Identities))
    (both (for_each_to 40 (made_for group.Services))
    (both (for_each_to 12 (made_for group.Routers))
    (both (for_each_to 30 (made_for group.Links))
    (both (for_each_to 20 (made_for group.ServicePolicies))
    (both (for_each_to 6 (made_for group.EdgeRouterPolicies))
    (both (for_each_to 4 (made_for group.ServiceEdgeRouterPolicies))
    (both (for_each_to 40 (made_for group.Terminators))
    (for_each_to 1000 (made_for group.Requests)))))))))

-- The commands of the load of a number.
abbrev pub load_commands : ℕ → List Command
load_commands n = (whole_load (generator_of n)).0
