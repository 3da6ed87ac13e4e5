-- Small fabrics and their routers for the worked examples.
use Rattle.std.specs.Prelude.{ℕ, true, false, List, [], ◌∷◌, codes}
use Rattle.ctrl_model.specs.declared.kinds.RouterSeen.{RouterSeen}
use Rattle.ctrl_model.specs.State.{Link}
use Rattle.path_certificate.specs.declared.graph.Step.{Step}
use Rattle.fabric_graph.specs.FabricTables.{FabricSeen, no_links, with_link}
use Rattle.fabric_graph.specs.Steps.{all_steps, by_place}

-- A link that is up, of cost 1 with latencies 4 and 6, so of cost 11 in all.
abbrev pub link_of_eleven : List ℕ → ℕ → ℕ → Link
link_of_eleven name a b = record { name = name; a = a; b = b; cost = 1; latency_a = 4; latency_b = 6; up = true }

-- Link 1 joins the routers 1 and 2, and link 2 the routers 2 and 3.
abbrev pub line : FabricSeen
line = with_link (link_of_eleven (codes "l2") 2 3) (with_link (link_of_eleven (codes "l1") 1 2) no_links)

-- A connected router that may be passed through.
abbrev pub router : ℕ → ℕ → RouterSeen
router n cost = record { no = record { 0 = n }; cost = cost; through = true; connected = true }

-- Three routers that cost nothing of their own.
abbrev pub three_routers : List RouterSeen
three_routers = router 1 0 ∷ router 2 0 ∷ router 3 0 ∷ []

-- The three routers, of which the second is not connected.
abbrev pub second_away : List RouterSeen
second_away = router 1 0 ∷ record (router 2 0) { connected = false } ∷ router 3 0 ∷ []

-- The routers 2 and 3 alone; the second costs 50.
abbrev pub two_routers : List RouterSeen
two_routers = router 2 0 ∷ router 3 50 ∷ []

-- The steps of the graph of a fabric over two or three routers.
abbrev pub steps_over : List RouterSeen → ℕ → FabricSeen → List Step
steps_over routers places f = by_place (all_steps routers f.least f.links.rows) places
