-- A graph by places tells of the walks of a network by numbers, and of what they cost.
use Rattle.std.proofs.Common.{◌≡◌, ℕ, ◌<◌, List, [], ◌∷◌, length}
use Rattle.ctrl_model.specs.Walks.{goes}
use Rattle.ctrl_model.specs.Networks.{Network, hops, path_cost}
use Rattle.model_laws.proofs.MirrorLaws.{same_goes, same_cost}
use Rattle.path_certificate.specs.Graphs.{GraphSeen, graph_hops, cost_of}
use Rattle.fabric_graph.specs.Routers.{number_at, IsGraphOf}

-- a walk of the network is one of the graph
pub same_walk : (w : Network) (g : GraphSeen) (t v : ℕ) → IsGraphOf w g → t < length w.routers → v < length w.routers → (links : List ℕ)
    → goes (hops w (number_at w.routers t)) (number_at w.routers t) (number_at w.routers v ∷ []) (number_at w.routers v) links ≡ goes (graph_hops g t) t (v ∷ []) v links
same_walk w g t v k below start links =
    same_goes (length w.routers) (number_at w.routers) (graph_hops g t) (hops w (number_at w.routers t)) t (k.mirrors t below) below links (v ∷ []) v (start, tt) start

-- a walk of the network costs what it costs in the graph
pub same_price : (w : Network) (g : GraphSeen) (t v : ℕ) → IsGraphOf w g → t < length w.routers → v < length w.routers → (links : List ℕ)
    → path_cost w (number_at w.routers v) links (number_at w.routers t) ≡ cost_of g t v links
same_price w g t v k below start links =
    same_cost (length w.routers) (number_at w.routers) (graph_hops g t) (hops w (number_at w.routers t)) (k.mirrors t below) links v start
