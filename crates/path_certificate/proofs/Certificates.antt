-- What a certificate is for.
use Rattle.std.proofs.Common.{◌≡◌, ℕ, ◌<◌, ◌≤◌, true, List, [], ◌∷◌, arith}
use Rattle.ctrl_model.specs.Claims.{no_path}
use Rattle.path_certificate.specs.Graphs.{GraphSeen, graph_hops, IsGraph, potential, cost_of, none_improves}
use Rattle.path_certificate.specs.Certified.{Certified, IsLeastPath, AreLeast}
use Rattle.path_certificate.proofs.StepLaws.{hops_cost}
use Rattle.path_certificate.proofs.LowerBounds.{below_walk, path_cost_few}
use Rattle.ctrl_model.proofs.TightLaws.{tight_cost}
use Rattle.path_certificate.proofs.TightChains.{tight_path}

-- a certified path is a path, and costs its first place's potential
pub certified_path : (g : GraphSeen) (t : ℕ) (p : List ℕ) (from : ℕ) (path : List ℕ) → IsGraph g.through g.steps
    → Certified g t p from path → IsLeastPath g t p from path
certified_path g t p from path graph c = record {
  path_is = tight_path (graph_hops g t) p t (hops_cost g t graph) path from c.chain;
  cost_is = tight_cost (graph_hops g t) (potential p) t c.zero_at_target path from c.chain;
}

-- and where no step improves a potential, each is a lower bound, and an absent one says that there is no path
pub settled_least : (g : GraphSeen) (t : ℕ) (p : List ℕ) → IsGraph g.through g.steps → potential p t ≡ 0
    → none_improves g t p ≡ true → AreLeast g t p
settled_least g t p graph zero_at settled = λ v place. record {
  below = λ links path. below_walk g t p settled zero_at links (v ∷ []) v path;
  none = λ is links path.
      let low : potential p v ≤ cost_of g t v links = below_walk g t p settled zero_at links (v ∷ []) v path in
      let few : cost_of g t v links < no_path = path_cost_few g t v links graph place path in
      omega arith;
}

pub certified_least : (g : GraphSeen) (t : ℕ) (p : List ℕ) (from : ℕ) (path : List ℕ) → IsGraph g.through g.steps
    → Certified g t p from path → AreLeast g t p
certified_least g t p from path graph c = settled_least g t p graph c.zero_at_target c.settled
