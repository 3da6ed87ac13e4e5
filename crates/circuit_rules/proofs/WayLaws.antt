-- Laws on the least ways between an ingress and a terminator, which a graph by places tells of a network by numbers.
use Rattle.std.proofs.Common.{◌≡◌, ℕ, suc, ◌<◌, ◌≤◌, ◌==◌, ◌&&◌, Bool, true, false, cond, List, [], ◌∷◌, length, Some, refl, sym, ◌∙◌, subst, subst₂, arith, eqb-true, ne_eqb}
use Rattle.std.proofs.lemmas.Bool.{and_parts, and_from}
use Rattle.std.specs.List.{find}
use Rattle.ctrl_model.specs.declared.kinds.RouterSeen.{RouterSeen}
use Rattle.ctrl_model.specs.Claims.{no_path}
use Rattle.ctrl_model.specs.Walks.{goes}
use Rattle.ctrl_model.specs.Networks.{Network, is_on, hops, is_path, path_cost}
use Rattle.model_laws.proofs.PathLaws.{by_is_on}
use Rattle.path_certificate.specs.Graphs.{GraphSeen, graph_hops, potential, IsPath, cost_of}
use Rattle.path_search.specs.Searches.{IsLeast}
use Rattle.fabric_graph.specs.Routers.{number_at, IsPlaceOf, IsGraphOf}
use Rattle.circuit_rules.specs.Searched.{place_in}
use Rattle.circuit_rules.proofs.GraphLaws.{same_walk, same_price}

-- ---- places of routers

-- the place of a router that is found
found_place : (routers : List RouterSeen) (n : ℕ) (q : RouterSeen) → find (λ r. r.no.0 == n) routers ≡ Some q
    → (place_in routers n < length routers) × (number_at routers (place_in routers n) ≡ n)
found_place [] n q e = absurd (cc)
found_place (r ∷ routers) n q e = apart (r.no.0 == n) refl e (found_place routers n q)
  where
    apart : (b : Bool) → (r.no.0 == n) ≡ b → cond b (Some r) (find (λ r. r.no.0 == n) routers) ≡ Some q
        → (find (λ r. r.no.0 == n) routers ≡ Some q → (place_in routers n < length routers) × (number_at routers (place_in routers n) ≡ n))
        → (cond b 0 (suc (place_in routers n)) < length (r ∷ routers)) × (number_at (r ∷ routers) (cond b 0 (suc (place_in routers n))) ≡ n)
    apart true is h k = (omega arith, eqb-true r.no.0 n is)
    apart false is h k = let p = k h in (omega (arith, p.0), p.1)

pub place_known : (w : Network) (n : ℕ) → is_on w n ≡ true → IsPlaceOf w n (place_in w.routers n)
place_known w n on = by_is_on w n on (λ q found _. with_place (found_place w.routers n q found))
  where
    with_place : (place_in w.routers n < length w.routers) × (number_at w.routers (place_in w.routers n) ≡ n) → IsPlaceOf w n (place_in w.routers n)
    with_place p = record { below = p.0; named = p.1; on = on }

-- ---- paths between places

-- a way from one router to another, and the least costs of the paths to the other
pub record IsWay (w : Network) (g : GraphSeen) (p : List ℕ) (n m v t : ℕ) : Type 0 where
  pub from : IsPlaceOf w n v
  pub to : IsPlaceOf w m t
  pub is_graph : IsGraphOf w g
  pub least : IsLeast g t p

same_way : (w : Network) (g : GraphSeen) (p : List ℕ) (n m v t : ℕ) → IsWay w g p n m v t → (links : List ℕ)
    → goes (hops w m) m (n ∷ []) n links ≡ goes (graph_hops g t) t (v ∷ []) v links
same_way w g p n m v t k links =
    subst₂ (λ x y. goes (hops w y) y (x ∷ []) x links ≡ goes (graph_hops g t) t (v ∷ []) v links) k.from.named k.to.named (same_walk w g t v k.is_graph k.to.below k.from.below links)

pub same_path_cost : (w : Network) (g : GraphSeen) (p : List ℕ) (n m v t : ℕ) → IsWay w g p n m v t → (links : List ℕ) → path_cost w n links m ≡ cost_of g t v links
same_path_cost w g p n m v t k links =
    subst₂ (λ x y. path_cost w x links y ≡ cost_of g t v links) k.from.named k.to.named (same_price w g t v k.is_graph k.to.below k.from.below links)

pub path_in_graph : (w : Network) (g : GraphSeen) (p : List ℕ) (n m v t : ℕ) → IsWay w g p n m v t → (links : List ℕ) → is_path w n links m ≡ true → IsPath g t v links
path_in_graph w g p n m v t k links path =
    sym (same_way w g p n m v t k links) ∙ (and_parts (is_on w n && is_on w m) (goes (hops w m) m (n ∷ []) n links) path).1

pub path_in_network : (w : Network) (g : GraphSeen) (p : List ℕ) (n m v t : ℕ) → IsWay w g p n m v t → (links : List ℕ) → IsPath g t v links → is_path w n links m ≡ true
path_in_network w g p n m v t k links path =
    and_from (is_on w n && is_on w m) (goes (hops w m) m (n ∷ []) n links) (and_from (is_on w n) (is_on w m) k.from.on k.to.on) (same_way w g p n m v t k links ∙ path)

-- the place of a way's start is one of the graph's
pub start_below : (w : Network) (g : GraphSeen) (p : List ℕ) (n m v t : ℕ) → IsWay w g p n m v t → v < length g.through
start_below w g p n m v t k = subst (λ x. v < x) (sym k.is_graph.places) k.from.below

-- where there is a path, there is a least cost, which the path costs at least
pub path_there : (w : Network) (g : GraphSeen) (p : List ℕ) (n m v t : ℕ) → IsWay w g p n m v t → (links : List ℕ) → is_path w n links m ≡ true
    → ((potential p v == no_path) ≡ false) × (potential p v ≤ path_cost w n links m)
path_there w g p n m v t k links path = (
  ne_eqb (potential p v) no_path (λ e. (k.least.each v (start_below w g p n m v t k)).none e links (path_in_graph w g p n m v t k links path)),
  subst (λ x. potential p v ≤ x) (sym (same_path_cost w g p n m v t k links)) ((k.least.each v (start_below w g p n m v t k)).below links (path_in_graph w g p n m v t k links path)),
)
