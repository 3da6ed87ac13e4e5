-- The least path between two places of a search over the graph of a network.
use Rattle.std.proofs.Common.{◌≡◌, ℕ, ◌<◌, ◌↔◌, true, List, length, IfOk, IfSome, IsNone, Option, None, Some, Result, Ok, Err, refl, sym, subst, subst₂}
use Rattle.ctrl_model.specs.Claims.{no_path}
use Rattle.ctrl_model.specs.Mirrors.{Mirrors}
use Rattle.ctrl_model.specs.Networks.{Network, is_on, hops, least_path}
use Rattle.path_certificate.specs.Graphs.{GraphSeen, graph_hops, potential}
use Rattle.path_search.specs.MirroredSearches.{IsSearched}
use Rattle.path_search.specs.Searches.{IsLeast, IsFirst}
use Rattle.path_search.proofs.NetworkPaths.{first_of_network, none_of_network}
use Rattle.fabric_graph.specs.Routers.{number_at, IsPlaceOf, IsGraphOf}

module _ (w : Network) (g : GraphSeen) (n m v t : ℕ) (p : List ℕ) (k : IsGraphOf w g) (from : IsPlaceOf w n v) (to : IsPlaceOf w m t) (least : IsLeast g t p) where
  searched : IsSearched w g (number_at w.routers) t p
  searched = record {
    mirrors = subst (λ places. Mirrors places (number_at w.routers) (graph_hops g t) (hops w (number_at w.routers t))) (sym k.places) (k.mirrors t to.below);
    target_is_place = subst (λ places. t < places) (sym k.places) to.below;
    least = least;
  }

  starts : v < length g.through
  starts = subst (λ places. v < places) (sym k.places) from.below

  first : (links : List ℕ) → IsFirst g t p v links → least_path w n m ≡ Some links
  first links f =
      subst₂ (λ a b. least_path w a b ≡ Some links) from.named to.named
      (first_of_network w g (number_at w.routers) t v p searched starts links (subst (λ a. is_on w a ≡ true) (sym from.named) from.on) (subst (λ b. is_on w b ≡ true) (sym to.named) to.on) f)

  none : potential p v ≡ no_path → least_path w n m ≡ None
  none absent = subst₂ (λ a b. least_path w a b ≡ None) from.named to.named (none_of_network w g (number_at w.routers) t v p searched starts absent)

  -- what a walk over least costs gives is the least path
  pub walked : {E : Type 0} (r : Result (Option (List ℕ)) E) → IfOk r (λ o. IsNone o ↔ (potential p v ≡ no_path)) → IfOk r (λ o. IfSome o (IsFirst g t p v)) → IfOk r (λ o. o ≡ least_path w n m)
  walked (Ok None) absent there = sym (none (absent.0 refl))
  walked (Ok (Some links)) absent there = sym (first links there)
  walked (Err e) absent there = tt
