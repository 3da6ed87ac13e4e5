-- Laws on the paths of a network whose hops mirror those of a graph: a search of the graph tells the least one.
use Rattle.std.proofs.Common.{◌≡◌, ℕ, ◌<◌, ◌≤◌, true, false, ◌&&◌, ◌⊎◌, inl, inr, List, [], ◌∷◌, length, None, Some, sym, ◌∙◌, ap, arith, Equal, Greater, is_lt, nat_cmp}
use Rattle.std.proofs.lemmas.Bool.{and_parts, and_from, cases_order, false_from_ne_true}
use Rattle.std.specs.Cmp.{nat_cmp_is}
use Rattle.std.specs.Cmp.Lexicographic.{slice_cmp}
use Rattle.std.specs.Ordering.{ordering_then}
use Rattle.ctrl_model.specs.Claims.{no_path}
use Rattle.ctrl_model.specs.Networks.{Network, is_on, hops, is_path, path_cost, least_path, IsLeastPath}
use Rattle.ctrl_model.specs.Walks.{goes}
use Rattle.model_laws.proofs.LeastPathLaws.{least_path-is, least_path-none}
use Rattle.model_laws.proofs.MirrorLaws.{same_goes, same_cost}
use Rattle.path_certificate.specs.Graphs.{GraphSeen, graph_hops, potential, IsPath, cost_of}
use Rattle.path_search.specs.MirroredSearches.{IsSearched}
use Rattle.path_search.specs.Searches.{IsFirst}

-- a list that does not begin with less is not below another, if what follows is not where both begin alike
pub not_less : (a b : ℕ) (xs ys : List ℕ) → b ≤ a → (a ≡ b → is_lt (slice_cmp nat_cmp xs ys) ≡ false) → is_lt (slice_cmp nat_cmp (a ∷ xs) (b ∷ ys)) ≡ false
not_less a b xs ys le k = apart (cases_order a b)
  where
    apart : (a ≡ b) ⊎ ((a < b) ⊎ (b < a)) → is_lt (slice_cmp nat_cmp (a ∷ xs) (b ∷ ys)) ≡ false
    apart (inl s) = ap (λ o. is_lt (ordering_then o (slice_cmp nat_cmp xs ys))) (sym (nat_cmp_is a b Equal s)) ∙ k s
    apart (inr (inl h)) = absurd (omega arith)
    apart (inr (inr h)) = ap (λ o. is_lt (ordering_then o (slice_cmp nat_cmp xs ys))) (sym (nat_cmp_is a b Greater h))

module _ (w : Network) (g : GraphSeen) (rename : ℕ → ℕ) (t v : ℕ) (p : List ℕ) (k : IsSearched w g rename t p) (below : v < length g.through) where
  -- a walk of the network is one of the graph
  same_walk : (links : List ℕ) → goes (hops w (rename t)) (rename t) (rename v ∷ []) (rename v) links ≡ goes (graph_hops g t) t (v ∷ []) v links
  same_walk links = same_goes (length g.through) rename (graph_hops g t) (hops w (rename t)) t k.mirrors k.target_is_place links (v ∷ []) v (below, tt) below

  -- and costs what it costs in the graph
  same_price : (links : List ℕ) → path_cost w (rename v) links (rename t) ≡ cost_of g t v links
  same_price links = same_cost (length g.through) rename (graph_hops g t) (hops w (rename t)) k.mirrors links v below

  path_in_graph : (links : List ℕ) → is_path w (rename v) links (rename t) ≡ true → IsPath g t v links
  path_in_graph links path =
      sym (same_walk links) ∙ (and_parts (is_on w (rename v) && is_on w (rename t)) (goes (hops w (rename t)) (rename t) (rename v ∷ []) (rename v) links) path).1

  pub first_is_least : (links : List ℕ) → is_on w (rename v) ≡ true → is_on w (rename t) ≡ true → IsFirst g t p v links → IsLeastPath w (rename v) (rename t) links
  first_is_least links from to f = record {
    is_a_path = and_from (is_on w (rename v) && is_on w (rename t)) (goes (hops w (rename t)) (rename t) (rename v ∷ []) (rename v) links)
        (and_from (is_on w (rename v)) (is_on w (rename t)) from to) (same_walk links ∙ f.path_is);
    first = λ other path. not_less (path_cost w (rename v) other (rename t)) (path_cost w (rename v) links (rename t)) other links (no_less other path) (tied other path);
  }
    where
      price : path_cost w (rename v) links (rename t) ≡ potential p v
      price = same_price links ∙ f.cost_is

      no_less : (other : List ℕ) → is_path w (rename v) other (rename t) ≡ true → path_cost w (rename v) links (rename t) ≤ path_cost w (rename v) other (rename t)
      no_less other path =
          let least = (k.least.each v below).below other (path_in_graph other path) in
          let here = price in
          let there = same_price other in
          omega arith

      tied : (other : List ℕ) → is_path w (rename v) other (rename t) ≡ true → path_cost w (rename v) other (rename t) ≡ path_cost w (rename v) links (rename t)
          → is_lt (slice_cmp nat_cmp other links) ≡ false
      tied other path same = f.first other (path_in_graph other path) (sym (same_price other) ∙ same ∙ price)

  pub first_of_network : (links : List ℕ) → is_on w (rename v) ≡ true → is_on w (rename t) ≡ true → IsFirst g t p v links → least_path w (rename v) (rename t) ≡ Some links
  first_of_network links from to f = (least_path-is w (rename v) (rename t) links).1 (first_is_least links from to f)

  pub none_of_network : potential p v ≡ no_path → least_path w (rename v) (rename t) ≡ None
  none_of_network none =
      (least_path-none w (rename v) (rename t)).1 (λ links.
      false_from_ne_true (is_path w (rename v) links (rename t)) (λ path. (k.least.each v below).none none links (path_in_graph links path)))
