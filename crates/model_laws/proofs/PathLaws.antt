-- Laws on the paths of a network of routers: what a hop says, and that the listed paths are the paths.
use Rattle.std.proofs.Common.{◌≡◌, ℕ, ◌+◌, ◌≤◌, ◌==◌, ◌||◌, ◌&&◌, true, ◌↔◌, List, [], ◌∷◌, length, Some, None, sym, ◌∙◌, ap, subst, arith, eqb-true, option_and_then}
use Rattle.std.proofs.lemmas.Bool.{and_parts, cond-true}
use Rattle.std.proofs.lemmas.Option.{same_Some, option_and_then_some}
use Rattle.std.proofs.lemmas.List.{length-map}
use Rattle.ctrl_model.specs.declared.kinds.RouterSeen.{RouterSeen}
use Rattle.ctrl_model.specs.Membership.{Among}
use Rattle.ctrl_model.specs.Numbered.{at, numbers}
use Rattle.ctrl_model.specs.State.{Link}
use Rattle.ctrl_model.specs.Walks.{goes, walks}
use Rattle.ctrl_model.specs.Networks.{Network, router_at, is_on, other_end, link_cost, is_usable, entry_cost, hop_to, across, hops, is_path, paths}
use Rattle.ctrl_model.specs.Claims.{router_numbers}
use Rattle.ctrl_model.proofs.Members.{Among-map, find_passes, find_among, guarded, at-among}
use Rattle.ctrl_model.proofs.Tests.{by_kept}
use Rattle.ctrl_model.proofs.WalkLaws.{by_there, StaysAmong, LinksAmong, paths_are}

-- ---- routers

-- a router that is found is one of the network's, and has the number
pub by_router_at : {P : Type 0} (w : Network) (x : ℕ) (q : RouterSeen) → router_at w x ≡ Some q → (Among q w.routers → q.no.0 ≡ x → P) → P
by_router_at w x q e k =
    k (find_among (λ (r : RouterSeen). r.no.0 == x) w.routers q e) (eqb-true q.no.0 x (find_passes (λ (r : RouterSeen). r.no.0 == x) w.routers q e))

-- the number of a router that is found is one of the network's
pub router_at-among : (w : Network) (x : ℕ) (q : RouterSeen) → router_at w x ≡ Some q → Among x (router_numbers w)
router_at-among w x q e = by_router_at w x q e (λ m same. subst (λ y. Among y (router_numbers w)) same (Among-map (λ (r : RouterSeen). r.no.0) w.routers q m))

-- a router that is present and connected is found
pub by_is_on : {P : Type 0} (w : Network) (x : ℕ) → is_on w x ≡ true → ((q : RouterSeen) → router_at w x ≡ Some q → q.connected ≡ true → P) → P
by_is_on w x on k = by_there (λ (r : RouterSeen). r.connected) (router_at w x) on k

-- so its number is one of the network's
pub is_on-among : (w : Network) (x : ℕ) → is_on w x ≡ true → Among x (router_numbers w)
is_on-among w x on = by_is_on w x on (λ q is _. router_at-among w x q is)

-- ---- hops

-- a hop goes over a present and usable link to the router at its other end, which is the target or may be passed through
pub by_hops : {P : Type 0} (w : Network) (t v l : ℕ) (h : ℕ × ℕ) → hops w t v l ≡ Some h
    → ((link : Link) (x : ℕ) (q : RouterSeen) → at w.links l ≡ Some link → is_usable w link ≡ true → other_end v link ≡ Some x → router_at w x ≡ Some q
    → ((x == t) || q.through) ≡ true → (x, link_cost link + entry_cost w q) ≡ h → P) → P
by_hops w t v l h e k =
    option_and_then_some (across w t v) (at w.links l) h e (λ link is over.
    by_kept (is_usable w link) (option_and_then (hop_to w t link) (option_and_then (router_at w) (other_end v link))) h over (λ usable step.
    option_and_then_some (hop_to w t link) (option_and_then (router_at w) (other_end v link)) h step (λ q there to.
    option_and_then_some (router_at w) (other_end v link) q there (λ x end found.
    by_kept ((q.no.0 == t) || q.through) (Some (q.no.0, link_cost link + entry_cost w q)) h to (λ allowed is_h.
    by_router_at w x q found (λ _ same. k link x q is usable end found
    (subst (λ y. ((y == t) || q.through) ≡ true) same allowed)
    (subst (λ y. (y, link_cost link + entry_cost w q) ≡ h) same (same_Some (q.no.0, link_cost link + entry_cost w q) h is_h))))))))

-- and each such link is a hop
pub hops_from : (w : Network) (t v l : ℕ) (link : Link) (x : ℕ) (q : RouterSeen) → at w.links l ≡ Some link → is_usable w link ≡ true → other_end v link ≡ Some x
    → router_at w x ≡ Some q → ((x == t) || q.through) ≡ true → hops w t v l ≡ Some (x, link_cost link + entry_cost w q)
hops_from w t v l link x q is usable end found allowed =
    ap (option_and_then (across w t v)) is
    ∙ (cond-true (is_usable w link) (option_and_then (hop_to w t link) (option_and_then (router_at w) (other_end v link))) None usable
    ∙ (ap (λ o. option_and_then (hop_to w t link) (option_and_then (router_at w) o)) end
    ∙ (ap (option_and_then (hop_to w t link)) found
    ∙ by_router_at w x q found (λ _ same. cond-true ((q.no.0 == t) || q.through) (Some (q.no.0, link_cost link + entry_cost w q)) None
    (subst (λ y. ((y == t) || q.through) ≡ true) (sym same) allowed)
    ∙ ap (λ y. Some (y, link_cost link + entry_cost w q)) same))))

-- each hop leads to a router of the network
pub hops_stay : (w : Network) (t : ℕ) → StaysAmong (hops w t) (router_numbers w)
hops_stay w t v l h e =
    by_hops w t v l h e (λ link x q _ _ _ found _ is_h. subst (λ (g : ℕ × ℕ). Among g.0 (router_numbers w)) is_h (router_at-among w x q found))

-- each hop goes over a link of the network
pub hops_named : (w : Network) (t : ℕ) → LinksAmong (hops w t) (numbers w.links)
hops_named w t v l h e = option_and_then_some (across w t v) (at w.links l) h e (λ link is _. at-among w.links l link is)

-- ---- paths

-- the listed paths are the paths
pub paths-is_path : (w : Network) (r t : ℕ) (links : List ℕ) → Among links (paths w r t) ↔ (is_path w r links t ≡ true)
paths-is_path w r t links =
    guarded (is_on w r && is_on w t) (goes (hops w t) t (r ∷ []) r links) (walks (hops w t) (numbers w.links) t (length w.routers) (r ∷ []) r) links (λ on.
    paths_are (hops w t) (router_numbers w) (numbers w.links) t (length w.routers) r (hops_stay w t) (hops_named w t)
    (is_on-among w r (and_parts (is_on w r) (is_on w t) on).0) few links)
  where
    few : length (router_numbers w) ≤ length w.routers + 1
    few = rw (length-map w.routers (λ (r : RouterSeen). r.no.0)) (omega arith)
