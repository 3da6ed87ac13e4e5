-- Laws on what paths cost: with small costs each path costs less than what stands for no path, and a valid state's are small.
use Rattle.std.proofs.Common.{◌≡◌, ℕ, ◌+◌, ◌*◌, ◌<◌, ◌≤◌, max, ◌==◌, not, ◌&&◌, nat_lt, nat_le, true, List, [], ◌∷◌, length, map, Some, ap, subst, arith, ltb-true, lt-ltb, leb-true}
use Rattle.std.proofs.lemmas.Bool.{and_parts, and_from, le-leb}
use Rattle.std.proofs.lemmas.List.{length-map}
use Rattle.std.specs.List.{list_all}
use Rattle.ctrl_model.specs.declared.kinds.Kind.TheVariants as kind
use Rattle.ctrl_model.specs.declared.kinds.RouterSeen.{RouterSeen}
use Rattle.ctrl_model.specs.NameForm.{is_name}
use Rattle.ctrl_model.specs.ValueForms.{are_attributes, is_cost, is_link_cost, is_latency}
use Rattle.ctrl_model.specs.State.{State, Router, Link}
use Rattle.ctrl_model.specs.Walks.{goes}
use Rattle.ctrl_model.specs.Networks.{Network, is_on, link_cost, entry_cost, hops, is_path, path_cost, seen, network_of}
use Rattle.ctrl_model.specs.Claims.{no_path, router_numbers}
use Rattle.model_laws.specs.ClaimedRoutes.{has_small_costs}
use Rattle.ctrl_model.specs.ValidState.{ValidState, is_valid_router, is_valid_link}
use Rattle.ctrl_model.proofs.Tests.{three_parts, in_bounds}
use Rattle.ctrl_model.proofs.Members.{list_all-among, list_all-from_among, by_map, at-row}
use Rattle.ctrl_model.proofs.WalkLaws.{cost_along-le, length-path}
use Rattle.model_laws.proofs.PathLaws.{is_on-among, by_router_at, by_hops, hops_stay}

-- ---- small costs

-- with small costs each path costs less than what stands for no path
pub path_cost-lt : (w : Network) (r t : ℕ) (links : List ℕ) → has_small_costs w ≡ true → is_path w r links t ≡ true → path_cost w r links t < no_path
path_cost-lt w r t links small path =
    below (length links) (length (router_numbers w)) (length w.routers) (path_cost w r links t) (length-map w.routers (λ (r : RouterSeen). r.no.0))
    (leb-true (length w.routers) 256 parts.0)
    (length-path (hops w t) t (router_numbers w) (hops_stay w t) links r (is_on-among w r (and_parts (is_on w r) (is_on w t) ways.0).0) ways.1)
    (cost_along-le (hops w t) 4294967294 most links r)
  where
    parts : (nat_le (length w.routers) 256 ≡ true) × (list_all (λ (row : ℕ × Link). nat_lt (link_cost row.1) 2147483648) w.links ≡ true)
        × (list_all (λ (r : RouterSeen). nat_lt (entry_cost w r) 2147483648) w.routers ≡ true)
    parts = three_parts (nat_le (length w.routers) 256) (list_all (λ (row : ℕ × Link). nat_lt (link_cost row.1) 2147483648) w.links)
        (list_all (λ (r : RouterSeen). nat_lt (entry_cost w r) 2147483648) w.routers) small

    ways : ((is_on w r && is_on w t) ≡ true) × (goes (hops w t) t (r ∷ []) r links ≡ true)
    ways = and_parts (is_on w r && is_on w t) (goes (hops w t) t (r ∷ []) r links) path

    below : (n places routers cost : ℕ) → places ≡ routers → routers ≤ 256 → n + 1 ≤ places → cost ≤ n * 4294967294 → cost < no_path
    below n places routers cost same few short most = omega arith

    together : (a b n : ℕ) → a < 2147483648 → b < 2147483648 → a + b ≡ n → n ≤ 4294967294
    together a b n p q s = omega arith

    most : (v l : ℕ) (h : ℕ × ℕ) → hops w t v l ≡ Some h → h.1 ≤ 4294967294
    most v l h is = by_hops w t v l h is (λ link x q there usable end found allowed told.
        by_router_at w x q found (λ among _.
        together (link_cost link) (entry_cost w q) h.1
        (ltb-true (link_cost link) 2147483648 (list_all-among (λ (row : ℕ × Link). nat_lt (link_cost row.1) 2147483648) w.links (l, link) parts.1 (at-row w.links l link there)))
        (ltb-true (entry_cost w q) 2147483648 (list_all-among (λ (r : RouterSeen). nat_lt (entry_cost w r) 2147483648) w.routers q parts.2 among))
        (ap (λ (g : ℕ × ℕ). g.1) told)))

-- where entering a router costs something, so does each hop
pub hops_cost : (w : Network) (t : ℕ) → 1 ≤ w.least → (v l : ℕ) (h : ℕ × ℕ) → hops w t v l ≡ Some h → 1 ≤ h.1
hops_cost w t least v l h is = by_hops w t v l h is (λ link x q there usable end found allowed told. more (link_cost link) q.cost w.least h.1 least (ap (λ (g : ℕ × ℕ). g.1) told))
  where
    more : (a b c n : ℕ) → 1 ≤ c → a + max b c ≡ n → 1 ≤ n
    more a b c n p s = omega arith

-- ---- a valid state

-- the least cost of entering a router is at least 1
pub valid-least : (s : State) → ValidState s → 1 ≤ s.least_router_cost
valid-least s valid = (in_bounds 1 65535 s.least_router_cost valid.setting).0

pub valid-small_costs : (s : State) → ValidState s → has_small_costs (network_of s) ≡ true
valid-small_costs s valid =
    and_from (nat_le (length (map seen s.routers.rows)) 256)
    (list_all (λ (row : ℕ × Link). nat_lt (link_cost row.1) 2147483648) s.links.rows && list_all (λ (r : RouterSeen). nat_lt (entry_cost (network_of s) r) 2147483648) (map seen s.routers.rows))
    (le-leb (length (map seen s.routers.rows)) 256 (rw (length-map s.routers.rows seen) (valid.kinds kind.Router).numbers.few))
    (and_from (list_all (λ (row : ℕ × Link). nat_lt (link_cost row.1) 2147483648) s.links.rows) (list_all (λ (r : RouterSeen). nat_lt (entry_cost (network_of s) r) 2147483648) (map seen s.routers.rows))
    (list_all-from_among (λ (row : ℕ × Link). nat_lt (link_cost row.1) 2147483648) s.links.rows
    (λ row m. small_link row.1 (list_all-among (λ (row : ℕ × Link). is_valid_link row.1) s.links.rows row (valid.kinds kind.Link).each m)))
    (list_all-from_among (λ (r : RouterSeen). nat_lt (entry_cost (network_of s) r) 2147483648) (map seen s.routers.rows)
    (λ r m. by_map seen s.routers.rows r m (λ row among is.
    subst (λ (x : RouterSeen). nat_lt (entry_cost (network_of s) x) 2147483648 ≡ true) is
    (small_router row (list_all-among (λ (row : ℕ × Router). is_valid_router row.1) s.routers.rows row (valid.kinds kind.Router).each among))))))
  where
    sum : (a b c : ℕ) → a ≤ 65535 → b ≤ 60000 → c ≤ 60000 → nat_lt (a + b + c) 2147483648 ≡ true
    sum a b c p q r = lt-ltb (a + b + c) 2147483648 (omega arith)

    small_link : (l : Link) → is_valid_link l ≡ true → nat_lt (link_cost l) 2147483648 ≡ true
    small_link l h = from (and_parts (not (l.a == l.b)) (is_link_cost l.cost && (is_latency l.latency_a && is_latency l.latency_b)) (and_parts (is_name l.name) (not (l.a == l.b) && (is_link_cost l.cost && (is_latency l.latency_a && is_latency l.latency_b))) h).1).1
      where
        from : (is_link_cost l.cost && (is_latency l.latency_a && is_latency l.latency_b)) ≡ true → nat_lt (link_cost l) 2147483648 ≡ true
        from k = of (three_parts (is_link_cost l.cost) (is_latency l.latency_a) (is_latency l.latency_b) k)
          where
            of : (is_link_cost l.cost ≡ true) × (is_latency l.latency_a ≡ true) × (is_latency l.latency_b ≡ true) → nat_lt (link_cost l) 2147483648 ≡ true
            of p = sum l.cost l.latency_a l.latency_b (in_bounds 1 65535 l.cost p.0).1 (in_bounds 0 60000 l.latency_a p.1).1 (in_bounds 0 60000 l.latency_b p.2).1

    greater : (a b : ℕ) → a ≤ 65535 → b ≤ 65535 → nat_lt (max a b) 2147483648 ≡ true
    greater a b p q = lt-ltb (max a b) 2147483648 (omega arith)

    small_router : (row : ℕ × Router) → is_valid_router row.1 ≡ true → nat_lt (entry_cost (network_of s) (seen row)) 2147483648 ≡ true
    small_router row h = from (three_parts (is_name row.1.name) (are_attributes row.1.attributes) (is_cost row.1.cost) h)
      where
        from : (is_name row.1.name ≡ true) × (are_attributes row.1.attributes ≡ true) × (is_cost row.1.cost ≡ true) → nat_lt (entry_cost (network_of s) (seen row)) 2147483648 ≡ true
        from p = greater row.1.cost s.least_router_cost (in_bounds 0 65535 row.1.cost p.2).1 (in_bounds 1 65535 s.least_router_cost valid.setting).1
