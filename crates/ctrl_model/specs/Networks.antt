-- The network that routes see: routers, links, terminators, their load, and grants. A state has one; whatever else has these parts has
-- one too, so that those who choose routes speak of it in the same words (docs/RULES.md, "Links and paths", "Terminators").
use Rattle.std.specs.Prelude.{◌≡◌, ℕ, ◌+◌, ◌==◌, max, Bool, true, false, not, ◌&&◌, ◌||◌, nat_lt, cond, List, [], ◌∷◌, length, map, filter, find, None, Some, option_and_then, count_by}
use Rattle.std.specs.declared.option.Option.{Option}
use Rattle.std.specs.Option.{option_map_or}
use Rattle.std.specs.Str.{bytes_eq}
use Rattle.ctrl_model.specs.declared.kinds.Kind.TheVariants as kind
use Rattle.ctrl_model.specs.declared.kinds.RouterSeen.{RouterSeen}
use Rattle.ctrl_model.specs.declared.kinds.Relation.TheVariants.{Dial, Bind, IdentityRouter, ServiceRouter}
use Rattle.ctrl_model.specs.Limits.{limit}
use Rattle.ctrl_model.specs.Numbered.{at, numbers}
use Rattle.ctrl_model.specs.State.{State, Router, Link, Terminator}
use Rattle.ctrl_model.specs.Tables.{table, has_room}
use Rattle.ctrl_model.specs.Grants.{count}
use Rattle.ctrl_model.specs.Ranks.{comes_before, least_by}
use Rattle.ctrl_model.specs.Walks.{Hops, goes, cost_along, walks}

-- A network: the routers by ascending number, the links, the least cost of entering a router, the terminators, how many circuits
-- are open at each, the four grant counts of pairs, and whether no circuit can be added.
pub record Network : Type 0 where
  pub routers : List RouterSeen
  pub links : List (ℕ × Link)
  pub least : ℕ
  pub terminators : List (ℕ × Terminator)
  pub load : ℕ → ℕ
  pub dial : ℕ → ℕ → ℕ
  pub bind : ℕ → ℕ → ℕ
  pub identity_router : ℕ → ℕ → ℕ
  pub service_router : ℕ → ℕ → ℕ
  pub full : Bool

-- A router of the state as routes see it.
abbrev pub seen : ℕ × Router → RouterSeen
seen row = record { no = record { 0 = row.0 }; cost = row.1.cost; through = row.1.through; connected = row.1.connected }

-- How many circuits are open at a terminator: those that end there.
abbrev pub open_circuits : State → ℕ → ℕ
open_circuits s n = count_by (λ row. row.1.terminator == n) s.circuits.rows

-- Whether no circuit can be added.
abbrev pub circuits_full : State → Bool
circuits_full s = not (has_room (limit kind.Circuit) (table kind.Circuit s))

-- The network of a state.
abbrev pub network_of : State → Network
network_of s = record {
  routers = map seen s.routers.rows;
  links = s.links.rows;
  least = s.least_router_cost;
  terminators = s.terminators.rows;
  load = open_circuits s;
  dial = count Dial s;
  bind = count Bind s;
  identity_router = count IdentityRouter s;
  service_router = count ServiceRouter s;
  full = circuits_full s;
}

-- The router of a number, if it is present.
abbrev pub router_at : Network → ℕ → Option RouterSeen
router_at w n = find (λ r. r.no.0 == n) w.routers

-- Whether a router is present and connected.
abbrev pub is_on : Network → ℕ → Bool
is_on w n = option_map_or (λ (r : RouterSeen). r.connected) (router_at w n) false

-- The other end of a link, seen from one end; none seen from elsewhere.
abbrev pub other_end : ℕ → Link → Option ℕ
other_end v l = cond (l.a == v) (Some l.b) (cond (l.b == v) (Some l.a) None)

-- What a link costs: its static cost and the latencies that both ends report.
abbrev pub link_cost : Link → ℕ
link_cost l = l.cost + l.latency_a + l.latency_b

-- A link is usable while it is up and both its routers are present and connected.
abbrev pub is_usable : Network → Link → Bool
is_usable w l = l.up && (is_on w l.a && is_on w l.b)

-- What a path pays to enter a router: its cost, but at least the least router cost.
abbrev pub entry_cost : Network → RouterSeen → ℕ
entry_cost w r = max r.cost w.least

-- A hop to a router on the way to a target: only to the target itself or to a router that may be passed through.
abbrev pub hop_to : Network → ℕ → Link → RouterSeen → Option (ℕ × ℕ)
hop_to w t l r = cond ((r.no.0 == t) || r.through) (Some (r.no.0, link_cost l + entry_cost w r)) None

-- The hop over a link from a router on the way to a target, if the link is usable and the hop is allowed.
abbrev pub across : Network → ℕ → ℕ → Link → Option (ℕ × ℕ)
across w t v l = cond (is_usable w l) (option_and_then (hop_to w t l) (option_and_then (router_at w) (other_end v l))) None

-- The rule of hops of a network for a target.
abbrev pub hops : Network → ℕ → Hops
hops w t v l = option_and_then (across w t v) (at w.links l)

-- Whether the links are a path from one router to another: both are present and connected, and the links are a walk that
-- visits no router twice. That none strictly inside is a no-traversal router is said by the hops.
abbrev pub is_path : Network → ℕ → List ℕ → ℕ → Bool
is_path w r links t = (is_on w r && is_on w t) && goes (hops w t) t (r ∷ []) r links

-- What a path costs: its links, and the entry into each router but the first.
abbrev pub path_cost : Network → ℕ → List ℕ → ℕ → ℕ
path_cost w r links t = cost_along (hops w t) r links

-- All paths from one router to another.
abbrev pub paths : Network → ℕ → ℕ → List (List ℕ)
paths w r t = cond (is_on w r && is_on w t) (walks (hops w t) (numbers w.links) t (length w.routers) (r ∷ []) r) []

-- The rank of a path from one router to another: what it costs, and then its links in lexicographic order.
abbrev pub path_rank : Network → ℕ → ℕ → List ℕ → List ℕ
path_rank w r t links = path_cost w r links t ∷ links

-- The least path from one router to another, if there is a path.
abbrev pub least_path : Network → ℕ → ℕ → Option (List ℕ)
least_path w r t = least_by (path_rank w r t) (paths w r t)

-- A least path, said without lists: a path that no path comes before.
pub record IsLeastPath (w : Network) (r t : ℕ) (links : List ℕ) : Type 0 where
  pub is_a_path : is_path w r links t ≡ true
  pub first : (other : List ℕ) → is_path w r other t ≡ true → comes_before (path_rank w r t) other links ≡ false

-- Whether a router is shared by an identity and a service: the identity is granted it, and the service too.
abbrev pub is_shared : Network → ℕ → ℕ → ℕ → Bool
is_shared w i s r = nat_lt 0 (w.identity_router i r) && nat_lt 0 (w.service_router s r)

-- Whether a request for a service and an instance counts a terminator: it is the service's and has exactly the instance.
abbrev pub is_counted : ℕ → List ℕ → ℕ × Terminator → Bool
is_counted s instance e = (e.1.service == s) && bytes_eq e.1.instance instance

-- Whether a host may serve: it has Bind on the service, and shares the terminator's router with it.
abbrev pub may_host : Network → Terminator → ℕ → Bool
may_host w e h = nat_lt 0 (w.bind h e.service) && is_shared w h e.service e.router

-- Whether a terminator can be used: its router is connected, and its host, if it has one, may serve.
abbrev pub is_in_service : Network → ℕ × Terminator → Bool
is_in_service w e = is_on w e.1.router && option_map_or (may_host w e.1) e.1.host true

-- The terminators that a request for a service and an instance counts.
abbrev pub counted : Network → ℕ → List ℕ → List (ℕ × Terminator)
counted w s instance = filter (is_counted s instance) w.terminators

-- The admissible ones of these.
abbrev pub admissible : Network → ℕ → List ℕ → List (ℕ × Terminator)
admissible w s instance = filter (is_in_service w) (counted w s instance)
