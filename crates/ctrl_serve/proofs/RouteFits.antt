-- The routes, the explanations and the circuits of a valid state keep the limits of a reply.
use Rattle.ctrl_model.specs.declared.kinds.Kind.TheVariants as kind
use Rattle.std.proofs.Common.{◌≡◌, ℕ, ◌+◌, ◌*◌, ◌≤◌, max, ◌==◌, Bool, true, false, not, ◌&&◌, ◌||◌, nat_le, List, [], ◌∷◌, length, map, Option, None, Some, inl, inr, ◌⊎◌, refl, sym, ap, subst, arith}
use Rattle.std.proofs.lemmas.Bool.{and_parts, and_from, le-leb, false≢true}
use Rattle.std.proofs.lemmas.List.{length-map}
use Rattle.std.specs.List.{list_all}
use Rattle.std.specs.Option.{option_map_or, unwrap_or}
use Rattle.ctrl_model.specs.declared.claims.Reach.{Reach}
use Rattle.ctrl_model.specs.declared.kinds.RouterSeen.{RouterSeen}
use Rattle.ctrl_model.specs.declared.refusals.Denial.{Denial}
use Rattle.ctrl_model.specs.declared.refusals.Denial.TheVariants.{NoPath}
use Rattle.ctrl_model.specs.declared.refusals.Refusal.TheVariants.{Denied}
use Rattle.ctrl_model.specs.declared.replies.Reply.{Reply}
use Rattle.ctrl_model.specs.declared.replies.Reply.TheVariants.{Done, Refused, Explained}
use Rattle.ctrl_model.specs.Choices.{Ask, Candidate, best, first_rule}
use Rattle.ctrl_model.specs.CircuitCommands.{decided, create_circuit, after_create_circuit, granted_reply, router_name, explain, shown_circuit}
use Rattle.ctrl_model.specs.Claims.{no_path, least_cost, router_numbers, reach_of, carries, explained_routers, explanation_of}
use Rattle.ctrl_model.specs.ValueForms.{are_attributes, is_cost, is_link_cost, is_latency, is_value}
use Rattle.ctrl_model.specs.NameForm.{is_name}
use Rattle.ctrl_model.specs.Networks.{Network, network_of, seen, is_on, link_cost, entry_cost, hops, is_path, path_cost, admissible}
use Rattle.ctrl_model.specs.Numbered.{at, numbers}
use Rattle.ctrl_model.specs.Settling.{settle, circuit_reaches}
use Rattle.ctrl_model.specs.State.{State, Router, Link, Terminator, Circuit}
use Rattle.ctrl_model.specs.ValidState.{ValidState, is_valid_router, is_valid_link}
use Rattle.ctrl_model.specs.Walks.{goes, is_among}
use Rattle.model_laws.proofs.CandidateLaws.{best-is}
use Rattle.model_laws.proofs.LeastCostLaws.{least_cost-path}
use Rattle.ctrl_model.proofs.Members.{by_map, list_all-among, list_all-from_among, at-row}
use Rattle.ctrl_model.proofs.NumberedLaws.{length-filter-le}
use Rattle.model_laws.proofs.PathLaws.{is_on-among, by_router_at, by_hops, hops_stay}
use Rattle.ctrl_model.proofs.Tests.{three_parts, in_bounds}
use Rattle.ctrl_model.proofs.WalkLaws.{cost_along-le, length-path}
use Rattle.row_laws.proofs.WrittenRecords.{circuits_stay}
use Rattle.reply_codec.specs.ReplyLimits.{is_short_reach, is_short_claim, keeps_limits}

-- ---- paths are short

few_routers : (s : State) → ValidState s → length (map seen s.routers.rows) ≤ 256
few_routers s valid = let same = length-map s.routers.rows seen in let few = (valid.kinds kind.Router).numbers.few in omega (arith, same, few)

few_numbers : (w : Network) → length w.routers ≤ 256 → length (router_numbers w) ≤ 256
few_numbers w few = let same = length-map w.routers (λ (r : RouterSeen). r.no.0) in omega (arith, same, few)

-- a path has fewer links than there are routers
path_short : (w : Network) (r t : ℕ) (links : List ℕ) → length w.routers ≤ 256 → is_path w r links t ≡ true → length links ≤ 255
path_short w r t links few path =
    let ways = and_parts (is_on w r && is_on w t) (goes (hops w t) t (r ∷ []) r links) path in
    let here = is_on-among w r (and_parts (is_on w r) (is_on w t) ways.0).0 in
    let short : length links + 1 ≤ length (router_numbers w) = length-path (hops w t) t (router_numbers w) (hops_stay w t) links r here ways.1 in
    let all : length (router_numbers w) ≤ 256 = few_numbers w few in
    omega (arith, short, all)

-- ---- costs are small

link_small : (l : Link) → is_valid_link l ≡ true → link_cost l ≤ 185535
link_small l h =
    from (and_parts (not (l.a == l.b)) (is_link_cost l.cost && (is_latency l.latency_a && is_latency l.latency_b))
    (and_parts (is_name l.name) (not (l.a == l.b) && (is_link_cost l.cost && (is_latency l.latency_a && is_latency l.latency_b))) h).1).1
  where
    from : (is_link_cost l.cost && (is_latency l.latency_a && is_latency l.latency_b)) ≡ true → link_cost l ≤ 185535
    from k =
        let parts = three_parts (is_link_cost l.cost) (is_latency l.latency_a) (is_latency l.latency_b) k in
        let cost = (in_bounds 1 65535 l.cost parts.0).1 in
        let one = (in_bounds 0 60000 l.latency_a parts.1).1 in
        let other = (in_bounds 0 60000 l.latency_b parts.2).1 in
        omega (arith, cost, one, other)

entry_small : (s : State) → ValidState s → (row : ℕ × Router) → is_valid_router row.1 ≡ true → entry_cost (network_of s) (seen row) ≤ 65535
entry_small s valid row h =
    let parts = three_parts (is_name row.1.name) (are_attributes row.1.attributes) (is_cost row.1.cost) h in
    let own = (in_bounds 0 65535 row.1.cost parts.2).1 in
    let least = (in_bounds 1 65535 s.least_router_cost valid.setting).1 in
    greater row.1.cost s.least_router_cost own least
  where
    greater : (a b : ℕ) → a ≤ 65535 → b ≤ 65535 → max a b ≤ 65535
    greater a b p q = omega arith

hop_small : (s : State) → ValidState s → (t v l : ℕ) (h : ℕ × ℕ) → hops (network_of s) t v l ≡ Some h → h.1 ≤ 251070
hop_small s valid t v l h is = by_hops (network_of s) t v l h is (λ link x q there usable end found allowed told.
    by_router_at (network_of s) x q found (λ among _.
    together (link_cost link) (entry_cost (network_of s) q) h.1
    (link_small link (list_all-among (λ (row : ℕ × Link). is_valid_link row.1) s.links.rows (l, link) (valid.kinds kind.Link).each (at-row s.links.rows l link there)))
    (by_map seen s.routers.rows q among (λ row m is_q.
    subst (λ (r : RouterSeen). entry_cost (network_of s) r ≤ 65535) is_q
    (entry_small s valid row (list_all-among (λ (row : ℕ × Router). is_valid_router row.1) s.routers.rows row (valid.kinds kind.Router).each m))))
    (ap (λ (g : ℕ × ℕ). g.1) told)))
  where
    together : (a b n : ℕ) → a ≤ 185535 → b ≤ 65535 → a + b ≡ n → n ≤ 251070
    together a b n p q r = omega arith

-- what a path costs fits 32 bits
path_small : (s : State) → ValidState s → (r t : ℕ) (links : List ℕ) → is_path (network_of s) r links t ≡ true → path_cost (network_of s) r links t ≤ 4294967295
path_small s valid r t links path =
    small (length links) (path_cost (network_of s) r links t) (path_short (network_of s) r t links (few_routers s valid) path)
    (cost_along-le (hops (network_of s) t) 251070 (hop_small s valid t) links r)
  where
    small : (n cost : ℕ) → n ≤ 255 → cost ≤ n * 251070 → cost ≤ 4294967295
    small n cost few most = omega arith

-- so each least cost is a value of an explanation
least_value : (s : State) → ValidState s → (t v : ℕ) → is_value (least_cost (network_of s) t v) ≡ true
least_value s valid t v = by (least_cost-path (network_of s) v t)
  where
    by : (least_cost (network_of s) t v ≡ no_path) ⊎ ((ls : List ℕ) × (is_path (network_of s) v ls t ≡ true) × (path_cost (network_of s) v ls t ≡ least_cost (network_of s) t v))
        → is_value (least_cost (network_of s) t v) ≡ true
    by (inl e) = subst (λ (n : ℕ). is_value n ≡ true) (sym e) refl
    by (inr p) =
        subst (λ (n : ℕ). is_value n ≡ true) p.2
        (ap (λ (b : Bool). b || (path_cost (network_of s) v p.0 t == 18446744073709551615)) (le-leb (path_cost (network_of s) v p.0 t) 4294967295 (path_small s valid v t p.0 p.1)))

-- ---- explanations are short

reach_short : (s : State) → ValidState s → (t : ℕ) → is_short_reach (reach_of (network_of s) t) ≡ true
reach_short s valid t =
    let w : Network = network_of s in
    let same = length-map (router_numbers w) (least_cost w t) in
    let few : length (router_numbers w) ≤ 256 = few_numbers w (few_routers s valid) in
    and_from (nat_le (length (map (least_cost w t) (router_numbers w))) 256) (list_all is_value (map (least_cost w t) (router_numbers w)))
    (le-leb (length (map (least_cost w t) (router_numbers w))) 256 (omega (arith, same, few)))
    (list_all-from_among is_value (map (least_cost w t) (router_numbers w)) (λ n m.
    by_map (least_cost w t) (router_numbers w) n m (λ v among is. subst (λ (x : ℕ). is_value x ≡ true) is (least_value s valid t v))))

-- the links of a best candidate are a path
best_short : (s : State) (ask : Ask) (c : Candidate) → ValidState s → best (network_of s) ask ≡ Some c → length c.links ≤ 255
best_short s ask c valid e =
    let k = ((best-is (network_of s) ask c).0 e).is_candidate in
    path_short (network_of s) k.router.no.0 k.terminator.1.router c.links (few_routers s valid) k.path

claim_short : (s : State) (ask : Ask) (service : ℕ) (c : Candidate) → ValidState s → best (network_of s) ask ≡ Some c
    → is_short_claim (explanation_of (network_of s) ask service c) ≡ true
claim_short s ask service c valid e =
    let w : Network = network_of s in
    let targets : List ℕ = explained_routers w ask service c.precedence in
    let potentials : List Reach = map (reach_of w) targets in
    let few : length (router_numbers w) ≤ 256 = few_numbers w (few_routers s valid) in
    and_from (nat_le (length c.links) 255) (nat_le (length (router_numbers w)) 256 && (nat_le (length potentials) 256 && list_all is_short_reach potentials))
    (le-leb (length c.links) 255 (best_short s ask c valid e))
    (and_from (nat_le (length (router_numbers w)) 256) (nat_le (length potentials) 256 && list_all is_short_reach potentials)
    (le-leb (length (router_numbers w)) 256 few)
    (and_from (nat_le (length potentials) 256) (list_all is_short_reach potentials)
    (le-leb (length potentials) 256 (omega (arith, few, length-map targets (reach_of w), length-filter-le (carries (admissible w service ask.instance) c.precedence) (router_numbers w))))
    (list_all-from_among is_short_reach potentials (λ r m.
    by_map (reach_of w) targets r m (λ t among is. subst (λ (x : Reach). is_short_reach x ≡ true) is (reach_short s valid t))))))

-- ---- the answers

-- what is decided fits where each denial and the answer to the best candidate do
decided_fits : (o : Option Denial) (b : Option Candidate) (denied : Denial → Reply × State) (granted : Candidate → Reply × State)
    → ((d : Denial) → keeps_limits (denied d).0 ≡ true) → ((c : Candidate) → b ≡ Some c → keeps_limits (granted c).0 ≡ true) → keeps_limits (decided o b denied granted).0 ≡ true
decided_fits (Some d) b denied granted no_route route = no_route d
decided_fits None None denied granted no_route route = no_route NoPath
decided_fits None (Some c) denied granted no_route route = route c refl

pub create_fits : (ask : Ask) (s : State) → ValidState s → keeps_limits (create_circuit ask s).0 ≡ true
create_fits ask s valid =
    decided_fits (first_rule (network_of s) ask) (best (network_of s) ask) (λ d. (Refused (Denied d), s)) (λ c. (granted_reply c s, settle (after_create_circuit ask c s))) (λ d. refl)
    (λ c e. le-leb (length c.links) 255 (best_short s ask c valid e))

pub explain_fits : (ask : Ask) (s : State) → ValidState s → keeps_limits (explain ask s).0 ≡ true
explain_fits ask s valid =
    decided_fits (first_rule (network_of s) ask) (best (network_of s) ask) (λ d. (Refused (Denied d), s))
    (λ c. (Explained (router_name s c.ingress) (explanation_of (network_of s) ask (unwrap_or ask.service 0) c), s)) (λ d. refl)
    (λ c e. claim_short s ask (unwrap_or ask.service 0) c valid e)

-- the links of a circuit that stands are a path
reaches_short : (w : Network) (c : Circuit) (o : Option Terminator) → length w.routers ≤ 256 → option_map_or (circuit_reaches w c) o false ≡ true → length c.links ≤ 255
reaches_short w c None few h = absurd (false≢true h)
reaches_short w c (Some e) few h = path_short w c.ingress e.router c.links few h

circuit_short : (s : State) (n : ℕ) (c : Circuit) → ValidState s → at s.circuits.rows n ≡ Some c → length c.links ≤ 255
circuit_short s n c valid e =
    let reaches : Bool = option_map_or (circuit_reaches (network_of s) c) (at s.terminators.rows c.terminator) false in
    let stays = circuits_stay s valid (n, c) (at-row s.circuits.rows n c e) in
    let parts = and_parts (is_among c.identity (numbers s.identities.rows)) (is_among c.service (numbers s.services.rows) && reaches) stays in
    let rest = and_parts (is_among c.service (numbers s.services.rows)) reaches parts.1 in
    reaches_short (network_of s) c (at s.terminators.rows c.terminator) (few_routers s valid) rest.1

pub shown_fit : (n : ℕ) (s : State) → ValidState s → keeps_limits (option_map_or (shown_circuit s) (at s.circuits.rows n) Done) ≡ true
shown_fit n s valid = by (at s.circuits.rows n) refl
  where
    by : (o : Option Circuit) → at s.circuits.rows n ≡ o → keeps_limits (option_map_or (shown_circuit s) o Done) ≡ true
    by None e = refl
    by (Some c) e = le-leb (length c.links) 255 (circuit_short s n c valid e)
