-- The records of a valid state can be written: their numbers and lists fit the values of rows, and each row is that of a row's form.
use Rattle.std.proofs.Common.{◌≡◌, ℕ, ◌+◌, ◌^◌, ◌<◌, ◌≤◌, ◌==◌, ◌&&◌, nat_lt, nat_le, Bool, true, not, inl, inr, List, [], ◌∷◌, map, length, filter, Option, None, Some, refl, sym, ◌∙◌, ap, subst, arith, lt-ltb, le-leb, leb-true, le_trans, le_of_lt}
use Rattle.std.proofs.lemmas.Bool.{and_parts, and_from}
use Rattle.std.specs.Option.{option_map_or}
use Rattle.std.specs.List.{list_all}
use Rattle.ctrl_model.specs.declared.kinds.Kind.{Kind}
use Rattle.ctrl_model.specs.declared.kinds.Kind.TheVariants as kind
use Rattle.ctrl_model.specs.declared.kinds.Side.{Side}
use Rattle.ctrl_model.specs.declared.kinds.RouterSeen.{RouterSeen}
use Rattle.ctrl_model.specs.Membership.{Among}
use Rattle.ctrl_model.specs.NameForm.{is_name, is_instance}
use Rattle.ctrl_model.specs.ValueForms.{are_names, are_attributes, is_stored_side, is_distinct, is_cost, is_link_cost, is_latency}
use Rattle.ctrl_model.specs.Limits.{last_next}
use Rattle.ctrl_model.specs.Numbered.{at, is_present, Between, map_each, numbers}
use Rattle.ctrl_model.specs.State.{State, Router, Link, Policy, Terminator, Circuit}
use Rattle.ctrl_model.specs.Tables.{Record, table}
use Rattle.ctrl_model.specs.ValidState.{ValidState, ValidNumbers, is_valid, may_relate}
use Rattle.ctrl_model.specs.Networks.{network_of, seen, is_path, hops}
use Rattle.ctrl_model.specs.Claims.{router_numbers}
use Rattle.ctrl_model.specs.Walks.{Hops, is_among, goes}
use Rattle.ctrl_model.specs.Settling.{link_stays, terminator_stays, stays_in, rerouted, settle_links, settle_terminators}
use Rattle.ctrl_model.proofs.Members.{list_all-among, by_filter, Among-from_test, at-row, at-among}
use Rattle.ctrl_model.proofs.NumberedLaws.{at-within, by_is_some}
use Rattle.ctrl_model.proofs.WalkLaws.{by_there, by_goes, LinksAmong, length-path}
use Rattle.model_laws.proofs.PathLaws.{hops_stay, hops_named, is_on-among}
use Rattle.std.proofs.lemmas.List.{length-map}
use Rattle.row_laws.proofs.KeyOrders.{long_upto}
use Rattle.row_codec.specs.RowKeys.{is_long}
use Rattle.row_codec.specs.RowForm.{is_short, are_listed, is_listed_side, is_host}
use Rattle.row_laws.specs.FittingRecords.{fits}

-- ---- numbers of records

number_fits : (n next : ℕ) → n < next → next ≤ last_next → is_long n ≡ true
number_fits n next h k = long_upto n (le_trans (le_of_lt h) k)

pub present_fits : {R : Type 0} {most : ℕ} {rows : List (ℕ × R)} {next : ℕ} → ValidNumbers most rows next → (n : ℕ) → is_present rows n ≡ true
    → (1 ≤ n) × (is_long n ≡ true)
present_fits {rows = rows} {next = next} v n e = by_is_some (at rows n) e (λ r is.
    let within = at-within next rows 1 n r v.ordered is in (within.0, number_fits n next within.1 v.last))

pub listed_fits : {R : Type 0} {most : ℕ} {rows : List (ℕ × R)} {next : ℕ} → ValidNumbers most rows next → (n : ℕ) → Among n (numbers rows) → is_long n ≡ true
listed_fits {rows = rows} {next = next} v n m = number_fits n next (below rows 1 v.ordered m) v.last
  where
    below : {R : Type 0} (rows : List (ℕ × R)) (low : ℕ) → Between low next rows → Among n (numbers rows) → n < next
    below [] low b h = absurd h
    below (x ∷ xs) low b (inl e) = subst (λ m. m < next) e b.1
    below (x ∷ xs) low b (inr h) = below xs (x.0 + 1) b.2 h

-- ---- ranges

short_from : (low high n : ℕ) → high < 65536 → (nat_le low n && nat_le n high) ≡ true → is_short n ≡ true
short_from low high n h e =
    let most = leb-true n high (and_parts (nat_le low n) (nat_le n high) e).1 in
    let below : n < 65536 = omega arith in lt-ltb n (2 ^ 16) below

listed_from : (ns : List (List ℕ)) → are_attributes ns ≡ true → are_listed ns ≡ true
listed_from ns e =
    let parts = and_parts (nat_le (length ns) 64) (are_names ns) e in
    and_from (nat_le (length ns) 64) (list_all is_name ns) parts.0 (and_parts (list_all is_name ns) (is_distinct ns) parts.1).0

side_from : (side : Side) → is_stored_side side ≡ true → is_listed_side side ≡ true
side_from side e =
    let names = are_names side.ids && are_names side.attributes in
    let size = nat_le (length side.ids + length side.attributes) 64 in
    let few = and_parts size names (and_parts _ (size && names) e).1 in
    let both = and_parts (are_names side.ids) (are_names side.attributes) few.1 in
    let sum = leb-true (length side.ids + length side.attributes) 64 few.0 in
    and_from (are_listed side.ids) (are_listed side.attributes)
    (and_from (nat_le (length side.ids) 64) (list_all is_name side.ids) (le-leb (length side.ids) 64 (left (length side.ids) (length side.attributes) sum))
    (and_parts (list_all is_name side.ids) (is_distinct side.ids) both.0).0)
    (and_from (nat_le (length side.attributes) 64) (list_all is_name side.attributes) (le-leb (length side.attributes) 64 (right (length side.ids) (length side.attributes) sum))
    (and_parts (list_all is_name side.attributes) (is_distinct side.attributes) both.1).0)
  where
    left : (a b : ℕ) → a + b ≤ 64 → a ≤ 64
    left a b h = omega arith

    right : (a b : ℕ) → a + b ≤ 64 → b ≤ 64
    right a b h = omega arith

-- ---- what stays in a valid state

-- what is left by a test passes it
kept_all : {X : Type 0} (p : X → Bool) (xs ys : List X) → filter p xs ≡ ys → (x : X) → Among x ys → p x ≡ true
kept_all p xs ys e x m = by_filter p xs x (subst (λ zs. Among x zs) (sym e) m) (λ _ passes. passes)

pub links_stay : (s : State) → ValidState s → (row : ℕ × Link) → Among row s.links.rows → link_stays s row ≡ true
links_stay s v = kept_all (link_stays s) s.links.rows s.links.rows (ap (λ (t : State). t.links.rows) v.repaired)

pub terminators_stay : (s : State) → ValidState s → (row : ℕ × Terminator) → Among row s.terminators.rows → terminator_stays s row ≡ true
terminators_stay s v = kept_all (terminator_stays s) s.terminators.rows s.terminators.rows (ap (λ (t : State). t.terminators.rows) v.repaired)

pub circuits_stay : (s : State) → ValidState s → (row : ℕ × Circuit) → Among row s.circuits.rows → stays_in s row ≡ true
circuits_stay s v row m =
    subst (λ t. stays_in t row ≡ true) same
    (kept_all (stays_in (settle_terminators (settle_links s))) (map_each (rerouted (network_of (settle_terminators (settle_links s)))) s.circuits.rows) s.circuits.rows
    (ap (λ (t : State). t.circuits.rows) v.repaired) row m)
  where
    same : settle_terminators (settle_links s) ≡ s
    same i = record s { links = (v.repaired i).links; terminators = (v.repaired i).terminators }

-- ---- the records fit, kind by kind

entity_fits : (name : List ℕ) (attributes : List (List ℕ)) → (is_name name && are_attributes attributes) ≡ true → (is_name name && are_listed attributes) ≡ true
entity_fits name attributes e =
    let parts = and_parts (is_name name) (are_attributes attributes) e in and_from (is_name name) (are_listed attributes) parts.0 (listed_from attributes parts.1)

router_fits : (r : Router) → (is_name r.name && (are_attributes r.attributes && is_cost r.cost)) ≡ true → fits kind.Router r ≡ true
router_fits r e =
    let parts = and_parts (is_name r.name) (are_attributes r.attributes && is_cost r.cost) e in
    let rest = and_parts (are_attributes r.attributes) (is_cost r.cost) parts.1 in
    and_from (is_name r.name) (are_listed r.attributes && is_short r.cost) parts.0
    (and_from (are_listed r.attributes) (is_short r.cost) (listed_from r.attributes rest.0) (short_from 0 65535 r.cost (omega arith) rest.1))

link_fits : (s : State) → ValidState s → (row : ℕ × Link) → Among row s.links.rows → is_valid kind.Link s row.1 ≡ true → fits kind.Link row.1 ≡ true
link_fits s v row m e =
    let l = row.1 in
    let ends = and_parts (is_present s.routers.rows l.a) (is_present s.routers.rows l.b) (links_stay s v row m) in
    let numbered = (v.kinds kind.Router).numbers in
    let costs = is_link_cost l.cost && (is_latency l.latency_a && is_latency l.latency_b) in
    let named = and_parts (is_name l.name) (not (l.a == l.b) && costs) e in
    let three = and_parts (is_link_cost l.cost) (is_latency l.latency_a && is_latency l.latency_b) (and_parts (not (l.a == l.b)) costs named.1).1 in
    let two = and_parts (is_latency l.latency_a) (is_latency l.latency_b) three.1 in
    and_from (is_name l.name) _ named.0
    (and_from (is_long l.a) _ (present_fits numbered l.a ends.0).1
    (and_from (is_long l.b) _ (present_fits numbered l.b ends.1).1
    (and_from (is_short l.cost) _ (short_from 1 65535 l.cost (omega arith) three.0)
    (and_from (is_short l.latency_a) _ (short_from 0 60000 l.latency_a (omega arith) two.0) (short_from 0 60000 l.latency_b (omega arith) two.1)))))

policy_fits : (p : Policy) (related found : Bool) → ((is_name p.name && (is_stored_side p.left && is_stored_side p.right)) && (related && found)) ≡ true
    → (is_name p.name && (related && (is_listed_side p.left && is_listed_side p.right))) ≡ true
policy_fits p related found e =
    let all = and_parts (is_name p.name && (is_stored_side p.left && is_stored_side p.right)) (related && found) e in
    let named = and_parts (is_name p.name) (is_stored_side p.left && is_stored_side p.right) all.0 in
    let sides = and_parts (is_stored_side p.left) (is_stored_side p.right) named.1 in
    and_from (is_name p.name) (related && (is_listed_side p.left && is_listed_side p.right)) named.0
    (and_from related (is_listed_side p.left && is_listed_side p.right) (and_parts related found all.1).0
    (and_from (is_listed_side p.left) (is_listed_side p.right) (side_from p.left sides.0) (side_from p.right sides.1)))

terminator_fits : (s : State) → ValidState s → (row : ℕ × Terminator) → Among row s.terminators.rows → is_valid kind.Terminator s row.1 ≡ true → fits kind.Terminator row.1 ≡ true
terminator_fits s v row m e =
    let t = row.1 in
    let stands = and_parts (is_present s.services.rows t.service) (is_present s.routers.rows t.router && option_map_or (is_present s.identities.rows) t.host true) (terminators_stay s v row m) in
    let rest = and_parts (is_present s.routers.rows t.router) (option_map_or (is_present s.identities.rows) t.host true) stands.1 in
    let ranges = and_parts (is_instance t.instance) (is_cost t.cost) e in
    and_from (is_long t.service) _ (present_fits (v.kinds kind.Service).numbers t.service stands.0).1
    (and_from (is_long t.router) _ (present_fits (v.kinds kind.Router).numbers t.router rest.0).1
    (and_from (is_host t.host) _ (hosts t.host rest.1)
    (and_from (is_instance t.instance) (is_short t.cost) ranges.0 (short_from 0 65535 t.cost (omega arith) ranges.1))))
  where
    hosts : (o : Option ℕ) → option_map_or (is_present s.identities.rows) o true ≡ true → is_host o ≡ true
    hosts None h = refl
    hosts (Some n) h =
        let fit = present_fits (v.kinds kind.Identity).numbers n h in
        and_from (nat_lt 0 n) (is_long n) (lt-ltb 0 n fit.0) fit.1

-- the links of a walk are among the links that it may go over
goes_among : (hop : Hops) (t : ℕ) (names : List ℕ) (P : ℕ → Bool) → LinksAmong hop names → ((n : ℕ) → Among n names → P n ≡ true)
    → (ls seen : List ℕ) (v : ℕ) → goes hop t seen v ls ≡ true → list_all P ls ≡ true
goes_among hop t names P named all [] seen v g = refl
goes_among hop t names P named all (l ∷ ls) seen v g = by_goes hop t seen v l ls g (λ h is new rest.
    and_from (P l) (list_all P ls) (all l (named v l h is)) (goes_among hop t names P named all ls (h.0 ∷ seen) h.0 rest))

numbers-seen : (rows : List (ℕ × Router)) → map (λ (r : RouterSeen). r.no.0) (map seen rows) ≡ numbers rows
numbers-seen [] = refl
numbers-seen (x ∷ xs) = λ i. x.0 ∷ numbers-seen xs i

circuit_fits : (s : State) → ValidState s → (row : ℕ × Circuit) → Among row s.circuits.rows → fits kind.Circuit row.1 ≡ true
circuit_fits s v row m =
    let c = row.1 in
    let w = network_of s in
    let stands = and_parts (is_among c.identity (numbers s.identities.rows)) _ (circuits_stay s v row m) in
    let rest = and_parts (is_among c.service (numbers s.services.rows)) _ stands.1 in
    by_there (λ (e : Terminator). is_path w c.ingress c.links e.router) (at s.terminators.rows c.terminator) rest.1 (λ e is path.
    let ends = and_parts _ (goes (hops w e.router) e.router (c.ingress ∷ []) c.ingress c.links) path in
    let begins = is_on-among w c.ingress (and_parts _ _ ends.0).0 in
    let routers = numbers-seen s.routers.rows in
    let few = (v.kinds kind.Router).numbers.few in
    let size = ap length routers ∙ length-map s.routers.rows (λ (x : ℕ × Router). x.0) in
    let short = length-path (hops w e.router) e.router (router_numbers w) (hops_stay w e.router) c.links c.ingress begins ends.1 in
    let within = at-within s.terminators.next s.terminators.rows 1 c.terminator e (v.kinds kind.Terminator).numbers.ordered is in
    and_from (is_long c.identity) _ (listed_fits (v.kinds kind.Identity).numbers c.identity (Among-from_test c.identity (numbers s.identities.rows) stands.0))
    (and_from (is_long c.service) _ (listed_fits (v.kinds kind.Service).numbers c.service (Among-from_test c.service (numbers s.services.rows) rest.0))
    (and_from (is_long c.terminator) _ (number_fits c.terminator s.terminators.next within.1 (v.kinds kind.Terminator).numbers.last)
    (and_from (is_long c.ingress) _ (listed_fits (v.kinds kind.Router).numbers c.ingress (subst (λ ns. Among c.ingress ns) routers begins))
    (and_from (nat_le (length c.links) 255) (list_all is_long c.links)
    (le-leb (length c.links) 255 (least (length c.links) (length (router_numbers w)) (length s.routers.rows) short size few))
    (goes_among (hops w e.router) e.router (numbers w.links) is_long (hops_named w e.router) (listed_fits (v.kinds kind.Link).numbers) c.links (c.ingress ∷ []) c.ingress ends.1))))))
  where
    least : (a b c : ℕ) → a + 1 ≤ b → b ≡ c → c ≤ 256 → a ≤ 255
    least a b c h e k = omega arith

-- each record of a valid state fits its row
pub record_fits : (s : State) → ValidState s → (k : Kind) (row : ℕ × Record k) → Among row (table k s).rows → fits k row.1 ≡ true
record_fits s v k row m = by k row m (list_all-among (λ (x : ℕ × Record k). is_valid k s x.1) (table k s).rows row (v.kinds k).each m)
  where
    by : (k : Kind) (row : ℕ × Record k) → Among row (table k s).rows → is_valid k s row.1 ≡ true → fits k row.1 ≡ true
    by kind.Identity row m e = entity_fits row.1.name row.1.attributes e
    by kind.Service row m e = entity_fits row.1.name row.1.attributes e
    by kind.Router row m e = router_fits row.1 e
    by kind.Link row m e = link_fits s v row m e
    by kind.ServicePolicy row m e = policy_fits row.1 (may_relate kind.ServicePolicy row.1.relation) _ e
    by kind.EdgeRouterPolicy row m e = policy_fits row.1 (may_relate kind.EdgeRouterPolicy row.1.relation) _ e
    by kind.ServiceEdgeRouterPolicy row m e = policy_fits row.1 (may_relate kind.ServiceEdgeRouterPolicy row.1.relation) _ e
    by kind.Terminator row m e = terminator_fits s v row m e
    by kind.Circuit row m e = circuit_fits s v row m
    by kind.Attribute row m e = refl

-- a record of a valid state, under its number
pub record_at_fits : (k : Kind) (s : State) (n : ℕ) (r : Record k) → ValidState s → at (table k s).rows n ≡ Some r → (is_long n ≡ true) × (fits k r ≡ true)
record_at_fits k s n r v e = (listed_fits (v.kinds k).numbers n (at-among (table k s).rows n r e), record_fits s v k (n, r) (at-row (table k s).rows n r e))
