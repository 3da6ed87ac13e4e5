-- Values of rows tell records apart: two records that fit and have one value are equal. Each part of a value says where it ends.
use Rattle.std.proofs.Common.{◌≡◌, ℕ, ◌^◌, ◌<◌, ◌==◌, ◌&&◌, ◌||◌, nat_lt, nat_le, Bool, true, false, cond, List, [], ◌∷◌, ◌++◌, length, map, flat_map, get_or, drop, Option, None, Some, refl, sym, ◌∙◌, ap, ap₂, arith, ltb-true, lt-ltb, leb-true, ne_eqb, append_assoc, w16, w32, w64}
use Rattle.std.proofs.lemmas.Bool.{and_parts, cond-false, false≢true}
use Rattle.std.proofs.lemmas.Nat.{from_le_bytes-to_le_bytes_2, from_le_bytes-to_le_bytes_4, from_le_bytes-to_le_bytes_8}
use Rattle.std.proofs.lemmas.List.{length-map}
use Rattle.std.proofs.lemmas.List.Folds.{flat_map-map}
use Rattle.std.proofs.lemmas.Option.{same_Some}
use Rattle.std.specs.Int.{from_le_bytes}
use Rattle.std.specs.List.{list_all}
use Rattle.ctrl_model.specs.declared.kinds.Kind.{Kind}
use Rattle.ctrl_model.specs.declared.kinds.Kind.TheVariants as kind
use Rattle.ctrl_model.specs.declared.kinds.Side.{Side}
use Rattle.ctrl_model.specs.declared.kinds.Semantic.{Semantic}
use Rattle.ctrl_model.specs.declared.kinds.Semantic.TheVariants.{AnyOf, AllOf}
use Rattle.ctrl_model.specs.declared.kinds.Relation.{Relation}
use Rattle.ctrl_model.specs.declared.kinds.Relation.TheVariants.{Dial, Bind, IdentityRouter, ServiceRouter}
use Rattle.ctrl_model.specs.declared.kinds.Precedence.{Precedence}
use Rattle.ctrl_model.specs.declared.kinds.Precedence.TheVariants.{Required, Normal, Failed}
use Rattle.ctrl_model.specs.declared.addresses.Address.{Address}
use Rattle.ctrl_model.specs.declared.intercepts.Intercept.{Intercept}
use Rattle.ctrl_model.specs.declared.intercepts.PortRange.{PortRange}
use Rattle.ctrl_model.specs.AddressForm.{address_of, address_text, is_address, same_address}
use Rattle.ctrl_model.specs.InterceptForm.{is_claim, is_intercept, is_port_range, is_without_repeats, same_ports}
use Rattle.ctrl_model.proofs.AddressLaws.{own_spelling}
use Rattle.ctrl_model.specs.NameForm.{is_name, is_instance}
use Rattle.ctrl_model.specs.ValueForms.{is_service_relation}
use Rattle.ctrl_model.specs.State.{Entity, Router, Link, Policy, Terminator, Circuit}
use Rattle.ctrl_model.specs.Tables.{Record}
use Rattle.ctrl_model.specs.ValidState.{may_relate}
use Rattle.row_codec.specs.RowKeys.{is_long}
use Rattle.row_codec.specs.RowValues.{long, short, wide, protocols_byte, listed, address_value, port_range_value, intercept_value, text, texts, side_bytes, sides_value, record_value, host_number, precedence_byte, router_marks, flag, relation_byte, semantic_byte}
use Rattle.row_codec.specs.RowForm.{is_short, are_listed, is_listed_side, is_host}
use Rattle.row_laws.specs.FittingRecords.{fits}

-- ---- lists

pub first_same : {X : Type 0} (x y : X) (xs ys : List X) → (x ∷ xs) ≡ (y ∷ ys) → (x ≡ y) × (xs ≡ ys)
first_same x y xs ys e = (ap (λ l. get_or l 0 x) e, ap (drop 1) e)

front_same : (xs ys us vs : List ℕ) → length xs ≡ length ys → xs ++ us ≡ ys ++ vs → (xs ≡ ys) × (us ≡ vs)
front_same [] [] us vs e f = (refl, f)
front_same [] (y ∷ ys) us vs e f = absurd (omega arith)
front_same (x ∷ xs) [] us vs e f = absurd (omega arith)
front_same (x ∷ xs) (y ∷ ys) us vs e f =
    let firsts = first_same x y (xs ++ us) (ys ++ vs) f in
    let rest = front_same xs ys us vs (omega arith) firsts.1 in
    (ap₂ (λ a b. a ∷ b) firsts.0 rest.0, rest.1)

-- ---- parts of values

pub long_same : (m n : ℕ) (us vs : List ℕ) → is_long m ≡ true → is_long n ≡ true → long m ++ us ≡ long n ++ vs → (m ≡ n) × (us ≡ vs)
long_same m n us vs h k e = (
  sym (from_le_bytes-to_le_bytes_4 m (ltb-true m (2 ^ 32) h)) ∙ ap (λ l. from_le_bytes w32 l) e ∙ from_le_bytes-to_le_bytes_4 n (ltb-true n (2 ^ 32) k),
  ap (drop 4) e,
)

pub short_same : (m n : ℕ) (us vs : List ℕ) → is_short m ≡ true → is_short n ≡ true → short m ++ us ≡ short n ++ vs → (m ≡ n) × (us ≡ vs)
short_same m n us vs h k e = (
  sym (from_le_bytes-to_le_bytes_2 m (ltb-true m (2 ^ 16) h)) ∙ ap (λ l. from_le_bytes w16 l) e ∙ from_le_bytes-to_le_bytes_2 n (ltb-true n (2 ^ 16) k),
  ap (drop 2) e,
)

text_same : (a b us vs : List ℕ) → text a ++ us ≡ text b ++ vs → (a ≡ b) × (us ≡ vs)
text_same a b us vs e = let firsts = first_same (length a) (length b) (a ++ us) (b ++ vs) e in front_same a b us vs firsts.0 firsts.1

each_text_same : (ms ns : List (List ℕ)) (us vs : List ℕ) → length ms ≡ length ns → flat_map text ms ++ us ≡ flat_map text ns ++ vs → (ms ≡ ns) × (us ≡ vs)
each_text_same [] [] us vs e f = (refl, f)
each_text_same [] (n ∷ ns) us vs e f = absurd (omega arith)
each_text_same (m ∷ ms) [] us vs e f = absurd (omega arith)
each_text_same (m ∷ ms) (n ∷ ns) us vs e f =
    let firsts = text_same m n (flat_map text ms ++ us) (flat_map text ns ++ vs) (sym (append_assoc (text m) (flat_map text ms) us) ∙ f ∙ append_assoc (text n) (flat_map text ns) vs) in
    let rest = each_text_same ms ns us vs (omega arith) firsts.1 in
    (ap₂ (λ a b. a ∷ b) firsts.0 rest.0, rest.1)

texts_same : (ms ns : List (List ℕ)) (us vs : List ℕ) → texts ms ++ us ≡ texts ns ++ vs → (ms ≡ ns) × (us ≡ vs)
texts_same ms ns us vs e =
    let firsts = first_same (length ms) (length ns) (flat_map text ms ++ us) (flat_map text ns ++ vs) e in each_text_same ms ns us vs firsts.0 firsts.1

-- a part at the end
texts_alone : (ms ns : List (List ℕ)) → texts ms ≡ texts ns → ms ≡ ns
texts_alone ms ns e = (texts_same ms ns [] [] (ap (λ l. l ++ []) e)).0

longs_same : (ms ns : List ℕ) → length ms ≡ length ns → list_all is_long ms ≡ true → list_all is_long ns ≡ true → flat_map long ms ≡ flat_map long ns → ms ≡ ns
longs_same [] [] e h k f = refl
longs_same [] (n ∷ ns) e h k f = absurd (omega arith)
longs_same (m ∷ ms) [] e h k f = absurd (omega arith)
longs_same (m ∷ ms) (n ∷ ns) e h k f =
    let p = and_parts (is_long m) (list_all is_long ms) h in
    let q = and_parts (is_long n) (list_all is_long ns) k in
    let firsts = long_same m n (flat_map long ms) (flat_map long ns) p.0 q.0 f in
    ap₂ (λ a b. a ∷ b) firsts.0 (longs_same ms ns (omega arith) p.1 q.1 firsts.1)

-- ---- words

flag_back : (b : Bool) → (flag b == 1) ≡ b
flag_back true = refl
flag_back false = refl

flag_same : (a b : Bool) → flag a ≡ flag b → a ≡ b
flag_same a b e = sym (flag_back a) ∙ ap (λ n. n == 1) e ∙ flag_back b

marks_back : (a b : Bool) → ((router_marks a b == 0) || (router_marks a b == 2)) ≡ a
marks_back true true = refl
marks_back true false = refl
marks_back false true = refl
marks_back false false = refl

marks_back_second : (a b : Bool) → nat_lt 1 (router_marks a b) ≡ b
marks_back_second true true = refl
marks_back_second true false = refl
marks_back_second false true = refl
marks_back_second false false = refl

marks_same : (a b c d : Bool) → router_marks a b ≡ router_marks c d → (a ≡ c) × (b ≡ d)
marks_same a b c d e = (
  sym (marks_back a b) ∙ ap (λ n. (n == 0) || (n == 2)) e ∙ marks_back c d,
  sym (marks_back_second a b) ∙ ap (λ n. nat_lt 1 n) e ∙ marks_back_second c d,
)

semantic_back : (s : Semantic) → cond (semantic_byte s == 1) AnyOf AllOf ≡ s
semantic_back AnyOf = refl
semantic_back AllOf = refl

semantic_same : (a b : Semantic) → semantic_byte a ≡ semantic_byte b → a ≡ b
semantic_same a b e = sym (semantic_back a) ∙ ap (λ n. cond (n == 1) AnyOf AllOf) e ∙ semantic_back b

precedence_back : (p : Precedence) → cond (precedence_byte p == 1) Required (cond (precedence_byte p == 2) Normal Failed) ≡ p
precedence_back Required = refl
precedence_back Normal = refl
precedence_back Failed = refl

precedence_same : (a b : Precedence) → precedence_byte a ≡ precedence_byte b → a ≡ b
precedence_same a b e = sym (precedence_back a) ∙ ap (λ n. cond (n == 1) Required (cond (n == 2) Normal Failed)) e ∙ precedence_back b

relation_back : (r : Relation) → is_service_relation r ≡ true → cond (relation_byte r == 1) Dial Bind ≡ r
relation_back Dial h = refl
relation_back Bind h = refl
relation_back IdentityRouter h = absurd (false≢true h)
relation_back ServiceRouter h = absurd (false≢true h)

relation_same : (a b : Relation) → is_service_relation a ≡ true → is_service_relation b ≡ true → relation_byte a ≡ relation_byte b → a ≡ b
relation_same a b h k e = sym (relation_back a h) ∙ ap (λ n. cond (n == 1) Dial Bind) e ∙ relation_back b k

identity_router : (a : Relation) → may_relate kind.EdgeRouterPolicy a ≡ true → a ≡ IdentityRouter
identity_router Dial h = absurd (false≢true h)
identity_router Bind h = absurd (false≢true h)
identity_router IdentityRouter h = refl
identity_router ServiceRouter h = absurd (false≢true h)

service_router : (a : Relation) → may_relate kind.ServiceEdgeRouterPolicy a ≡ true → a ≡ ServiceRouter
service_router Dial h = absurd (false≢true h)
service_router Bind h = absurd (false≢true h)
service_router IdentityRouter h = absurd (false≢true h)
service_router ServiceRouter h = refl

host_back : (o : Option ℕ) → is_host o ≡ true → cond (host_number o == 0) None (Some (host_number o)) ≡ o
host_back None h = refl
host_back (Some n) h =
    let above = ltb-true 0 n (and_parts (nat_lt 0 n) (is_long n) h).0 in cond-false (n == 0) None (Some n) (ne_eqb n 0 (λ e. absurd (omega arith)))

host_fits : (o : Option ℕ) → is_host o ≡ true → is_long (host_number o) ≡ true
host_fits None h = refl
host_fits (Some n) h = (and_parts (nat_lt 0 n) (is_long n) h).1

host_same : (a b : Option ℕ) → is_host a ≡ true → is_host b ≡ true → host_number a ≡ host_number b → a ≡ b
host_same a b h k e = sym (host_back a h) ∙ ap (λ n. cond (n == 0) None (Some n)) e ∙ host_back b k

-- ---- sides and policies

side_same : (p q : Side) (us vs : List ℕ) → side_bytes p ++ us ≡ side_bytes q ++ vs → (p ≡ q) × (us ≡ vs)
side_same p q us vs e =
    let firsts = first_same (flag p.all) (flag q.all) ((texts p.ids ++ texts p.attributes) ++ us) ((texts q.ids ++ texts q.attributes) ++ vs) e in
    let ids = texts_same p.ids q.ids (texts p.attributes ++ us) (texts q.attributes ++ vs)
    (sym (append_assoc (texts p.ids) (texts p.attributes) us) ∙ firsts.1 ∙ append_assoc (texts q.ids) (texts q.attributes) vs) in
    let attributes = texts_same p.attributes q.attributes us vs ids.1 in
    let all = flag_same p.all q.all firsts.0 in
    (λ i. record { all = all i; ids = ids.0 i; attributes = attributes.0 i }, attributes.1)

sides_same : (p q : Policy) → sides_value p ≡ sides_value q → (p.semantic ≡ q.semantic) × (p.left ≡ q.left) × (p.right ≡ q.right)
sides_same p q e =
    let firsts = first_same (semantic_byte p.semantic) (semantic_byte q.semantic) (side_bytes p.left ++ side_bytes p.right) (side_bytes q.left ++ side_bytes q.right) e in
    let left = side_same p.left q.left (side_bytes p.right) (side_bytes q.right) firsts.1 in
    let right = side_same p.right q.right [] [] (ap (λ l. l ++ []) left.1) in
    (semantic_same p.semantic q.semantic firsts.0, left.0, right.0)

-- ---- records

entity_same : (e f : Entity) → text e.name ++ texts e.attributes ≡ text f.name ++ texts f.attributes → e ≡ f
entity_same e f h =
    let name = text_same e.name f.name (texts e.attributes) (texts f.attributes) h in
    let attributes = texts_alone e.attributes f.attributes name.1 in
    λ i. record { name = name.0 i; attributes = attributes i }

router_same : (r q : Router) → fits kind.Router r ≡ true → fits kind.Router q ≡ true → record_value kind.Router r ≡ record_value kind.Router q → r ≡ q
router_same r q f g h =
    let costs : (p : Router) → fits kind.Router p ≡ true → is_short p.cost ≡ true =
    λ p e. (and_parts (are_listed p.attributes) (is_short p.cost) (and_parts (is_name p.name) (are_listed p.attributes && is_short p.cost) e).1).1 in
    let last : Router → List ℕ = λ p. router_marks p.through p.connected ∷ [] in
    let name = text_same r.name q.name (texts r.attributes ++ (short r.cost ++ last r)) (texts q.attributes ++ (short q.cost ++ last q)) h in
    let attributes = texts_same r.attributes q.attributes (short r.cost ++ last r) (short q.cost ++ last q) name.1 in
    let cost = short_same r.cost q.cost (last r) (last q) (costs r f) (costs q g) attributes.1 in
    let marks = marks_same r.through r.connected q.through q.connected (first_same (router_marks r.through r.connected) (router_marks q.through q.connected) [] [] cost.1).0 in
    λ i. record { name = name.0 i; attributes = attributes.0 i; cost = cost.0 i; through = marks.0 i; connected = marks.1 i }

link_numbers : (l : Link) → fits kind.Link l ≡ true
    → (is_long l.a ≡ true) × (is_long l.b ≡ true) × (is_short l.cost ≡ true) × (is_short l.latency_a ≡ true) × (is_short l.latency_b ≡ true)
link_numbers l e =
    let a = and_parts (is_long l.a) _ (and_parts (is_name l.name) _ e).1 in
    let b = and_parts (is_long l.b) _ a.1 in
    let c = and_parts (is_short l.cost) _ b.1 in
    let d = and_parts (is_short l.latency_a) (is_short l.latency_b) c.1 in (a.0, b.0, c.0, d.0, d.1)

link_same : (l m : Link) → fits kind.Link l ≡ true → fits kind.Link m ≡ true → record_value kind.Link l ≡ record_value kind.Link m → l ≡ m
link_same l m f g h =
    let u = link_numbers l f in
    let v = link_numbers m g in
    let name = text_same l.name m.name _ _ h in
    let a = long_same l.a m.a _ _ u.0 v.0 name.1 in
    let b = long_same l.b m.b _ _ u.1 v.1 a.1 in
    let cost = short_same l.cost m.cost _ _ u.2 v.2 b.1 in
    let first = short_same l.latency_a m.latency_a _ _ u.3 v.3 cost.1 in
    let second = short_same l.latency_b m.latency_b _ _ u.4 v.4 first.1 in
    let up = flag_same l.up m.up (first_same (flag l.up) (flag m.up) [] [] second.1).0 in
    λ i. record { name = name.0 i; a = a.0 i; b = b.0 i; cost = cost.0 i; latency_a = first.0 i; latency_b = second.0 i; up = up i }

policy_from : (p q : Policy) → p.name ≡ q.name → p.relation ≡ q.relation → (p.semantic ≡ q.semantic) × (p.left ≡ q.left) × (p.right ≡ q.right) → p ≡ q
policy_from p q name relation rest = λ i. record { name = name i; relation = relation i; semantic = rest.0 i; left = rest.1 i; right = rest.2 i }

related : (k : Kind) (p : Policy) → (is_name p.name && (may_relate k p.relation && (is_listed_side p.left && is_listed_side p.right))) ≡ true → may_relate k p.relation ≡ true
related k p e = (and_parts (may_relate k p.relation) _ (and_parts (is_name p.name) _ e).1).0

terminator_parts : (t : Terminator) → fits kind.Terminator t ≡ true
    → (is_long t.service ≡ true) × (is_long t.router ≡ true) × (is_host t.host ≡ true) × (is_short t.cost ≡ true)
terminator_parts t e =
    let a = and_parts (is_long t.service) _ e in
    let b = and_parts (is_long t.router) _ a.1 in
    let c = and_parts (is_host t.host) _ b.1 in (a.0, b.0, c.0, (and_parts (is_instance t.instance) (is_short t.cost) c.1).1)

terminator_same : (t r : Terminator) → fits kind.Terminator t ≡ true → fits kind.Terminator r ≡ true → record_value kind.Terminator t ≡ record_value kind.Terminator r → t ≡ r
terminator_same t r f g h =
    let u = terminator_parts t f in
    let v = terminator_parts r g in
    let service = long_same t.service r.service _ _ u.0 v.0 h in
    let router = long_same t.router r.router _ _ u.1 v.1 service.1 in
    let host = long_same (host_number t.host) (host_number r.host) _ _ (host_fits t.host u.2) (host_fits r.host v.2) router.1 in
    let instance = text_same t.instance r.instance _ _ host.1 in
    let cost = short_same t.cost r.cost _ _ u.3 v.3 instance.1 in
    let precedence = precedence_same t.precedence r.precedence (first_same (precedence_byte t.precedence) (precedence_byte r.precedence) [] [] cost.1).0 in
    let hosted = host_same t.host r.host u.2 v.2 host.0 in
    λ i. record { service = service.0 i; router = router.0 i; instance = instance.0 i; host = hosted i; cost = cost.0 i; precedence = precedence i }

circuit_parts : (c : Circuit) → fits kind.Circuit c ≡ true
    → (is_long c.identity ≡ true) × (is_long c.service ≡ true) × (is_long c.terminator ≡ true) × (is_long c.ingress ≡ true) × (list_all is_long c.links ≡ true)
circuit_parts c e =
    let a = and_parts (is_long c.identity) _ e in
    let b = and_parts (is_long c.service) _ a.1 in
    let d = and_parts (is_long c.terminator) _ b.1 in
    let g = and_parts (is_long c.ingress) _ d.1 in (a.0, b.0, d.0, g.0, (and_parts (nat_le (length c.links) 255) (list_all is_long c.links) g.1).1)

circuit_same : (c d : Circuit) → fits kind.Circuit c ≡ true → fits kind.Circuit d ≡ true → record_value kind.Circuit c ≡ record_value kind.Circuit d → c ≡ d
circuit_same c d f g h =
    let u = circuit_parts c f in
    let v = circuit_parts d g in
    let identity = long_same c.identity d.identity _ _ u.0 v.0 h in
    let service = long_same c.service d.service _ _ u.1 v.1 identity.1 in
    let terminator = long_same c.terminator d.terminator _ _ u.2 v.2 service.1 in
    let ingress = long_same c.ingress d.ingress _ _ u.3 v.3 terminator.1 in
    let size = first_same (length c.links) (length d.links) (flat_map long c.links) (flat_map long d.links) ingress.1 in
    let links = longs_same c.links d.links size.0 u.4 v.4 size.1 in
    λ i. record { identity = identity.0 i; service = service.0 i; terminator = terminator.0 i; ingress = ingress.0 i; links = links i }

-- records that fit and have one value are equal
pub same_record : (k : Kind) (r q : Record k) → fits k r ≡ true → fits k q ≡ true → record_value k r ≡ record_value k q → r ≡ q
same_record kind.Identity r q f g h = entity_same r q h
same_record kind.Service r q f g h = entity_same r q h
same_record kind.Router r q f g h = router_same r q f g h
same_record kind.Link r q f g h = link_same r q f g h
same_record kind.ServicePolicy p q f g h =
    let name = text_same p.name q.name (relation_byte p.relation ∷ sides_value p) (relation_byte q.relation ∷ sides_value q) h in
    let relation = first_same (relation_byte p.relation) (relation_byte q.relation) (sides_value p) (sides_value q) name.1 in
    policy_from p q name.0 (relation_same p.relation q.relation (related kind.ServicePolicy p f) (related kind.ServicePolicy q g) relation.0) (sides_same p q relation.1)
same_record kind.EdgeRouterPolicy p q f g h =
    let name = text_same p.name q.name (sides_value p) (sides_value q) h in
    policy_from p q name.0 (identity_router p.relation (related kind.EdgeRouterPolicy p f) ∙ sym (identity_router q.relation (related kind.EdgeRouterPolicy q g)))
    (sides_same p q name.1)
same_record kind.ServiceEdgeRouterPolicy p q f g h =
    let name = text_same p.name q.name (sides_value p) (sides_value q) h in
    policy_from p q name.0 (service_router p.relation (related kind.ServiceEdgeRouterPolicy p f) ∙ sym (service_router q.relation (related kind.ServiceEdgeRouterPolicy q g)))
    (sides_same p q name.1)
same_record kind.Terminator r q f g h = terminator_same r q f g h
same_record kind.Circuit r q f g h = circuit_same r q f g h
same_record kind.Attribute r q f g h = refl

-- ---- intercepts and the serial

protocols_tcp : (a b : Bool) → ((protocols_byte a b == 1) || (protocols_byte a b == 3)) ≡ a
protocols_tcp true true = refl
protocols_tcp true false = refl
protocols_tcp false true = refl
protocols_tcp false false = refl

protocols_udp : (a b : Bool) → nat_lt 1 (protocols_byte a b) ≡ b
protocols_udp true true = refl
protocols_udp true false = refl
protocols_udp false true = refl
protocols_udp false false = refl

protocols_same : (a b c d : Bool) → protocols_byte a b ≡ protocols_byte c d → (a ≡ c) × (b ≡ d)
protocols_same a b c d e = (
  sym (protocols_tcp a b) ∙ ap (λ n. (n == 1) || (n == 3)) e ∙ protocols_tcp c d,
  sym (protocols_udp a b) ∙ ap (λ n. nat_lt 1 n) e ∙ protocols_udp c d,
)

-- addresses of one text are one address
address_same : (a b : Address) → is_address a ≡ true → is_address b ≡ true → address_text a ≡ address_text b → a ≡ b
address_same a b h k e = same_Some a b (sym (own_spelling a h) ∙ ap address_of e ∙ own_spelling b k)

addresses_same : (xs ys : List Address) → list_all is_address xs ≡ true → list_all is_address ys ≡ true → map address_text xs ≡ map address_text ys → xs ≡ ys
addresses_same [] [] h k e = refl
addresses_same [] (y ∷ ys) h k e = absurd (cc)
addresses_same (x ∷ xs) [] h k e = absurd (cc)
addresses_same (x ∷ xs) (y ∷ ys) h k e =
    let p = and_parts (is_address x) (list_all is_address xs) h in
    let q = and_parts (is_address y) (list_all is_address ys) k in
    let firsts = first_same (address_text x) (address_text y) (map address_text xs) (map address_text ys) e in
    ap₂ (λ a b. a ∷ b) (address_same x y p.0 q.0 firsts.0) (addresses_same xs ys p.1 q.1 firsts.1)

each_address_same : (xs ys : List Address) (us vs : List ℕ) → length xs ≡ length ys → list_all is_address xs ≡ true → list_all is_address ys ≡ true
    → flat_map address_value xs ++ us ≡ flat_map address_value ys ++ vs → (xs ≡ ys) × (us ≡ vs)
each_address_same xs ys us vs e h k f =
    let as_texts = each_text_same (map address_text xs) (map address_text ys) us vs (length-map xs address_text ∙ e ∙ sym (length-map ys address_text))
    (ap (λ zs. zs ++ us) (flat_map-map text address_text xs) ∙ f ∙ ap (λ zs. zs ++ vs) (sym (flat_map-map text address_text ys))) in
    (addresses_same xs ys h k as_texts.0, as_texts.1)

port_range_shorts : (r : PortRange) → is_port_range r ≡ true → (is_short r.low ≡ true) × (is_short r.high ≡ true)
port_range_shorts r e =
    let above = (and_parts (nat_le 1 r.low) (nat_le r.low r.high && nat_le r.high 65535) e).1 in
    let both = and_parts (nat_le r.low r.high) (nat_le r.high 65535) above in
    let low = leb-true r.low r.high both.0 in
    let high = leb-true r.high 65535 both.1 in
    (lt-ltb r.low (2 ^ 16) (omega (arith, low, high)), lt-ltb r.high (2 ^ 16) (omega (arith, high)))

port_ranges_same : (xs ys : List PortRange) → length xs ≡ length ys → list_all is_port_range xs ≡ true → list_all is_port_range ys ≡ true
    → flat_map port_range_value xs ≡ flat_map port_range_value ys → xs ≡ ys
port_ranges_same [] [] e h k f = refl
port_ranges_same [] (y ∷ ys) e h k f = absurd (omega arith)
port_ranges_same (x ∷ xs) [] e h k f = absurd (omega arith)
port_ranges_same (x ∷ xs) (y ∷ ys) e h k f =
    let p = and_parts (is_port_range x) (list_all is_port_range xs) h in
    let q = and_parts (is_port_range y) (list_all is_port_range ys) k in
    let a = port_range_shorts x p.0 in
    let b = port_range_shorts y q.0 in
    let low = short_same x.low y.low (short x.high ++ flat_map port_range_value xs) (short y.high ++ flat_map port_range_value ys) a.0 b.0 f in
    let high = short_same x.high y.high (flat_map port_range_value xs) (flat_map port_range_value ys) a.1 b.1 low.1 in
    ap₂ (λ r rs. r ∷ rs) (λ i. record { low = low.0 i; high = high.0 i }) (port_ranges_same xs ys (omega arith) p.1 q.1 high.1)

-- what is in the list of a claim
claimed : {A : Type 0} (form : A → Bool) (same : A → A → Bool) (xs : List A) → is_claim form same xs ≡ true → list_all form xs ≡ true
claimed form same xs e =
    (and_parts (list_all form xs) (is_without_repeats same xs)
    (and_parts (nat_le (length xs) 32) (list_all form xs && is_without_repeats same xs) (and_parts (nat_le 1 (length xs)) (nat_le (length xs) 32 && (list_all form xs && is_without_repeats same xs)) e).1).1).0

pub same_intercept : (i j : Intercept) → is_intercept i ≡ true → is_intercept j ≡ true → intercept_value i ≡ intercept_value j → i ≡ j
same_intercept i j h k e =
    let p = and_parts (is_claim is_address same_address i.addresses) (is_claim is_port_range same_ports i.ports) (and_parts (i.tcp || i.udp) _ h).1 in
    let q = and_parts (is_claim is_address same_address j.addresses) (is_claim is_port_range same_ports j.ports) (and_parts (j.tcp || j.udp) _ k).1 in
    let firsts = first_same (protocols_byte i.tcp i.udp) (protocols_byte j.tcp j.udp)
    (listed address_value i.addresses ++ listed port_range_value i.ports) (listed address_value j.addresses ++ listed port_range_value j.ports) e in
    let protocols = protocols_same i.tcp i.udp j.tcp j.udp firsts.0 in
    let many = first_same (length i.addresses) (length j.addresses)
    (flat_map address_value i.addresses ++ listed port_range_value i.ports) (flat_map address_value j.addresses ++ listed port_range_value j.ports) firsts.1 in
    let addresses = each_address_same i.addresses j.addresses (listed port_range_value i.ports) (listed port_range_value j.ports) many.0
    (claimed is_address same_address i.addresses p.0) (claimed is_address same_address j.addresses q.0) many.1 in
    let ports = first_same (length i.ports) (length j.ports) (flat_map port_range_value i.ports) (flat_map port_range_value j.ports) addresses.1 in
    let ranges = port_ranges_same i.ports j.ports ports.0 (claimed is_port_range same_ports i.ports p.1) (claimed is_port_range same_ports j.ports q.1) ports.1 in
    λ n. record { tcp = protocols.0 n; udp = protocols.1 n; addresses = addresses.0 n; ports = ranges n }

pub same_wide : (m n : ℕ) → m < 2 ^ 64 → n < 2 ^ 64 → wide m ≡ wide n → m ≡ n
same_wide m n h k e = sym (from_le_bytes-to_le_bytes_8 m h) ∙ ap (λ l. from_le_bytes w64 l) e ∙ from_le_bytes-to_le_bytes_8 n k
