-- The test of two states tells whether they are equal.
use Rattle.std.proofs.Common.{◌≡◌, ℕ, ◌==◌, ◌&&◌, Bool, true, List, Option, None, Some, refl, sym, ap, subst, eq-eqb}
use Rattle.std.proofs.lemmas.Bool.{false≢true}
use Rattle.std.proofs.lemmas.Bool.Decides.{Decides-eqb, Decides-and}
use Rattle.std.proofs.lemmas.Option.{same_Some, none-some}
use Rattle.std.proofs.lemmas.Slice.Eq.{slice_eq-Decides, bytes_eq-Decides}
use Rattle.std.specs.Bool.{Decides}
use Rattle.std.specs.Cmp.{booleans_Decides}
use Rattle.std.specs.Cmp.Lexicographic.{pointwise}
use Rattle.std.specs.Option.{option_eq}
use Rattle.ctrl_model.specs.declared.addresses.Address.{Address}
use Rattle.ctrl_model.specs.declared.intercepts.Intercept.{Intercept}
use Rattle.ctrl_model.specs.declared.intercepts.PortRange.{PortRange}
use Rattle.ctrl_model.specs.declared.kinds.Precedence.{Precedence}
use Rattle.ctrl_model.specs.declared.kinds.Precedence.TheVariants.{Required, Normal, Failed}
use Rattle.ctrl_model.specs.declared.kinds.Relation.{Relation}
use Rattle.ctrl_model.specs.declared.kinds.Relation.TheVariants.{Dial, Bind, IdentityRouter, ServiceRouter}
use Rattle.ctrl_model.specs.declared.kinds.Semantic.{Semantic}
use Rattle.ctrl_model.specs.declared.kinds.Semantic.TheVariants.{AnyOf, AllOf}
use Rattle.ctrl_model.specs.declared.kinds.Side.{Side}
use Rattle.ctrl_model.specs.AddressForm.{same_address}
use Rattle.ctrl_model.specs.Choices.{place_of}
use Rattle.ctrl_model.specs.Grants.{same_relation}
use Rattle.ctrl_model.specs.InterceptForm.{same_ports}
use Rattle.ctrl_model.specs.Numbered.{Table}
use Rattle.ctrl_model.specs.SameStates.{same_names, same_semantic, same_side, same_entity, same_router, same_link, same_policy, same_terminator, same_circuit, same_intercept, same_rows, same_table, same_state}
use Rattle.ctrl_model.specs.State.{State, Entity, Router, Link, Policy, Terminator, Circuit}
use Rattle.ctrl_model.proofs.AddressLaws.{same_itself, same_is}

-- a test tells one thing, and so another that holds exactly where it does
both_decide : {P Q : Type 0} (r : Bool) → Decides r P → (P → Q) → (Q → P) → Decides r Q
both_decide r d to from = (λ e. to (d.0 e), λ q. d.1 (from q))

-- a test that tells equal things, and each thing of itself
of_itself : {A : Type 0} (test : A → A → Bool) (a b : A) → (test a b ≡ true → a ≡ b) → test a a ≡ true → Decides (test a b) (a ≡ b)
of_itself test a b same itself = (same, λ e. subst (λ c. test a c ≡ true) e itself)

-- ---- numbers and lists of them

lists : {A : Type 0} {E : A → A → Bool} → ((a b : A) → Decides (E a b) (a ≡ b)) → (xs ys : List A) → Decides (pointwise E xs ys) (xs ≡ ys)
lists each xs ys = slice_eq-Decides each xs ys _ refl

names : (xs ys : List (List ℕ)) → Decides (same_names xs ys) (xs ≡ ys)
names xs ys = lists bytes_eq-Decides xs ys

numbers_or_none : (a b : Option ℕ) → Decides (option_eq (λ m n. m == n) a b) (a ≡ b)
numbers_or_none None None = (λ e. refl, λ e. refl)
numbers_or_none None (Some n) = (λ e. absurd (false≢true e), λ e. absurd (none-some n e))
numbers_or_none (Some m) None = (λ e. absurd (false≢true e), λ e. absurd (none-some m (sym e)))
numbers_or_none (Some m) (Some n) = both_decide (m == n) (Decides-eqb m n) (ap Some) (same_Some m n)

-- ---- plain variants

semantic : (a b : Semantic) → Decides (same_semantic a b) (a ≡ b)
semantic a b = of_itself same_semantic a b (same a b) (itself a)
  where
    same : (a b : Semantic) → same_semantic a b ≡ true → a ≡ b
    same AnyOf AnyOf e = refl
    same AllOf AllOf e = refl
    same a b e = absurd (false≢true e)

    itself : (a : Semantic) → same_semantic a a ≡ true
    itself AnyOf = refl
    itself AllOf = refl

relation : (a b : Relation) → Decides (same_relation a b) (a ≡ b)
relation a b = of_itself same_relation a b (same a b) (itself a)
  where
    same : (a b : Relation) → same_relation a b ≡ true → a ≡ b
    same Dial Dial e = refl
    same Bind Bind e = refl
    same IdentityRouter IdentityRouter e = refl
    same ServiceRouter ServiceRouter e = refl
    same a b e = absurd (false≢true e)

    itself : (a : Relation) → same_relation a a ≡ true
    itself Dial = refl
    itself Bind = refl
    itself IdentityRouter = refl
    itself ServiceRouter = refl

precedence : (a b : Precedence) → Decides (place_of a == place_of b) (a ≡ b)
precedence a b = of_itself (λ p q. place_of p == place_of q) a b (same a b) (eq-eqb (place_of a) (place_of a) refl)
  where
    same : (a b : Precedence) → (place_of a == place_of b) ≡ true → a ≡ b
    same Required Required e = refl
    same Normal Normal e = refl
    same Failed Failed e = refl
    same a b e = absurd (false≢true e)

address : (a b : Address) → Decides (same_address a b) (a ≡ b)
address a b = of_itself same_address a b (same_is a b) (same_itself a)

port_range : (q r : PortRange) → Decides (same_ports q r) (q ≡ r)
port_range q r = both_decide (same_ports q r) (Decides-and _ _ (Decides-eqb q.low r.low) (Decides-eqb q.high r.high))
    (λ p i. record { low = p.0 i; high = p.1 i })
    (λ e. (ap (λ (x : PortRange). x.low) e, ap (λ (x : PortRange). x.high) e))

-- ---- records

side : (a b : Side) → Decides (same_side a b) (a ≡ b)
side a b = both_decide (same_side a b) (Decides-and _ _ (booleans_Decides a.all b.all) (Decides-and _ _ (names a.ids b.ids) (names a.attributes b.attributes)))
    (λ p i. record { all = p.0 i; ids = p.1.0 i; attributes = p.1.1 i })
    (λ e. (ap (λ (x : Side). x.all) e, (ap (λ (x : Side). x.ids) e, ap (λ (x : Side). x.attributes) e)))

entity : (e f : Entity) → Decides (same_entity e f) (e ≡ f)
entity e f = both_decide (same_entity e f) (Decides-and _ _ (bytes_eq-Decides e.name f.name) (names e.attributes f.attributes))
    (λ p i. record { name = p.0 i; attributes = p.1 i })
    (λ h. (ap (λ (x : Entity). x.name) h, ap (λ (x : Entity). x.attributes) h))

router : (q r : Router) → Decides (same_router q r) (q ≡ r)
router q r = both_decide (same_router q r) (Decides-and _ _ (bytes_eq-Decides q.name r.name) (Decides-and _ _ (names q.attributes r.attributes)
    (Decides-and _ _ (Decides-eqb q.cost r.cost) (Decides-and _ _ (booleans_Decides q.through r.through) (booleans_Decides q.connected r.connected)))))
    (λ p i. record { name = p.0 i; attributes = p.1.0 i; cost = p.1.1.0 i; through = p.1.1.1.0 i; connected = p.1.1.1.1 i })
    (λ e. (
      ap (λ (x : Router). x.name) e,
      (
        ap (λ (x : Router). x.attributes) e,
        (
          ap (λ (x : Router). x.cost) e,
          (
            ap (λ (x : Router). x.through) e,
            ap (λ (x : Router). x.connected) e,
          ),
        ),
      ),
    ))

link : (k l : Link) → Decides (same_link k l) (k ≡ l)
link k l = both_decide (same_link k l) (Decides-and _ _ (bytes_eq-Decides k.name l.name) (Decides-and _ _ (Decides-eqb k.a l.a) (Decides-and _ _ (Decides-eqb k.b l.b)
    (Decides-and _ _ (Decides-eqb k.cost l.cost) (Decides-and _ _ (Decides-eqb k.latency_a l.latency_a)
    (Decides-and _ _ (Decides-eqb k.latency_b l.latency_b) (booleans_Decides k.up l.up)))))))
    (λ p i. record {
      name = p.0 i;
      a = p.1.0 i;
      b = p.1.1.0 i;
      cost = p.1.1.1.0 i;
      latency_a = p.1.1.1.1.0 i;
      latency_b = p.1.1.1.1.1.0 i;
      up = p.1.1.1.1.1.1 i;
    })
    (λ e. (
      ap (λ (x : Link). x.name) e,
      (
        ap (λ (x : Link). x.a) e,
        (
          ap (λ (x : Link). x.b) e,
          (
            ap (λ (x : Link). x.cost) e,
            (
              ap (λ (x : Link). x.latency_a) e,
              (
                ap (λ (x : Link). x.latency_b) e,
                ap (λ (x : Link). x.up) e,
              ),
            ),
          ),
        ),
      ),
    ))

policy : (p q : Policy) → Decides (same_policy p q) (p ≡ q)
policy p q = both_decide (same_policy p q) (Decides-and _ _ (bytes_eq-Decides p.name q.name) (Decides-and _ _ (relation p.relation q.relation)
    (Decides-and _ _ (semantic p.semantic q.semantic) (Decides-and _ _ (side p.left q.left) (side p.right q.right)))))
    (λ h i. record { name = h.0 i; relation = h.1.0 i; semantic = h.1.1.0 i; left = h.1.1.1.0 i; right = h.1.1.1.1 i })
    (λ e. (
      ap (λ (x : Policy). x.name) e,
      (
        ap (λ (x : Policy). x.relation) e,
        (
          ap (λ (x : Policy). x.semantic) e,
          (
            ap (λ (x : Policy). x.left) e,
            ap (λ (x : Policy). x.right) e,
          ),
        ),
      ),
    ))

terminator : (d e : Terminator) → Decides (same_terminator d e) (d ≡ e)
terminator d e = both_decide (same_terminator d e) (Decides-and _ _ (Decides-eqb d.service e.service) (Decides-and _ _ (Decides-eqb d.router e.router)
    (Decides-and _ _ (bytes_eq-Decides d.instance e.instance) (Decides-and _ _ (numbers_or_none d.host e.host)
    (Decides-and _ _ (Decides-eqb d.cost e.cost) (precedence d.precedence e.precedence))))))
    (λ p i. record {
      service = p.0 i;
      router = p.1.0 i;
      instance = p.1.1.0 i;
      host = p.1.1.1.0 i;
      cost = p.1.1.1.1.0 i;
      precedence = p.1.1.1.1.1 i;
    })
    (λ h. (
      ap (λ (x : Terminator). x.service) h,
      (
        ap (λ (x : Terminator). x.router) h,
        (
          ap (λ (x : Terminator). x.instance) h,
          (
            ap (λ (x : Terminator). x.host) h,
            (
              ap (λ (x : Terminator). x.cost) h,
              ap (λ (x : Terminator). x.precedence) h,
            ),
          ),
        ),
      ),
    ))

circuit : (c d : Circuit) → Decides (same_circuit c d) (c ≡ d)
circuit c d = both_decide (same_circuit c d) (Decides-and _ _ (Decides-eqb c.identity d.identity) (Decides-and _ _ (Decides-eqb c.service d.service)
    (Decides-and _ _ (Decides-eqb c.terminator d.terminator) (Decides-and _ _ (Decides-eqb c.ingress d.ingress) (bytes_eq-Decides c.links d.links)))))
    (λ p i. record { identity = p.0 i; service = p.1.0 i; terminator = p.1.1.0 i; ingress = p.1.1.1.0 i; links = p.1.1.1.1 i })
    (λ e. (
      ap (λ (x : Circuit). x.identity) e,
      (
        ap (λ (x : Circuit). x.service) e,
        (
          ap (λ (x : Circuit). x.terminator) e,
          (
            ap (λ (x : Circuit). x.ingress) e,
            ap (λ (x : Circuit). x.links) e,
          ),
        ),
      ),
    ))

intercept : (a b : Intercept) → Decides (same_intercept a b) (a ≡ b)
intercept a b = both_decide (same_intercept a b) (Decides-and _ _ (booleans_Decides a.tcp b.tcp) (Decides-and _ _ (booleans_Decides a.udp b.udp)
    (Decides-and _ _ (lists address a.addresses b.addresses) (lists port_range a.ports b.ports))))
    (λ p i. record { tcp = p.0 i; udp = p.1.0 i; addresses = p.1.1.0 i; ports = p.1.1.1 i })
    (λ e. (ap (λ (x : Intercept). x.tcp) e, (ap (λ (x : Intercept). x.udp) e, (ap (λ (x : Intercept). x.addresses) e, ap (λ (x : Intercept). x.ports) e))))

-- ---- tables and states

rows : {R : Type 0} {same : R → R → Bool} → ((q r : R) → Decides (same q r) (q ≡ r)) → (xs ys : List (ℕ × R)) → Decides (same_rows same xs ys) (xs ≡ ys)
rows {R = R} {same = same} each xs ys = lists row xs ys
  where
    row : (x y : ℕ × R) → Decides ((x.0 == y.0) && same x.1 y.1) (x ≡ y)
    row x y = both_decide ((x.0 == y.0) && same x.1 y.1) (Decides-and _ _ (Decides-eqb x.0 y.0) (each x.1 y.1)) (λ p i. (p.0 i, p.1 i)) (λ e. (ap (λ (z : ℕ × R). z.0) e, ap (λ (z : ℕ × R). z.1) e))

tables : {R : Type 0} {same : R → R → Bool} → ((q r : R) → Decides (same q r) (q ≡ r)) → (t u : Table R) → Decides (same_table same t u) (t ≡ u)
tables {R = R} {same = same} each t u = both_decide (same_table same t u) (Decides-and _ _ (rows each t.rows u.rows) (Decides-eqb t.next u.next))
    (λ p i. record { rows = p.0 i; next = p.1 i })
    (λ e. (ap (λ (x : Table R). x.rows) e, ap (λ (x : Table R). x.next) e))

pub same_state-Decides : (s t : State) → Decides (same_state s t) (s ≡ t)
same_state-Decides s t = both_decide (same_state s t) (Decides-and _ _ (tables entity s.identities t.identities) (Decides-and _ _ (tables entity s.services t.services)
    (Decides-and _ _ (tables router s.routers t.routers) (Decides-and _ _ (tables link s.links t.links)
    (Decides-and _ _ (tables policy s.service_policies t.service_policies) (Decides-and _ _ (tables policy s.edge_router_policies t.edge_router_policies)
    (Decides-and _ _ (tables policy s.service_edge_router_policies t.service_edge_router_policies)
    (Decides-and _ _ (tables terminator s.terminators t.terminators) (Decides-and _ _ (tables circuit s.circuits t.circuits)
    (Decides-and _ _ (Decides-eqb s.least_router_cost t.least_router_cost)
    (Decides-and _ _ (rows intercept s.intercepts t.intercepts) (Decides-eqb s.serial t.serial))))))))))))
    (λ p i. record {
      identities = p.0 i;
      services = p.1.0 i;
      routers = p.1.1.0 i;
      links = p.1.1.1.0 i;
      service_policies = p.1.1.1.1.0 i;
      edge_router_policies = p.1.1.1.1.1.0 i;
      service_edge_router_policies = p.1.1.1.1.1.1.0 i;
      terminators = p.1.1.1.1.1.1.1.0 i;
      circuits = p.1.1.1.1.1.1.1.1.0 i;
      least_router_cost = p.1.1.1.1.1.1.1.1.1.0 i;
      intercepts = p.1.1.1.1.1.1.1.1.1.1.0 i;
      serial = p.1.1.1.1.1.1.1.1.1.1.1 i;
    })
    (λ e. (
      ap (λ (u : State). u.identities) e,
      (
        ap (λ (u : State). u.services) e,
        (
          ap (λ (u : State). u.routers) e,
          (
            ap (λ (u : State). u.links) e,
            (
              ap (λ (u : State). u.service_policies) e,
              (
                ap (λ (u : State). u.edge_router_policies) e,
                (
                  ap (λ (u : State). u.service_edge_router_policies) e,
                  (
                    ap (λ (u : State). u.terminators) e,
                    (
                      ap (λ (u : State). u.circuits) e,
                      (
                        ap (λ (u : State). u.least_router_cost) e,
                        (
                          ap (λ (u : State). u.intercepts) e,
                          ap (λ (u : State). u.serial) e,
                        ),
                      ),
                    ),
                  ),
                ),
              ),
            ),
          ),
        ),
      ),
    ))
