-- Whether two states are the same, by a test of each part (docs/RULES.md, "Records and numbers").
use Rattle.std.specs.Prelude.{ℕ, ◌==◌, Bool, true, false, ◌&&◌, List, bytes_eq}
use Rattle.std.specs.Bool.{beq}
use Rattle.std.specs.Cmp.Lexicographic.{pointwise}
use Rattle.std.specs.Option.{option_eq}
use Rattle.ctrl_model.specs.declared.kinds.Semantic.{Semantic}
use Rattle.ctrl_model.specs.declared.kinds.Semantic.TheVariants.{AnyOf, AllOf}
use Rattle.ctrl_model.specs.declared.kinds.Side.{Side}
use Rattle.ctrl_model.specs.declared.intercepts.Intercept.{Intercept}
use Rattle.ctrl_model.specs.AddressForm.{same_address}
use Rattle.ctrl_model.specs.InterceptForm.{same_ports}
use Rattle.ctrl_model.specs.Numbered.{Table}
use Rattle.ctrl_model.specs.State.{State, Entity, Router, Link, Policy, Terminator, Circuit}
use Rattle.ctrl_model.specs.Grants.{same_relation}
use Rattle.ctrl_model.specs.Choices.{place_of}

-- Whether two lists of names are the same.
abbrev pub same_names : List (List ℕ) → List (List ℕ) → Bool
same_names xs ys = pointwise bytes_eq xs ys

-- Whether two semantics are.
abbrev pub same_semantic : Semantic → Semantic → Bool
same_semantic AnyOf AnyOf = true
same_semantic AnyOf AllOf = false
same_semantic AllOf AnyOf = false
same_semantic AllOf AllOf = true

-- Whether two sides are.
abbrev pub same_side : Side → Side → Bool
same_side a b = beq a.all b.all && (same_names a.ids b.ids && same_names a.attributes b.attributes)

-- Whether two identities or two services are.
abbrev pub same_entity : Entity → Entity → Bool
same_entity e f = bytes_eq e.name f.name && same_names e.attributes f.attributes

-- Whether two routers are.
abbrev pub same_router : Router → Router → Bool
same_router q r =
    bytes_eq q.name r.name
    && (same_names q.attributes r.attributes && ((q.cost == r.cost) && (beq q.through r.through && beq q.connected r.connected)))

-- Whether two links are.
abbrev pub same_link : Link → Link → Bool
same_link k l =
    bytes_eq k.name l.name
    && ((k.a == l.a) && ((k.b == l.b) && ((k.cost == l.cost) && ((k.latency_a == l.latency_a) && ((k.latency_b == l.latency_b) && beq k.up l.up)))))

-- Whether two policies are.
abbrev pub same_policy : Policy → Policy → Bool
same_policy p q =
    bytes_eq p.name q.name
    && (same_relation p.relation q.relation && (same_semantic p.semantic q.semantic && (same_side p.left q.left && same_side p.right q.right)))

-- Whether two terminators are.
abbrev pub same_terminator : Terminator → Terminator → Bool
same_terminator d e =
    (d.service == e.service)
    && ((d.router == e.router)
    && (bytes_eq d.instance e.instance
    && (option_eq (λ m n. m == n) d.host e.host && ((d.cost == e.cost) && (place_of d.precedence == place_of e.precedence)))))

-- Whether two circuits are.
abbrev pub same_circuit : Circuit → Circuit → Bool
same_circuit c d =
    (c.identity == d.identity)
    && ((c.service == d.service) && ((c.terminator == d.terminator) && ((c.ingress == d.ingress) && bytes_eq c.links d.links)))

-- Whether two intercepts are.
abbrev pub same_intercept : Intercept → Intercept → Bool
same_intercept i j =
    beq i.tcp j.tcp && (beq i.udp j.udp && (pointwise same_address i.addresses j.addresses && pointwise same_ports i.ports j.ports))

-- Whether two lists of numbered records are, by a test of records.
abbrev pub same_rows : {R : Type 0} → (R → R → Bool) → List (ℕ × R) → List (ℕ × R) → Bool
same_rows same xs ys = pointwise (λ x y. (x.0 == y.0) && same x.1 y.1) xs ys

-- Whether two tables are.
abbrev pub same_table : {R : Type 0} → (R → R → Bool) → Table R → Table R → Bool
same_table same t u = same_rows same t.rows u.rows && (t.next == u.next)

-- Whether two states are the same.
abbrev pub same_state : State → State → Bool
same_state s t =
    same_table same_entity s.identities t.identities
    && (same_table same_entity s.services t.services
    && (same_table same_router s.routers t.routers
    && (same_table same_link s.links t.links
    && (same_table same_policy s.service_policies t.service_policies
    && (same_table same_policy s.edge_router_policies t.edge_router_policies
    && (same_table same_policy s.service_edge_router_policies t.service_edge_router_policies
    && (same_table same_terminator s.terminators t.terminators
    && (same_table same_circuit s.circuits t.circuits
    && ((s.least_router_cost == t.least_router_cost)
    && (same_rows same_intercept s.intercepts t.intercepts && (s.serial == t.serial)))))))))))
