-- Which attributes are in use: how often each name stands among them, and when a change has room.
use Rattle.std.proofs.Common.{◌≡◌, ℕ, ◌+◌, true, false, not, List, ◌++◌, ◌∙◌, ap, arith}
use Rattle.std.specs.List.{flat_map}
use Rattle.ctrl_model.specs.State.{State, Entity, Router, Policy}
use Rattle.ctrl_model.specs.Rules.{side_attributes, attributes_in_use, attributes_full}
use Rattle.entity_store.specs.EntityTables.{Tables}
use Rattle.entity_store.specs.AttributeUses.{times, uses, entity_attributes, has_attribute_room}
use Rattle.entity_store.specs.HeldUses.{with_entities, policy_attributes, HoldsPolicies}
use Rattle.entity_store.proofs.UseLaws.{times-append}
use Rattle.entity_store.proofs.RoomLaws.{room_by_uses}

-- ---- the parts of the attributes in use

-- how often a name stands among the attributes of some entities, some routers, some policies
abbrev pub entity_times : List ℕ → List (ℕ × Entity) → ℕ
entity_times x rows = times x (flat_map (λ row. row.1.attributes) rows)

abbrev pub router_times : List ℕ → List (ℕ × Router) → ℕ
router_times x rows = times x (flat_map (λ row. row.1.attributes) rows)

abbrev pub policy_times : List ℕ → List (ℕ × Policy) → ℕ
policy_times x rows = times x (flat_map side_attributes rows)

-- the attributes of the two sides of a policy
abbrev pub names_of : Policy → List (List ℕ)
names_of p = p.left.attributes ++ p.right.attributes

six : (x : List ℕ) (a b c d e f : List (List ℕ)) → times x (a ++ (b ++ (c ++ (d ++ (e ++ f))))) ≡ times x a + (times x b + (times x c + (times x d + (times x e + times x f))))
six x a b c d e f =
    let one = times-append x a (b ++ (c ++ (d ++ (e ++ f)))) in let two = times-append x b (c ++ (d ++ (e ++ f))) in
    let three = times-append x c (d ++ (e ++ f)) in let four = times-append x d (e ++ f) in let five = times-append x e f in
    omega (arith, one, two, three, four, five)

three : (x : List ℕ) (a b c : List (List ℕ)) → times x (a ++ (b ++ c)) ≡ times x a + (times x b + times x c)
three x a b c = let one = times-append x a (b ++ c) in let two = times-append x b c in omega (arith, one, two)

pub in_use-parts : (x : List ℕ) (s : State) → times x (attributes_in_use s)
    ≡ entity_times x s.identities.rows + (entity_times x s.services.rows + (router_times x s.routers.rows
    + (policy_times x s.service_policies.rows + (policy_times x s.edge_router_policies.rows + policy_times x s.service_edge_router_policies.rows))))
in_use-parts x s = six x (flat_map (λ row. row.1.attributes) s.identities.rows) (flat_map (λ row. row.1.attributes) s.services.rows) (flat_map (λ row. row.1.attributes) s.routers.rows)
    (flat_map side_attributes s.service_policies.rows) (flat_map side_attributes s.edge_router_policies.rows) (flat_map side_attributes s.service_edge_router_policies.rows)

pub in_use-split : (x : List ℕ) (t : Tables) (s : State) → times x (attributes_in_use (with_entities t s)) ≡ times x (entity_attributes t) + times x (policy_attributes s)
in_use-split x t s =
    let all = in_use-parts x (with_entities t s) in
    let here = three x (flat_map (λ row. row.1.attributes) t.identities.rows) (flat_map (λ row. row.1.attributes) t.services.rows) (flat_map (λ row. row.1.attributes) t.routers.rows) in
    let there = three x (flat_map side_attributes s.service_policies.rows) (flat_map side_attributes s.edge_router_policies.rows) (flat_map side_attributes s.service_edge_router_policies.rows) in
    omega (arith, all, here, there)

-- each attribute has as many uses as it stands among those in use
pub uses_in_state : (t : Tables) (s : State) → HoldsPolicies t s → (x : List ℕ) → uses x t ≡ times x (attributes_in_use (with_entities t s))
uses_in_state t s held x = let split = in_use-split x t s in let these = held x in omega (arith, split, these)

-- ---- room for a change

-- there is room for uses that come and go exactly where the state after the change does not use too many
pub room_in_state : (t : Tables) (s : State) (gone fresh : List (List ℕ)) (after : State) → HoldsPolicies t s
    → ((x : List ℕ) → times x (attributes_in_use after) + times x gone ≡ times x (attributes_in_use (with_entities t s)) + times x fresh)
    → has_attribute_room t gone fresh ≡ not (attributes_full after)
room_in_state t s gone fresh after held balance = room_by_uses t gone fresh (attributes_in_use after) (λ x.
    let these = uses_in_state t s held x in let all = balance x in omega (arith, these, all))

pub has_room_in_state : (t : Tables) (s : State) (gone fresh : List (List ℕ)) (after : State) → HoldsPolicies t s
    → ((x : List ℕ) → times x (attributes_in_use after) + times x gone ≡ times x (attributes_in_use (with_entities t s)) + times x fresh)
    → attributes_full after ≡ false → has_attribute_room t gone fresh ≡ true
has_room_in_state t s gone fresh after held balance few = room_in_state t s gone fresh after held balance ∙ ap not few
