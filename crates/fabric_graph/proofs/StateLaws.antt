-- The routers of a valid state are places of a graph.
use Rattle.std.proofs.Common.{◌≡◌, ℕ, ◌+◌, ◌==◌, true, not, ◌&&◌, List, [], ◌∷◌, map, refl, arith}
use Rattle.std.proofs.lemmas.Bool.{and_parts, and_from}
use Rattle.std.proofs.lemmas.List.{length-map}
use Rattle.std.specs.List.{list_all}
use Rattle.ctrl_model.specs.declared.kinds.Kind.TheVariants as kind
use Rattle.ctrl_model.specs.declared.kinds.RouterSeen.{RouterSeen}
use Rattle.ctrl_model.specs.ValueForms.{is_cost, are_attributes}
use Rattle.ctrl_model.specs.NameForm.{is_name}
use Rattle.ctrl_model.specs.Limits.{most_cost}
use Rattle.ctrl_model.specs.Networks.{seen}
use Rattle.ctrl_model.specs.Numbered.{Between}
use Rattle.ctrl_model.specs.State.{State, Router, Link}
use Rattle.ctrl_model.specs.ValidState.{ValidState, is_valid_router, is_valid_link, each_passes}
use Rattle.ctrl_model.proofs.NumberedLaws.{Between-more}
use Rattle.ctrl_model.proofs.TableLaws.{each_passes-more}
use Rattle.ctrl_model.proofs.Tests.{in_bounds}
use Rattle.fabric_graph.specs.FabricRules.{KeepsLinks, has_costs, is_fit}
use Rattle.fabric_graph.specs.Routers.{AreRouters, HaveGraph, numbered, fabric_of}

seen_ordered : (high : ℕ) (rows : List (ℕ × Router)) (low : ℕ) → Between low high rows → Between low high (map numbered (map seen rows))
seen_ordered high [] low b = tt
seen_ordered high (x ∷ rows) low b = (b.0, b.1, seen_ordered high rows (x.0 + 1) b.2)

seen_costs : (rows : List (ℕ × Router)) → each_passes is_valid_router rows ≡ true → list_all (λ (r : RouterSeen). is_cost r.cost) (map seen rows) ≡ true
seen_costs [] e = refl
seen_costs (x ∷ rows) e =
    let parts = and_parts (is_valid_router x.1) (each_passes is_valid_router rows) e in
    let router = and_parts (is_name x.1.name) (are_attributes x.1.attributes && is_cost x.1.cost) parts.0 in
    and_from (is_cost x.1.cost) (list_all (λ (r : RouterSeen). is_cost r.cost) (map seen rows))
    (and_parts (are_attributes x.1.attributes) (is_cost x.1.cost) router.1).1 (seen_costs rows parts.1)

-- a valid link joins two routers, at costs in their ranges
valid_fit : (l : Link) → is_valid_link l ≡ true → is_fit l ≡ true
valid_fit l e = (and_parts (is_name l.name) (is_fit l) e).1

valid_costs : (l : Link) → is_valid_link l ≡ true → has_costs l ≡ true
valid_costs l e = (and_parts (not (l.a == l.b)) (has_costs l) (valid_fit l e)).1

pub keeps_links : (s : State) → ValidState s → KeepsLinks (fabric_of s)
keeps_links s v =
    let numbers = (v.kinds kind.Link).numbers in
    record {
      first = numbers.first;
      last = numbers.last;
      ordered = numbers.ordered;
      few = numbers.few;
      fit = each_passes-more is_valid_link is_fit valid_fit s.links.rows (v.kinds kind.Link).each;
      costs = each_passes-more is_valid_link has_costs valid_costs s.links.rows (v.kinds kind.Link).each;
      setting = v.setting;
    }

pub have_graph : (s : State) → ValidState s → HaveGraph (fabric_of s)
have_graph s v = let k = keeps_links s v in record { fit = k.fit; least = (in_bounds 1 most_cost s.least_router_cost k.setting).1 }

pub are_routers : (s : State) → ValidState s → AreRouters (map seen s.routers.rows)
are_routers s v =
    let numbers = (v.kinds kind.Router).numbers in
    record {
      few = rw (length-map {B = RouterSeen} s.routers.rows seen) numbers.few;
      ordered = Between-more s.routers.next (map numbered (map seen s.routers.rows)) 1 0 4294967296 (omega arith) (let last = numbers.last in omega arith)
          (seen_ordered s.routers.next s.routers.rows 1 numbers.ordered);
      costs = seen_costs s.routers.rows (v.kinds kind.Router).each;
    }
