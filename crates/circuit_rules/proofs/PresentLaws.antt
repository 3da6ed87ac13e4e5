-- What a circuit names is present: of a circuit that stands its identity, its service and its ingress, and the ingress of the best
-- candidate.
use Rattle.std.proofs.Common.{◌≡◌, ℕ, Bool, true, false, ◌&&◌, List, [], ◌∷◌, map, Option, None, Some, Ok, refl, sym, ◌∙◌, ap, subst}
use Rattle.std.proofs.lemmas.Bool.{and_parts, false≢true}
use Rattle.std.specs.Option.{option_map, option_map_or, ok_or}
use Rattle.std.specs.Result.{result_ok}
use Rattle.ctrl_model.specs.declared.kinds.Kind.TheVariants as kind
use Rattle.ctrl_model.specs.declared.kinds.RouterSeen.{RouterSeen}
use Rattle.ctrl_model.specs.Choices.{Ask, Candidate, best}
use Rattle.ctrl_model.specs.Membership.{Among}
use Rattle.ctrl_model.specs.Networks.{Network, network_of, seen, is_on, hops}
use Rattle.ctrl_model.specs.Numbered.{at, is_present, map_each, numbers}
use Rattle.ctrl_model.specs.Settling.{settle_links, settle_terminators, stays_in, circuit_reaches, rerouted}
use Rattle.ctrl_model.specs.State.{State, Entity, Router, Terminator, Circuit, as_entity}
use Rattle.ctrl_model.specs.ValidState.{ValidState}
use Rattle.ctrl_model.specs.Walks.{is_among, goes}
use Rattle.model_laws.proofs.CandidateLaws.{best-is}
use Rattle.model_laws.proofs.ConnectedRouters.{on_present}
use Rattle.ctrl_model.proofs.Members.{Among-map, by_map, is_among-from}
use Rattle.ctrl_model.proofs.NumberedLaws.{among_present, at-map, at-filter-back, Between-map_each}
use Rattle.entity_store.specs.EntityTables.{Tables}
use Rattle.circuit_rules.specs.declared.circuit_parts.Parts.{Parts}
use Rattle.circuit_rules.specs.PlannedCircuits.{name_at, router_at, network_in}

-- ---- routers

-- a router that is seen is present
seen_present : (rows : List (ℕ × Router)) (r : RouterSeen) → Among r (map seen rows) → is_present rows r.no.0 ≡ true
seen_present rows r m =
    by_map seen rows r m (λ y n e.
    subst (λ k. is_present rows k ≡ true) (ap (λ (q : RouterSeen). q.no.0) e)
    (sym (among_present rows y.0) ∙ is_among-from y.0 (numbers rows) (Among-map (λ (x : ℕ × Router). x.0) rows y n)))

-- the name of a router is that of the router as an entity
pub router_named_so : (n : ℕ) (t : Tables) → name_at kind.Router n t ≡ router_at n t
router_named_so n t = ap (λ o. option_map_or (λ (e : Entity). e.name) o []) (at-map (λ row. as_entity row.1) t.routers.rows n) ∙ by (at t.routers.rows n)
  where
    by : (o : Option Router) → option_map_or (λ (e : Entity). e.name) (option_map as_entity o) [] ≡ option_map_or (λ (r : Router). r.name) o []
    by None = refl
    by (Some r) = refl

-- ---- candidates and circuits

pub ingress_present : (p : Parts) (ask : Ask) (c : Candidate) → best (network_in p) ask ≡ Some c → is_present p.entities.now.routers.rows c.ingress ≡ true
ingress_present p ask c e =
    let k = ((best-is (network_in p) ask c).0 e).is_candidate in
    subst (λ n. is_present p.entities.now.routers.rows n ≡ true) (ap (λ (d : Candidate). d.ingress) k.told) (seen_present p.entities.now.routers.rows k.router k.enters.present)

-- what a circuit names is present
pub record Stands (s : State) (c : Circuit) : Type 0 where
  pub identity : is_present s.identities.rows c.identity ≡ true
  pub service : is_present s.services.rows c.service ≡ true
  pub ingress : is_present s.routers.rows c.ingress ≡ true

-- the ingress of a circuit that reaches its terminator is connected
reaches_on : (w : Network) (c : Circuit) (o : Option Terminator) → option_map_or (circuit_reaches w c) o false ≡ true → is_on w c.ingress ≡ true
reaches_on w c None h = absurd (false≢true h)
reaches_on w c (Some e) h =
    (and_parts (is_on w c.ingress) (is_on w e.router) (and_parts (is_on w c.ingress && is_on w e.router) (goes (hops w e.router) e.router (c.ingress ∷ []) c.ingress c.links) h).0).0

pub stands : (s : State) (n : ℕ) (c : Circuit) → ValidState s → at s.circuits.rows n ≡ Some c → Stands s c
stands s n c valid e =
    let t : State = settle_terminators (settle_links s) in
    let reaches : Bool = option_map_or (circuit_reaches (network_of t) c) (at t.terminators.rows c.terminator) false in
    let passes = (at-filter-back (stays_in t) s.circuits.next (map_each (rerouted (network_of t)) s.circuits.rows) 1 n c
    (Between-map_each (rerouted (network_of t)) s.circuits.next s.circuits.rows 1 (valid.kinds kind.Circuit).numbers.ordered) (ap (λ (u : State). at u.circuits.rows n) valid.repaired ∙ e)).1 in
    let parts = and_parts (is_among c.identity (numbers s.identities.rows)) (is_among c.service (numbers s.services.rows) && reaches) passes in
    let rest = and_parts (is_among c.service (numbers s.services.rows)) reaches parts.1 in
    record {
      identity = sym (among_present s.identities.rows c.identity) ∙ parts.0;
      service = sym (among_present s.services.rows c.service) ∙ rest.0;
      ingress = on_present s.routers.rows c.ingress (reaches_on (network_of t) c (at t.terminators.rows c.terminator) rest.1);
    }

-- what a look-up finds is there
pub found_so : {T E : Type 0} (o : Option T) (x : T) (e : E) → Ok x ≡ ok_or o e → o ≡ Some x
found_so None x e h = absurd (cc)
found_so (Some y) x e h = ap result_ok (sym h)
