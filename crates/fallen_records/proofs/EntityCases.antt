-- What settles after a change of the entities of a valid state.
use Rattle.std.proofs.Common.{◌≡◌, ℕ, ◌==◌, ◌||◌, Bool, true, false, not, cond, List, [], None, Some, inr, refl, sym, ◌∙◌, ap, eqb-true, eq-eqb, is_some}
use Rattle.std.proofs.lemmas.Bool.{false≢true, true≢false, or_cases}
use Rattle.std.proofs.lemmas.Option.{none-some}
use Rattle.std.specs.List.{filter}
use Rattle.std.specs.Option.{option_map_or}
use Rattle.ctrl_model.specs.declared.kinds.Kind.{Kind}
use Rattle.ctrl_model.specs.declared.kinds.Kind.TheVariants as kind
use Rattle.ctrl_model.specs.Numbered.{Table, at, is_present, numbers, edit_at, without, with_removed, with_edit}
use Rattle.ctrl_model.specs.Settling.{link_stays, terminator_stays}
use Rattle.ctrl_model.specs.State.{State, Entity, Router, Link, Policy, Terminator, Circuit}
use Rattle.ctrl_model.specs.ValidState.{ValidState}
use Rattle.ctrl_model.specs.Walks.{is_among}
use Rattle.ctrl_model.proofs.NumberedLaws.{at-edit_at-back}
use Rattle.model_laws.proofs.AbsentRecords.{at-without-none}
use Rattle.circuits.specs.LostCircuits.{names_entity, goes_over, needs}
use Rattle.fabric_graph.specs.LinkEnds.{is_at}
use Rattle.terminators.specs.NamedTerms.{stands_on}
use Rattle.fallen_records.proofs.EntitiesLeft.{Left, EndsHold, among_those, link_exactly, links_fall, no_link_falls, term_exactly, terms_fall, no_host}
use Rattle.fallen_records.proofs.FailingRows.{failing}
use Rattle.fallen_records.specs.FallenRecords.{Falls}
use Rattle.fallen_records.proofs.FallenCircuits.{circuits_fall}
use Rattle.fallen_records.proofs.HeldRows.{Held, no_number, one_number, held_same, held_edit, held_without, stood_same, present_held}
use Rattle.fallen_records.proofs.SettlingCases.{any, router_itself, link_itself, term_itself, ends_itself, links_between, terms_between, all_links, all_terms, nothing_falls, lost_by}
use Rattle.fallen_records.proofs.TurnedStates.{Any, RouterHolds, LinkHolds, TermHolds, Turns}

-- numbers that are one or none of two
or_false : (a b : Bool) → (a || b) ≡ false → (a ≡ false) × (b ≡ false)
or_false true b e = absurd (false≢true (sym e))
or_false false b e = (refl, e)

-- of the records of a table those of some numbers are gone
left_of : {R : Type 0} (P : R → R → Type 0) (gone : ℕ → Bool) (xs ys : List (ℕ × R)) → Held P gone xs ys → ((n : ℕ) → gone n ≡ true → at ys n ≡ None) → Left gone xs ys
left_of P gone xs ys held lost n p = by (gone n) refl
  where
    by : (b : Bool) → gone n ≡ b → is_present ys n ≡ not b
    by false is = present_held P gone xs ys held n is p
    by true is = ap is_some (lost n is)

-- the record of one number is gone
pub held_but : {R : Type 0} (P : R → R → Type 0) → ((r : R) → P r r) → (xs : List (ℕ × R)) (m : ℕ) → Held P (one_number m) xs (without xs m)
held_but P same xs m = held_without P same xs (one_number m) m (λ n g s. true≢false (sym (eq-eqb n m s) ∙ g))

pub gone_one : {R : Type 0} (xs : List (ℕ × R)) (m n : ℕ) → one_number m n ≡ true → at (without xs m) n ≡ None
gone_one xs m n e = ap (at (without xs m)) (eqb-true n m e) ∙ at-without-none xs m

module _ (s : State) (v : ValidState s) where
  -- entities come, and records of entities change, but no router is off and none is closed
  pub nobody_goes : (a b : Table Entity) (c : Table Router) → Held {R = Entity} Any no_number s.identities.rows a.rows → Held {R = Entity} Any no_number s.services.rows b.rows
      → Held {R = Router} Any no_number s.routers.rows c.rows → Held RouterHolds no_number s.routers.rows c.rows → Falls (record s { identities = a; services = b; routers = c }) [] [] []
  nobody_goes a b c held_a held_b held_c on =
      nothing_falls s (record s { identities = a; services = b; routers = c }) v
      (record { identities = held_a; services = held_b; routers = held_c; on = on; off_now = λ n r e. absurd (false≢true e) })
      (all_links s v) (all_terms s v) (λ x m. m)

  -- the numbers of the links at a router
  pub at_router : (r l : ℕ) (k : Link) → at s.links.rows l ≡ Some k → is_among l (numbers (filter (λ (x : ℕ × Link). is_at r x.1) s.links.rows)) ≡ is_at r k
  at_router r l k e = among_those (is_at r) s.links.next s.links.rows l k (links_between s v) e

  -- an entity goes
  module _ (k : Kind) (n : ℕ) (a b : Table Entity) (c : Table Router) (p q r : Table Policy) (identity service absent : ℕ → Bool)
      (held_a : Held {R = Entity} Any identity s.identities.rows a.rows) (lost_a : (m : ℕ) → identity m ≡ true → at a.rows m ≡ None)
      (held_b : Held {R = Entity} Any service s.services.rows b.rows) (lost_b : (m : ℕ) → service m ≡ true → at b.rows m ≡ None)
      (held_c : Held RouterHolds absent s.routers.rows c.rows) (lost_c : (m : ℕ) → absent m ≡ true → at c.rows m ≡ None)
      (stands : (e : Terminator) → stands_on k n e ≡ (service e.service || (absent e.router || option_map_or identity e.host false)))
      (names : (d : Circuit) → names_entity k n d ≡ (identity d.identity || (service d.service || absent d.ingress))) where
    abbrev then : State
    then = record s { identities = a; services = b; routers = c; service_policies = p; edge_router_policies = q; service_edge_router_policies = r }

    abbrev ends : List ℕ
    ends = numbers (filter (λ (x : ℕ × Terminator). stands_on k n x.1) s.terminators.rows)

    routers_left : Left absent s.routers.rows c.rows
    routers_left = left_of RouterHolds absent s.routers.rows c.rows held_c lost_c

    stays_unless : (m : ℕ) (e f : Terminator) → at s.terminators.rows m ≡ Some e → TermHolds e f → terminator_stays then (m, f) ≡ not (is_among m ends)
    stays_unless m e f is h =
        term_exactly s then v identity service absent (left_of {R = Entity} Any identity s.identities.rows a.rows held_a lost_a)
        (left_of {R = Entity} Any service s.services.rows b.rows held_b lost_b) routers_left m e f is h
        ∙ ap not (sym (stands e) ∙ sym (among_those (stands_on k n) s.terminators.next s.terminators.rows m e (terms_between s v) is))

    turns : (links : List ℕ) → ((l : ℕ) (j : Link) → at s.links.rows l ≡ Some j → is_among l links ≡ (absent j.a || absent j.b)) → Turns identity service absent links ends s then
    turns links named = record {
      identities_held = held_a;
      identities_lost = lost_a;
      services_held = held_b;
      services_lost = lost_b;
      routers_held = held_c;
      routers_lost = λ m x e is. absurd (none-some x (sym (lost_c m e) ∙ is));
      links_high = s.links.next;
      links_ordered = links_between s v;
      links_held = held_same LinkHolds link_itself s.links.rows (λ l. is_among l links);
      links_stay = λ l j i g e h. link_exactly s then v absent routers_left l j i e (h.0, h.1) ∙ ap not (sym (named l j e) ∙ g);
      links_on = λ l j g e. or_false (absent j.a) (absent j.b) (sym (named l j e) ∙ g);
      links_lost = λ l j g e. inr (or_cases (absent j.a) (absent j.b) (sym (named l j e) ∙ g));
      terms_high = s.terminators.next;
      terms_ordered = terms_between s v;
      terms_held = held_same TermHolds term_itself s.terminators.rows (λ m. is_among m ends);
      terms_stay = λ m e f g is h. stays_unless m e f is h ∙ ap not g;
      terms_lost = λ m e g is. stays_unless m e e is (refl, refl, refl) ∙ ap not g;
    }

    pub entity_gone : (links : List ℕ) → ((l : ℕ) (j : Link) → at s.links.rows l ≡ Some j → is_among l links ≡ (absent j.a || absent j.b))
        → links ≡ failing (link_stays then) s.links.rows
        → Falls then links ends (numbers (filter (λ (x : ℕ × Circuit). needs (Some (k, n)) links ends x.1) s.circuits.rows))
    entity_gone links named links_are = record {
      links_are = links_are;
      terms_are =
          sym (terms_fall s then v identity service absent (left_of {R = Entity} Any identity s.identities.rows a.rows held_a lost_a)
          (left_of {R = Entity} Any service s.services.rows b.rows held_b lost_b) routers_left refl s.terminators.next (terms_between s v) (stands_on k n) stands);
      circuits_are =
          circuits_fall s then v (λ x m. m) identity service absent links ends (turns links named) (Some (k, n))
          (λ d. ap (λ y. y || (goes_over links d || is_among d.terminator ends)) (names d) ∙ by (identity d.identity) (service d.service) (absent d.ingress) _);
    }
      where
        by : (x y z w : Bool) → ((x || (y || z)) || w) ≡ (x || (y || (z || w)))
        by true y z w = refl
        by false true z w = refl
        by false false z w = refl

    -- where it is a router, the links at it go
    pub links_gone : failing (link_stays then) s.links.rows ≡ numbers (filter (λ (x : ℕ × Link). absent x.1.a || absent x.1.b) s.links.rows)
    links_gone = links_fall s then v absent routers_left refl s.links.next (links_between s v)

right_false : (b x : Bool) → x ≡ false → b ≡ (b || x)
right_false true x e = refl
right_false false x e = sym e

module _ (s : State) (v : ValidState s) (p q r : Table Policy) (n : ℕ) where
  same_ids : Held {R = Entity} Any no_number s.identities.rows s.identities.rows
  same_ids = held_same {R = Entity} Any any s.identities.rows no_number

  same_services : Held {R = Entity} Any no_number s.services.rows s.services.rows
  same_services = held_same {R = Entity} Any any s.services.rows no_number

  same_routers : Held RouterHolds no_number s.routers.rows s.routers.rows
  same_routers = held_same RouterHolds router_itself s.routers.rows no_number

  nobody : {R : Type 0} (xs : List (ℕ × R)) (m : ℕ) → no_number m ≡ true → at xs m ≡ None
  nobody xs m e = absurd (false≢true e)

  all_there : Left no_number s.routers.rows s.routers.rows
  all_there = left_of RouterHolds no_number s.routers.rows s.routers.rows same_routers (nobody s.routers.rows)

  -- the terminators that stand on an entity
  abbrev pub ends_on : Kind → List ℕ
  ends_on k = numbers (filter (λ (x : ℕ × Terminator). stands_on k n x.1) s.terminators.rows)

  -- the circuits that need an entity, some links or these terminators
  abbrev pub circuits_on : Kind → List ℕ → List ℕ
  circuits_on k links = numbers (filter (λ (x : ℕ × Circuit). needs (Some (k, n)) links (ends_on k) x.1) s.circuits.rows)

  pub identity_gone : Falls (record s { identities = with_removed n s.identities; service_policies = p; edge_router_policies = q; service_edge_router_policies = r })
      [] (ends_on kind.Identity) (circuits_on kind.Identity [])
  identity_gone =
      entity_gone s v kind.Identity n (with_removed n s.identities) s.services s.routers p q r (one_number n) no_number no_number
      (held_but {R = Entity} Any any s.identities.rows n) (gone_one s.identities.rows n) same_services (nobody s.services.rows) same_routers (nobody s.routers.rows)
      (λ e. refl) (λ d. right_false (d.identity == n) false refl) [] (λ l j e. refl)
      (sym (no_link_falls s (record s { identities = with_removed n s.identities }) v all_there s.links.next (links_between s v) (stood_same EndsHold ends_itself s.links.rows)))

  pub service_gone : Falls (record s { services = with_removed n s.services; service_policies = p; edge_router_policies = q; service_edge_router_policies = r })
      [] (ends_on kind.Service) (circuits_on kind.Service [])
  service_gone =
      entity_gone s v kind.Service n s.identities (with_removed n s.services) s.routers p q r no_number (one_number n) no_number
      same_ids (nobody s.identities.rows) (held_but {R = Entity} Any any s.services.rows n) (gone_one s.services.rows n) same_routers (nobody s.routers.rows)
      (λ e. right_false (e.service == n) (option_map_or no_number e.host false) (no_host e.host)) (λ d. right_false (d.service == n) false refl) [] (λ l j e. refl)
      (sym (no_link_falls s (record s { services = with_removed n s.services }) v all_there s.links.next (links_between s v) (stood_same EndsHold ends_itself s.links.rows)))

  -- the links at a router
  abbrev pub links_at : List ℕ
  links_at = numbers (filter (λ (x : ℕ × Link). is_at n x.1) s.links.rows)

  pub router_gone : Falls (record s { routers = with_removed n s.routers; service_policies = p; edge_router_policies = q; service_edge_router_policies = r })
      links_at (ends_on kind.Router) (circuits_on kind.Router links_at)
  router_gone =
      entity_gone s v kind.Router n s.identities s.services (with_removed n s.routers) p q r no_number no_number (one_number n)
      same_ids (nobody s.identities.rows) same_services (nobody s.services.rows) (held_but RouterHolds router_itself s.routers.rows n) (gone_one s.routers.rows n)
      (λ e. right_false (e.router == n) (option_map_or no_number e.host false) (no_host e.host)) (λ d. refl) links_at (at_router s v n)
      (sym (links_gone s v kind.Router n s.identities s.services (with_removed n s.routers) p q r no_number no_number (one_number n)
      same_ids (nobody s.identities.rows) same_services (nobody s.services.rows) (held_but RouterHolds router_itself s.routers.rows n) (gone_one s.routers.rows n)
      (λ e. right_false (e.router == n) (option_map_or no_number e.host false) (no_host e.host)) (λ d. refl)))

-- ---- a router that is not connected any more

module _ (s : State) (v : ValidState s) (n : ℕ) (f : Router → Router) (off_then : (x : Router) → (f x).connected ≡ false) where
  pub router_off : Falls (record s { routers = with_edit n f s.routers }) []
      [] (numbers (filter (λ (x : ℕ × Circuit). needs (Some (kind.Router, n)) (numbers (filter (λ (y : ℕ × Link). is_at n y.1) s.links.rows)) [] x.1) s.circuits.rows))
  router_off =
      lost_by s (record s { routers = with_edit n f s.routers }) v (one_number n)
      (record {
        identities = held_same {R = Entity} Any any s.identities.rows no_number;
        services = held_same {R = Entity} Any any s.services.rows no_number;
        routers = held_edit {R = Router} Any any s.routers.rows no_number n f (λ x is g. tt);
        on = held_edit RouterHolds router_itself s.routers.rows (one_number n) n f (λ x is g. absurd (true≢false (sym (eq-eqb n n refl) ∙ g)));
        off_now = off_at;
      })
      (numbers (filter (λ (y : ℕ × Link). is_at n y.1) s.links.rows)) []
      (record {
        high = s.links.next;
        ordered = links_between s v;
        held = held_same LinkHolds link_itself s.links.rows (λ l. is_among l (numbers (filter (λ (y : ℕ × Link). is_at n y.1) s.links.rows)));
        stood = stood_same EndsHold ends_itself s.links.rows;
        on = λ l k g e. or_false (k.a == n) (k.b == n) (sym (at_router s v n l k e) ∙ g);
        lost = λ l k g e. inr (or_cases (k.a == n) (k.b == n) (sym (at_router s v n l k e) ∙ g));
      })
      (all_terms s v) (λ x m. m) (Some (kind.Router, n)) (λ c. refl)
    where
      off_at : (m : ℕ) (x : Router) → one_number n m ≡ true → at (edit_at s.routers.rows n f) m ≡ Some x → x.connected ≡ false
      off_at m x e is =
          let back = at-edit_at-back s.routers.rows n m f x is in
          ap (λ (y : Router). y.connected) (sym back.2 ∙ ap (λ b. cond b (f back.0) back.0) e) ∙ off_then back.0
