-- What settles where a router of a valid state may not be passed through any more.
use Rattle.std.proofs.Common.{◌≡◌, ◌≢◌, ℕ, ◌+◌, ◌==◌, ◌||◌, ◌&&◌, Bool, true, false, cond, List, [], Option, None, Some, ◌⊎◌, refl, sym, ◌∙◌, ap, subst, eqb-true, eq-eqb, ne_eqb, ⊎_elim}
use Rattle.std.proofs.lemmas.Bool.{false≢true, or_cases, or_left, or_right, and_parts, and_from, cases_eq}
use Rattle.std.proofs.lemmas.Option.{none-some, same_Some}
use Rattle.std.specs.List.{filter}
use Rattle.std.specs.Option.{option_map, option_map_or}
use Rattle.ctrl_model.specs.declared.kinds.Kind.TheVariants as kind
use Rattle.ctrl_model.specs.declared.kinds.RouterSeen.{RouterSeen}
use Rattle.ctrl_model.specs.Networks.{Network, network_of, seen, is_on, is_usable, router_at, other_end, link_cost, entry_cost, hops}
use Rattle.ctrl_model.specs.Numbered.{at, numbers, edit_at, with_edit}
use Rattle.ctrl_model.specs.Settling.{link_stays, terminator_stays, settle_links, settle_terminators}
use Rattle.ctrl_model.specs.State.{State, Entity, Router, Link, Terminator, Circuit}
use Rattle.ctrl_model.specs.ValidState.{ValidState}
use Rattle.ctrl_model.specs.Walks.{is_among}
use Rattle.ctrl_model.proofs.NumberedLaws.{at-edit_at, at-filter-back}
use Rattle.model_laws.proofs.PathLaws.{by_hops, hops_from}
use Rattle.circuits.specs.LostCircuits.{passes_through}
use Rattle.fabric_graph.specs.LinkEnds.{is_at}
use Rattle.terminators.specs.NamedTerms.{stands_on}
use Rattle.fallen_records.proofs.ClosedLaws.{Closes}
use Rattle.fallen_records.proofs.EntitiesLeft.{Left, left_held, among_those, link_still, no_link_falls, term_still, no_term_falls}
use Rattle.fallen_records.proofs.EntityCases.{at_router}
use Rattle.fallen_records.proofs.FailingRows.{at-passes}
use Rattle.fallen_records.specs.FallenRecords.{Falls}
use Rattle.fallen_records.proofs.FallenCircuits.{circuits_stop}
use Rattle.fallen_records.proofs.HeldHops.{by_end}
use Rattle.fallen_records.proofs.HeldRows.{no_number, held_same, held_edit, stood_same}
use Rattle.fallen_records.proofs.SettlingCases.{any, ends_itself, term_itself, links_between, terms_between}
use Rattle.fallen_records.proofs.TurnedStates.{Any, TermHolds, find-seen, on_by}
use Rattle.fallen_records.proofs.EntitiesLeft.{EndsHold}

-- a link with an end there leads there from elsewhere
leads_there : (r v x : ℕ) (k : Link) → is_at r k ≡ true → v ≢ r → other_end v k ≡ Some x → x ≡ r
leads_there r v x k there ne e = by (k.a == v) (k.b == v) refl refl e
  where
    other : (m n : ℕ) → (m ≡ v) → ((m == r) || (n == r)) ≡ true → n ≡ r
    other m n same one = ⊎_elim (λ s. absurd (ne (sym same ∙ eqb-true m r s))) (λ s. eqb-true n r s) (or_cases (m == r) (n == r) one)

    turned : ((k.b == r) || (k.a == r)) ≡ true
    turned = ⊎_elim (λ s. or_right (k.b == r) (k.a == r) s) (λ s. or_left (k.b == r) (k.a == r) s) (or_cases (k.a == r) (k.b == r) there)

    by : (c d : Bool) → (k.a == v) ≡ c → (k.b == v) ≡ d → cond c (Some k.b) (cond d (Some k.a) None) ≡ Some x → x ≡ r
    by true d p q f = sym (same_Some k.b x f) ∙ other k.a k.b (eqb-true k.a v p) there
    by false true p q f = sym (same_Some k.a x f) ∙ other k.b k.a (eqb-true k.b v q) turned
    by false false p q f = absurd (none-some x f)

module _ (s : State) (v : ValidState s) (r : ℕ) (f : Router → Router) (on_still : (x : Router) → at s.routers.rows r ≡ Some x → x.connected ≡ true → (f x).connected ≡ true)
    (closed : (x : Router) → (f x).through ≡ false) where
  abbrev then : State
  then = record s { routers = with_edit r f s.routers }

  abbrev u : State
  u = settle_terminators (settle_links then)

  abbrev pub links_there : List ℕ
  links_there = numbers (filter (λ (x : ℕ × Link). is_at r x.1) s.links.rows)

  abbrev pub ends_there : List ℕ
  ends_there = numbers (filter (λ (x : ℕ × Terminator). stands_on kind.Router r x.1) s.terminators.rows)

  routers_there : Left no_number s.routers.rows (edit_at s.routers.rows r f)
  routers_there = left_held {R = Router} Any s.routers.rows (edit_at s.routers.rows r f) (held_edit {R = Router} Any any s.routers.rows no_number r f (λ x is g. tt))

  ids_there : Left no_number s.identities.rows s.identities.rows
  ids_there = left_held {R = Entity} Any s.identities.rows s.identities.rows (held_same {R = Entity} Any any s.identities.rows no_number)

  services_there : Left no_number s.services.rows s.services.rows
  services_there = left_held {R = Entity} Any s.services.rows s.services.rows (held_same {R = Entity} Any any s.services.rows no_number)

  -- a router that is on stays so
  on_then : (n : ℕ) → is_on (network_of s) n ≡ true → is_on (network_of u) n ≡ true
  on_then n e = on_by u n ∙ ap (λ o. option_map_or (λ (x : Router). x.connected) o false) (at-edit_at s.routers.rows r n f) ∙ by (at s.routers.rows n) refl (sym (on_by s n) ∙ e)
    where
      either : (x : Router) (b : Bool) → at s.routers.rows n ≡ Some x → (n == r) ≡ b → x.connected ≡ true → (cond b (f x) x).connected ≡ true
      either x true is same c = on_still x (ap (at s.routers.rows) (sym (eqb-true n r same)) ∙ is) c
      either x false is same c = c

      by : (o : Option Router) → at s.routers.rows n ≡ o → option_map_or (λ (x : Router). x.connected) o false ≡ true
          → option_map_or (λ (x : Router). x.connected) (option_map (λ x. cond (n == r) (f x) x) o) false ≡ true
      by None is c = absurd (false≢true c)
      by (Some x) is c = either x (n == r) is refl c

  -- a router that is found still is; it may be passed through if it could and is another
  found_then : (n : ℕ) (q : RouterSeen) → router_at (network_of s) n ≡ Some q → (p : RouterSeen) × (router_at (network_of u) n ≡ Some p) × (n ≢ r → p.through ≡ q.through)
  found_then n q e = by (at s.routers.rows n) refl (sym (find-seen s.routers.rows n) ∙ e)
    where
      by : (o : Option Router) → at s.routers.rows n ≡ o → option_map (λ x. seen (n, x)) o ≡ Some q
          → (p : RouterSeen) × (router_at (network_of u) n ≡ Some p) × (n ≢ r → p.through ≡ q.through)
      by None is g = absurd (none-some q g)
      by (Some x) is g = (
        seen (n, cond (n == r) (f x) x),
        find-seen (edit_at s.routers.rows r f) n ∙ ap (option_map (λ y. seen (n, y))) (at-edit_at s.routers.rows r n f ∙ ap (option_map (λ y. cond (n == r) (f y) y)) is),
        λ ne. ap (λ b. (cond b (f x) x).through) (ne_eqb n r ne) ∙ ap (λ (y : RouterSeen). y.through) (same_Some (seen (n, x)) q g),
      )

  shut : (q : RouterSeen) → router_at (network_of u) r ≡ Some q → q.through ≡ false
  shut q e = by (at s.routers.rows r) refl (sym (find-seen (edit_at s.routers.rows r f) r ∙ ap (option_map (λ y. seen (r, y))) (at-edit_at s.routers.rows r r f)) ∙ e)
    where
      by : (o : Option Router) → at s.routers.rows r ≡ o → option_map (λ y. seen (r, y)) (option_map (λ y. cond (r == r) (f y) y) o) ≡ Some q → q.through ≡ false
      by None is g = absurd (none-some q g)
      by (Some x) is g =
          ap (λ (y : RouterSeen). y.through) (sym (same_Some (seen (r, cond (r == r) (f x) x)) q g)) ∙ ap (λ b. (cond b (f x) x).through) (eq-eqb r r refl) ∙ closed x

  link_then : (l : ℕ) (k : Link) → at s.links.rows l ≡ Some k → at u.links.rows l ≡ Some k
  link_then l k e = at-passes (link_stays then) s.links.rows s.links.next l k (links_between s v) e (link_still s then v routers_there l k k e (refl, refl))

  link_before : (l : ℕ) (k : Link) → at u.links.rows l ≡ Some k → at s.links.rows l ≡ Some k
  link_before l k e = (at-filter-back (link_stays then) s.links.next s.links.rows 1 l k (links_between s v) e).0

  holds : (t n l : ℕ) (h : ℕ × ℕ) → hops (network_of s) t n l ≡ Some h → (h.0 ≢ r) ⊎ (t ≡ r) → (c : ℕ) × (hops (network_of u) t n l ≡ Some (h.0, c))
  holds t n l h e past =
      by_hops (network_of s) t n l h e (λ k x q is usable end found allowed is_h.
      let w = network_of s in
      let parts = and_parts k.up (is_on w k.a && is_on w k.b) usable in
      let on = and_parts (is_on w k.a) (is_on w k.b) parts.1 in
      let p = found_then x q found in
      let usable' : is_usable (network_of u) k ≡ true =
      and_from k.up (is_on (network_of u) k.a && is_on (network_of u) k.b) parts.0 (and_from (is_on (network_of u) k.a) (is_on (network_of u) k.b) (on_then k.a on.0) (on_then k.b on.1)) in
      let passed : x ≢ r → ((x == t) || p.0.through) ≡ true = λ ne.
      ⊎_elim (λ same. or_left (x == t) p.0.through same) (λ through. or_right (x == t) p.0.through (p.2 ne ∙ through)) (or_cases (x == t) q.through allowed) in
      let here : x ≡ h.0 = ap (λ (g : ℕ × ℕ). g.0) is_h in
      let allowed' : ((x == t) || p.0.through) ≡ true =
      ⊎_elim (λ same. ⊎_elim (λ ne. absurd (ne (sym here ∙ same))) (λ target. or_left (x == t) p.0.through (eq-eqb x t (same ∙ sym target))) past) passed (cases_eq x r) in (
        link_cost k + entry_cost (network_of u) p.0,
        hops_from (network_of u) t n l k x p.0 (link_then l k is) usable' end p.1 allowed' ∙ ap (λ m. Some (m, link_cost k + entry_cost (network_of u) p.0)) here,
      ))

  off_there : (w : Network) → ((l : ℕ) (k : Link) → at w.links l ≡ Some k → at s.links.rows l ≡ Some k)
      → (t n l : ℕ) (h : ℕ × ℕ) → is_among l links_there ≡ false → hops w t n l ≡ Some h → h.0 ≢ r
  off_there w before t n l h g e =
      by_hops w t n l h e (λ k x q is usable end found allowed is_h.
      subst (λ (i : ℕ × ℕ). i.0 ≢ r) is_h (by_end (λ m. m ≢ r) n x k end
      (λ same. false≢true (sym g ∙ at_router s v r l k (before l k is) ∙ or_left (k.a == r) (k.b == r) (eq-eqb k.a r same)))
      (λ same. false≢true (sym g ∙ at_router s v r l k (before l k is) ∙ or_right (k.a == r) (k.b == r) (eq-eqb k.b r same)))))

  stops : (t n l : ℕ) → t ≢ r → n ≢ r → is_among l links_there ≡ true → hops (network_of u) t n l ≡ None
  stops t n l target ne g = by (hops (network_of u) t n l) refl
    where
      by : (o : Option (ℕ × ℕ)) → hops (network_of u) t n l ≡ o → o ≡ None
      by None e = refl
      by (Some h) e =
          by_hops (network_of u) t n l h e (λ k x q is usable end found allowed is_h.
          let same : x ≡ r = leads_there r n x k (sym (at_router s v r l k (link_before l k is)) ∙ g) ne end in
          let through : q.through ≡ false = shut q (ap (router_at (network_of u)) (sym same) ∙ found) in
          absurd (⊎_elim (λ here. target (sym (eqb-true x t here) ∙ same)) (λ passed. false≢true (sym through ∙ passed)) (or_cases (x == t) q.through allowed)))

  closes : Closes r links_there ends_there s u
  closes = record {
    identities = λ n e. e;
    services = λ n e. e;
    stand = λ n e is.
        (e, at-passes (terminator_stays then) s.terminators.rows s.terminators.next n e (terms_between s v) is (term_still s then v ids_there services_there routers_there n e e is (refl, refl, refl)), refl);
    end_there = λ n e is. among_those (stands_on kind.Router r) s.terminators.next s.terminators.rows n e (terms_between s v) is;
    on = on_then;
    holds = holds;
    elsewhere = off_there (network_of s) (λ l k e. e);
    still_elsewhere = off_there (network_of u) link_before;
    stops = stops;
  }

  pub router_closed : Falls then [] [] (numbers (filter (λ (x : ℕ × Circuit). passes_through r links_there ends_there x.1) s.circuits.rows))
  router_closed = record {
    links_are = sym (no_link_falls s then v routers_there s.links.next (links_between s v) (stood_same EndsHold ends_itself s.links.rows));
    terms_are = sym (no_term_falls s then v ids_there services_there routers_there s.terminators.next (terms_between s v) (stood_same TermHolds term_itself s.terminators.rows));
    circuits_are = circuits_stop s then v (λ x m. m) r links_there ends_there closes;
  }
