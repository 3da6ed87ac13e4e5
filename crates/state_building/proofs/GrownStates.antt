-- States in which all records stand that stood before: what is present is present, and a path is a path still.
use Rattle.std.proofs.Common.{◌≡◌, ℕ, ◌+◌, ◌==◌, ◌||◌, Bool, true, false, cond, List, [], ◌∷◌, map, is_some, Option, None, Some, refl, sym, ◌∙◌, ap, eqb-true}
use Rattle.std.proofs.lemmas.Option.{none-some}
use Rattle.std.specs.List.{find}
use Rattle.std.specs.Option.{option_map, option_map_or}
use Rattle.std.specs.Str.{bytes_eq}
use Rattle.ctrl_model.specs.declared.kinds.Kind.{Kind}
use Rattle.ctrl_model.specs.declared.kinds.Kind.TheVariants as kind
use Rattle.ctrl_model.specs.declared.kinds.RouterSeen.{RouterSeen}
use Rattle.ctrl_model.specs.Numbered.{at, is_present, numbers, with_last}
use Rattle.ctrl_model.specs.State.{State, Router, Link, Terminator, Circuit}
use Rattle.ctrl_model.specs.Tables.{Record, table, record_name, named}
use Rattle.ctrl_model.specs.Settling.{link_stays, terminator_stays, stays_in, circuit_reaches}
use Rattle.ctrl_model.specs.Walks.{Hops, is_among, goes}
use Rattle.ctrl_model.specs.Networks.{network_of, seen, router_at, is_on, is_usable, is_path, hops, link_cost, entry_cost}
use Rattle.ctrl_model.specs.ValidState.{ValidTable, is_valid, may_relate}
use Rattle.ctrl_model.proofs.NumberedLaws.{by_is_some, found_too}
use Rattle.ctrl_model.proofs.WalkLaws.{by_there, by_goes, goes_more}
use Rattle.model_laws.proofs.NamedLaws.{and_more, FindsToo, is_fitting-more}
use Rattle.model_laws.proofs.PathLaws.{by_is_on, by_hops, hops_from}

-- ---- rows

-- each record of one map stands in another at its number
abbrev pub Keeps : {R : Type 0} → List (ℕ × R) → List (ℕ × R) → Type 0
Keeps {R} rows after = (m : ℕ) (r : R) → at rows m ≡ Some r → at after m ≡ Some r

pub Keeps-with_last : {R : Type 0} (rows : List (ℕ × R)) (n : ℕ) (r : R) → Keeps rows (with_last rows n r)
Keeps-with_last [] n r m t e = absurd (none-some t e)
Keeps-with_last (x ∷ rows) n r m t e = by (x.0 == m) e (Keeps-with_last rows n r m t)
  where
    by : (b : Bool) → cond b (Some x.1) (at rows m) ≡ Some t → (at rows m ≡ Some t → at (with_last rows n r) m ≡ Some t)
        → cond b (Some x.1) (at (with_last rows n r) m) ≡ Some t
    by true e k = e
    by false e k = k e

present_still : {R : Type 0} (rows after : List (ℕ × R)) → Keeps rows after → (n : ℕ) → is_present rows n ≡ true → is_present after n ≡ true
present_still rows after keeps n e = by_is_some (at rows n) e (λ r is. ap is_some (keeps n r is))

-- a number is among those of a map where a record stands at it
present-among : {R : Type 0} (rows : List (ℕ × R)) (n : ℕ) → is_among n (numbers rows) ≡ is_present rows n
present-among [] n = refl
present-among (x ∷ rows) n = by (x.0 == n) (present-among rows n)
  where
    by : (b : Bool) → is_among n (numbers rows) ≡ is_present rows n → (b || is_among n (numbers rows)) ≡ is_some (cond b (Some x.1) (at rows n))
    by true e = refl
    by false e = e

among_still : {R : Type 0} (rows after : List (ℕ × R)) → Keeps rows after → (n : ℕ) → is_among n (numbers rows) ≡ true → is_among n (numbers after) ≡ true
among_still rows after keeps n e = present-among after n ∙ present_still rows after keeps n (sym (present-among rows n) ∙ e)

-- a router is seen under the number at which it stands
seen_at : (rows : List (ℕ × Router)) (m : ℕ) → find (λ (r : RouterSeen). r.no.0 == m) (map seen rows) ≡ option_map (λ (r : Router). seen (m, r)) (at rows m)
seen_at [] m = refl
seen_at (x ∷ rows) m = by (x.0 == m) refl (seen_at rows m)
  where
    by : (b : Bool) → (x.0 == m) ≡ b → find (λ (r : RouterSeen). r.no.0 == m) (map seen rows) ≡ option_map (λ (r : Router). seen (m, r)) (at rows m)
        → cond b (Some (seen x)) (find (λ (r : RouterSeen). r.no.0 == m) (map seen rows)) ≡ option_map (λ (r : Router). seen (m, r)) (cond b (Some x.1) (at rows m))
    by true is e = ap (λ k. Some (seen (k, x.1))) (eqb-true x.0 m is)
    by false is e = e

seen_still : (rows after : List (ℕ × Router)) → Keeps rows after → (m : ℕ) (q : RouterSeen) → find (λ (r : RouterSeen). r.no.0 == m) (map seen rows) ≡ Some q
    → find (λ (r : RouterSeen). r.no.0 == m) (map seen after) ≡ Some q
seen_still rows after keeps m q e = by (at rows m) refl (sym (seen_at rows m) ∙ e)
  where
    by : (o : Option Router) → at rows m ≡ o → option_map (λ (r : Router). seen (m, r)) o ≡ Some q → find (λ (r : RouterSeen). r.no.0 == m) (map seen after) ≡ Some q
    by None is e = absurd (none-some q e)
    by (Some r) is e = seen_at after m ∙ ap (option_map (λ (r : Router). seen (m, r))) (keeps m r is) ∙ e

-- ---- walks

-- where each hop leads to the same place as before, at whatever cost, walks are walks still
goes_still : (hop after : Hops) → ((v l : ℕ) (h : ℕ × ℕ) → hop v l ≡ Some h → (c : ℕ) × (after v l ≡ Some (h.0, c))) → (t : ℕ) (ls seen : List ℕ) (v : ℕ)
    → goes hop t seen v ls ≡ true → goes after t seen v ls ≡ true
goes_still hop after leads t [] seen v e = e
goes_still hop after leads t (l ∷ ls) seen v e = by_goes hop t seen v l ls e (λ h is new rest.
    let on = leads v l h is in
    goes_more after t seen v l ls (h.0, on.0) on.1 new (goes_still hop after leads t ls (h.0 ∷ seen) h.0 rest))

-- ---- states

-- the records of each kind stand in another state
abbrev pub Grown : State → State → Type 0
Grown s u = (k : Kind) → Keeps (table k s).rows (table k u).rows

module _ (s u : State) (grown : Grown s u) where
  router_still : (m : ℕ) (q : RouterSeen) → router_at (network_of s) m ≡ Some q → router_at (network_of u) m ≡ Some q
  router_still = seen_still s.routers.rows u.routers.rows (grown kind.Router)

  on_still : (x : ℕ) → is_on (network_of s) x ≡ true → is_on (network_of u) x ≡ true
  on_still x on = by_is_on (network_of s) x on (λ q there connected.
      ap (λ o. option_map_or (λ (r : RouterSeen). r.connected) o false) (router_still x q there) ∙ connected)

  usable_still : (l : Link) → is_usable (network_of s) l ≡ true → is_usable (network_of u) l ≡ true
  usable_still l e = and_more _ _ _ _ (λ up. up) (and_more _ _ _ _ (on_still l.a) (on_still l.b)) e

  hop_still : (t v l : ℕ) (h : ℕ × ℕ) → hops (network_of s) t v l ≡ Some h → (c : ℕ) × (hops (network_of u) t v l ≡ Some (h.0, c))
  hop_still t v l h e = by_hops (network_of s) t v l h e (λ link x q is usable end found allowed is_h.
      let c : ℕ = link_cost link + entry_cost (network_of u) q in (
        c,
        hops_from (network_of u) t v l link x q (grown kind.Link l link is) (usable_still link usable) end (router_still x q found) allowed
            ∙ ap (λ (y : ℕ × ℕ). Some (y.0, c)) is_h,
      ))

  path_still : (r : ℕ) (links : List ℕ) (t : ℕ) → is_path (network_of s) r links t ≡ true → is_path (network_of u) r links t ≡ true
  path_still r links t e =
      and_more _ _ _ _ (and_more _ _ _ _ (on_still r) (on_still t)) (goes_still (hops (network_of s) t) (hops (network_of u) t) (hop_still t) t links (r ∷ []) r) e

  pub link_still : (row : ℕ × Link) → link_stays s row ≡ true → link_stays u row ≡ true
  link_still row e =
      and_more _ _ _ _ (present_still s.routers.rows u.routers.rows (grown kind.Router) row.1.a) (present_still s.routers.rows u.routers.rows (grown kind.Router) row.1.b) e

  pub terminator_still : (row : ℕ × Terminator) → terminator_stays s row ≡ true → terminator_stays u row ≡ true
  terminator_still row e =
      and_more _ _ _ _ (present_still s.services.rows u.services.rows (grown kind.Service) row.1.service)
      (and_more _ _ _ _ (present_still s.routers.rows u.routers.rows (grown kind.Router) row.1.router) (host_still row.1.host)) e
    where
      host_still : (host : Option ℕ) → option_map_or (is_present s.identities.rows) host true ≡ true → option_map_or (is_present u.identities.rows) host true ≡ true
      host_still None e = e
      host_still (Some n) e = present_still s.identities.rows u.identities.rows (grown kind.Identity) n e

  pub circuit_still : (row : ℕ × Circuit) → stays_in s row ≡ true → stays_in u row ≡ true
  circuit_still row e =
      and_more _ _ _ _ (among_still s.identities.rows u.identities.rows (grown kind.Identity) row.1.identity)
      (and_more _ _ _ _ (among_still s.services.rows u.services.rows (grown kind.Service) row.1.service) reaches) e
    where
      reaches : option_map_or (circuit_reaches (network_of s) row.1) (at s.terminators.rows row.1.terminator) false ≡ true
          → option_map_or (circuit_reaches (network_of u) row.1) (at u.terminators.rows row.1.terminator) false ≡ true
      reaches e = by_there (circuit_reaches (network_of s) row.1) (at s.terminators.rows row.1.terminator) e (λ t is goes_on.
          ap (λ o. option_map_or (circuit_reaches (network_of u) row.1) o false) (grown kind.Terminator row.1.terminator t is)
          ∙ path_still row.1.ingress row.1.links t.router goes_on)

-- each record is valid in the state that has grown
pub valid_still : (s u : State) → Grown s u → ((k : Kind) → ValidTable k s (table k s)) → (k : Kind) (q : Record k) → is_valid k s q ≡ true → is_valid k u q ≡ true
valid_still s u grown valid = by
  where
    finds : (i : Kind) → FindsToo (named i s) (named i u)
    finds i name e = found_too (λ r. bytes_eq (record_name i r) name) (table i s).next (table i s).rows (table i u).rows 1 (valid i).numbers.ordered
        (λ m r stands passes. (r, grown i m r stands, passes)) e

    by : (k : Kind) (q : Record k) → is_valid k s q ≡ true → is_valid k u q ≡ true
    by kind.ServicePolicy q e =
        is_fitting-more (may_relate kind.ServicePolicy) (named kind.Identity s) (named kind.Service s) (named kind.Identity u) (named kind.Service u) (finds kind.Identity) (finds kind.Service) q e
    by kind.EdgeRouterPolicy q e =
        is_fitting-more (may_relate kind.EdgeRouterPolicy) (named kind.Identity s) (named kind.Router s) (named kind.Identity u) (named kind.Router u) (finds kind.Identity) (finds kind.Router) q e
    by kind.ServiceEdgeRouterPolicy q e =
        is_fitting-more (may_relate kind.ServiceEdgeRouterPolicy) (named kind.Service s) (named kind.Router s) (named kind.Service u) (named kind.Router u) (finds kind.Service) (finds kind.Router) q e
    by k q e = e
