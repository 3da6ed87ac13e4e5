-- Which circuits of a state stay in another: exactly those that need nothing of what is gone.
use Rattle.std.proofs.Common.{◌≡◌, ℕ, ◌||◌, ◌&&◌, Bool, true, false, not, List, [], ◌∷◌, Option, None, Some, refl, sym, ◌∙◌, ap}
use Rattle.std.proofs.lemmas.Bool.{and_parts, and_from, false≢true}
use Rattle.std.specs.Option.{option_map_or}
use Rattle.ctrl_model.specs.Membership.{Among}
use Rattle.ctrl_model.specs.Networks.{Network, network_of, is_on, hops}
use Rattle.ctrl_model.specs.Numbered.{at, numbers}
use Rattle.ctrl_model.specs.Settling.{circuit_reaches, stays_in}
use Rattle.ctrl_model.specs.State.{State, Terminator, Circuit}
use Rattle.ctrl_model.specs.Walks.{is_among, goes}
use Rattle.ctrl_model.proofs.Members.{by_list_any, list_any-from_among}
use Rattle.ctrl_model.proofs.WalkLaws.{by_there}
use Rattle.circuits.specs.LostCircuits.{goes_over}
use Rattle.fallen_records.proofs.HeldWalks.{LeadsOn, goes_holds, goes_breaks, goes_on_end}

-- a terminator that is gone, or is there on the same router
pub record LeavesTerminator (is_gone : Bool) (e : Terminator) (o : Option Terminator) : Type 0 where
  pub gone : is_gone ≡ true → o ≡ None
  pub stays : is_gone ≡ false → (f : Terminator) × (o ≡ Some f) × (f.router ≡ e.router)

-- one state against another: the identities, services and routers of some numbers are gone, with some links and some terminators,
-- and all else that circuits ask for holds
pub record Loses (identity service router : ℕ → Bool) (links terminators : List ℕ) (s u : State) : Type 0 where
  pub identities : (n : ℕ) → is_among n (numbers s.identities.rows) ≡ true → is_among n (numbers u.identities.rows) ≡ not (identity n)
  pub services : (n : ℕ) → is_among n (numbers s.services.rows) ≡ true → is_among n (numbers u.services.rows) ≡ not (service n)
  pub stand : (n : ℕ) (e : Terminator) → at s.terminators.rows n ≡ Some e → LeavesTerminator (is_among n terminators) e (at u.terminators.rows n)
  pub on : (n : ℕ) → is_on (network_of s) n ≡ true → is_on (network_of u) n ≡ not (router n)
  pub holds : (t l : ℕ) → is_among l links ≡ false → LeadsOn (hops (network_of s) t) (hops (network_of u) t) l
  pub breaks : (t v l : ℕ) → is_among l links ≡ true → hops (network_of u) t v l ≡ None

-- a circuit that goes over none of some links goes over links that are none of them
pub over_none : (links : List ℕ) (c : Circuit) → goes_over links c ≡ false → (l : ℕ) → Among l c.links → is_among l links ≡ false
over_none links c e l m = by (is_among l links) refl
  where
    by : (b : Bool) → is_among l links ≡ b → b ≡ false
    by false is = refl
    by true is = absurd (false≢true (sym e ∙ list_any-from_among (λ k. is_among k links) c.links l m is))

-- what a circuit that stays has
pub record Stands (s : State) (c : Circuit) : Type 0 where
  pub identity : is_among c.identity (numbers s.identities.rows) ≡ true
  pub service : is_among c.service (numbers s.services.rows) ≡ true
  pub terminator : Terminator
  pub there : at s.terminators.rows c.terminator ≡ Some terminator
  pub enters : is_on (network_of s) c.ingress ≡ true
  pub ends : is_on (network_of s) terminator.router ≡ true
  pub walk : goes (hops (network_of s) terminator.router) terminator.router (c.ingress ∷ []) c.ingress c.links ≡ true

pub stands : (s : State) (row : ℕ × Circuit) → stays_in s row ≡ true → Stands s row.1
stands s row h =
    let c = row.1 in
    let w = network_of s in
    let o = at s.terminators.rows c.terminator in
    let parts = and_parts (is_among c.identity (numbers s.identities.rows)) (is_among c.service (numbers s.services.rows) && option_map_or (circuit_reaches w c) o false) h in
    let rest = and_parts (is_among c.service (numbers s.services.rows)) (option_map_or (circuit_reaches w c) o false) parts.1 in
    by_there (circuit_reaches w c) o rest.1 (λ e is reaches.
    let both = and_parts (is_on w c.ingress && is_on w e.router) (goes (hops w e.router) e.router (c.ingress ∷ []) c.ingress c.links) reaches in
    let on = and_parts (is_on w c.ingress) (is_on w e.router) both.0 in
    record {
      identity = parts.0;
      service = rest.0;
      terminator = e;
      there = is;
      enters = on.0;
      ends = on.1;
      walk = both.1;
    })

-- whether a circuit stays, by its parts
pub stays_by : (u : State) (row : ℕ × Circuit) (a b d : Bool) → is_among row.1.identity (numbers u.identities.rows) ≡ a → is_among row.1.service (numbers u.services.rows) ≡ b
    → option_map_or (circuit_reaches (network_of u) row.1) (at u.terminators.rows row.1.terminator) false ≡ d → stays_in u row ≡ (a && (b && d))
stays_by u row a b d ea eb ed = λ i. ea i && (eb i && ed i)

module _ (identity service router : ℕ → Bool) (links terminators : List ℕ) (s u : State) (loses : Loses identity service router links terminators s u) where
  reaches : (c : Circuit) → Stands s c → option_map_or (circuit_reaches (network_of u) c) (at u.terminators.rows c.terminator) false
      ≡ not (router c.ingress || (goes_over links c || is_among c.terminator terminators))
  reaches c k = by (is_among c.terminator terminators) refl
    where
      x : Network
      x = network_of u

      left : LeavesTerminator (is_among c.terminator terminators) k.terminator (at u.terminators.rows c.terminator)
      left = loses.stand c.terminator k.terminator k.there

      ended : (a b : Bool) → not (a || (b || true)) ≡ false
      ended true b = refl
      ended false true = refl
      ended false false = refl

      walked : (f : Terminator) → f.router ≡ k.terminator.router → (a b : Bool) → router c.ingress ≡ a → goes_over links c ≡ b
          → circuit_reaches x c f ≡ not (a || (b || false))
      walked f same true b ea eb = λ i. ((loses.on c.ingress k.enters ∙ ap not ea) i && is_on x f.router) && goes (hops x f.router) f.router (c.ingress ∷ []) c.ingress c.links
      walked f same false true ea eb =
          let broken : goes (hops x f.router) f.router (c.ingress ∷ []) c.ingress c.links ≡ false =
          by_list_any (λ l. is_among l links) c.links eb (λ l m is. goes_breaks (hops x f.router) f.router l (λ v. loses.breaks f.router v l is) c.links (c.ingress ∷ []) c.ingress m) in
          ap (λ b. (is_on x c.ingress && is_on x f.router) && b) broken ∙ and_false (is_on x c.ingress && is_on x f.router)
        where
          and_false : (b : Bool) → (b && false) ≡ false
          and_false true = refl
          and_false false = refl
      walked f same false false ea eb =
          let enters : is_on x c.ingress ≡ true = loses.on c.ingress k.enters ∙ ap not ea in
          let t = k.terminator.router in
          let walk : goes (hops x t) t (c.ingress ∷ []) c.ingress c.links ≡ true =
          goes_holds (hops (network_of s) t) (hops x t) t c.links (c.ingress ∷ []) c.ingress (λ l m. loses.holds t l (over_none links c eb l m)) k.walk in
          let ends : is_on x t ≡ true = goes_on_end x t c.links (c.ingress ∷ []) c.ingress enters walk in
          ap (λ r. (is_on x c.ingress && is_on x r) && goes (hops x r) r (c.ingress ∷ []) c.ingress c.links) same
          ∙ and_from (is_on x c.ingress && is_on x t) (goes (hops x t) t (c.ingress ∷ []) c.ingress c.links) (and_from (is_on x c.ingress) (is_on x t) enters ends) walk

      by : (b : Bool) → is_among c.terminator terminators ≡ b → option_map_or (circuit_reaches x c) (at u.terminators.rows c.terminator) false ≡ not (router c.ingress || (goes_over links c || b))
      by true is = ap (λ o. option_map_or (circuit_reaches x c) o false) (left.gone is) ∙ sym (ended (router c.ingress) (goes_over links c))
      by false is =
          let f = left.stays is in
          ap (λ o. option_map_or (circuit_reaches x c) o false) f.1 ∙ walked f.0 f.2 (router c.ingress) (goes_over links c) refl refl

  -- exactly those stay that need nothing of what is gone
  pub stays_exactly : (row : ℕ × Circuit) → stays_in s row ≡ true
      → stays_in u row ≡ not (identity row.1.identity || (service row.1.service || (router row.1.ingress || (goes_over links row.1 || is_among row.1.terminator terminators))))
  stays_exactly row h =
      let k = stands s row h in
      let c = row.1 in
      let rest = router c.ingress || (goes_over links c || is_among c.terminator terminators) in
      stays_by u row (not (identity c.identity)) (not (service c.service)) (not rest) (loses.identities c.identity k.identity) (loses.services c.service k.service) (reaches c k)
      ∙ by (identity c.identity) (service c.service) rest
    where
      by : (a b d : Bool) → (not a && (not b && not d)) ≡ not (a || (b || d))
      by true b d = refl
      by false true d = refl
      by false false d = refl
