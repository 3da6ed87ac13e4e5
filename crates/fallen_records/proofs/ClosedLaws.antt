-- Which circuits of a state stay in another where one router may not be passed through any more: exactly those that do not pass
-- through it.
use Rattle.std.proofs.Common.{◌≡◌, ◌≢◌, ℕ, ◌==◌, ◌||◌, ◌&&◌, Bool, true, false, not, List, [], ◌∷◌, None, Some, inl, inr, ◌⊎◌, refl, sym, ◌∙◌, ap, eqb-true, eq-eqb}
use Rattle.std.proofs.lemmas.Bool.{and_from, true≢false}
use Rattle.std.specs.Option.{option_map_or}
use Rattle.ctrl_model.specs.Networks.{network_of, is_on, hops}
use Rattle.ctrl_model.specs.Numbered.{at, numbers}
use Rattle.ctrl_model.specs.Settling.{circuit_reaches, stays_in}
use Rattle.ctrl_model.specs.State.{State, Terminator, Circuit}
use Rattle.ctrl_model.specs.Walks.{is_among, goes}
use Rattle.ctrl_model.proofs.Members.{by_list_any}
use Rattle.circuits.specs.LostCircuits.{goes_over, passes_through}
use Rattle.fallen_records.proofs.HeldWalks.{goes_holds, goes_avoids, goes_past}
use Rattle.fallen_records.proofs.LostLaws.{Stands, stands, stays_by, over_none}

-- one state against another: no identity, service or terminator is gone, no router is off that was on, and each hop holds but those
-- to one router that is not their target. Some links and terminators are those at that router.
pub record Closes (r : ℕ) (links terminators : List ℕ) (s u : State) : Type 0 where
  pub identities : (n : ℕ) → is_among n (numbers s.identities.rows) ≡ true → is_among n (numbers u.identities.rows) ≡ true
  pub services : (n : ℕ) → is_among n (numbers s.services.rows) ≡ true → is_among n (numbers u.services.rows) ≡ true
  pub stand : (n : ℕ) (e : Terminator) → at s.terminators.rows n ≡ Some e → (f : Terminator) × (at u.terminators.rows n ≡ Some f) × (f.router ≡ e.router)
  pub end_there : (n : ℕ) (e : Terminator) → at s.terminators.rows n ≡ Some e → is_among n terminators ≡ (e.router == r)
  pub on : (n : ℕ) → is_on (network_of s) n ≡ true → is_on (network_of u) n ≡ true
  pub holds : (t v l : ℕ) (h : ℕ × ℕ) → hops (network_of s) t v l ≡ Some h → (h.0 ≢ r) ⊎ (t ≡ r) → (c : ℕ) × (hops (network_of u) t v l ≡ Some (h.0, c))
  pub elsewhere : (t v l : ℕ) (h : ℕ × ℕ) → is_among l links ≡ false → hops (network_of s) t v l ≡ Some h → h.0 ≢ r
  pub still_elsewhere : (t v l : ℕ) (h : ℕ × ℕ) → is_among l links ≡ false → hops (network_of u) t v l ≡ Some h → h.0 ≢ r
  pub stops : (t v l : ℕ) → t ≢ r → v ≢ r → is_among l links ≡ true → hops (network_of u) t v l ≡ None

apart : (m n : ℕ) → (m == n) ≡ false → m ≢ n
apart m n e s = true≢false (sym (eq-eqb m n s) ∙ e)

module _ (r : ℕ) (links terminators : List ℕ) (s u : State) (closes : Closes r links terminators s u) where
  walks : (c : Circuit) (k : Stands s c) (a b d : Bool) → goes_over links c ≡ a → (c.ingress == r) ≡ b → (k.terminator.router == r) ≡ d
      → goes (hops (network_of u) k.terminator.router) k.terminator.router (c.ingress ∷ []) c.ingress c.links ≡ not (a && (not b && not d))
  walks c k false b d ea eb ed =
      let t = k.terminator.router in
      goes_holds (hops (network_of s) t) (hops (network_of u) t) t c.links (c.ingress ∷ []) c.ingress
      (λ l m v h e. closes.holds t v l h e (inl (closes.elsewhere t v l h (over_none links c ea l m) e))) k.walk
  walks c k true true d ea eb ed =
      let t = k.terminator.router in
      goes_past (hops (network_of s) t) (hops (network_of u) t) t r (λ v l h e ne. closes.holds t v l h e (inl ne)) c.links (c.ingress ∷ []) c.ingress
      (ap (λ b. b || false) eb) k.walk
  walks c k true false true ea eb ed =
      let t = k.terminator.router in
      goes_holds (hops (network_of s) t) (hops (network_of u) t) t c.links (c.ingress ∷ []) c.ingress (λ l m v h e. closes.holds t v l h e (inr (eqb-true t r ed))) k.walk
  walks c k true false false ea eb ed =
      let t = k.terminator.router in
      by_list_any (λ l. is_among l links) c.links ea (λ l m is.
      goes_avoids (hops (network_of u) t) t r (λ l. is_among l links) (λ v l ne e. closes.stops t v l (apart t r ed) ne e) (λ v l h e f. closes.still_elsewhere t v l h e f)
      c.links (c.ingress ∷ []) c.ingress l (apart c.ingress r eb) m is)

  reaches : (c : Circuit) → Stands s c → option_map_or (circuit_reaches (network_of u) c) (at u.terminators.rows c.terminator) false ≡ not (passes_through r links terminators c)
  reaches c k =
      let x = network_of u in
      let t = k.terminator.router in
      let f = closes.stand c.terminator k.terminator k.there in
      ap (λ o. option_map_or (circuit_reaches x c) o false) f.1
      ∙ ap (λ n. (is_on x c.ingress && is_on x n) && goes (hops x n) n (c.ingress ∷ []) c.ingress c.links) f.2
      ∙ ap (λ b. b && goes (hops x t) t (c.ingress ∷ []) c.ingress c.links) (and_from (is_on x c.ingress) (is_on x t) (closes.on c.ingress k.enters) (closes.on t k.ends))
      ∙ walks c k (goes_over links c) (c.ingress == r) (t == r) refl refl refl
      ∙ ap (λ b. not (goes_over links c && (not (c.ingress == r) && not b))) (sym (closes.end_there c.terminator k.terminator k.there))

  pub stays_unless_through : (row : ℕ × Circuit) → stays_in s row ≡ true → stays_in u row ≡ not (passes_through r links terminators row.1)
  stays_unless_through row h =
      let k = stands s row h in
      stays_by u row true true (not (passes_through r links terminators row.1)) (closes.identities row.1.identity k.identity) (closes.services row.1.service k.service) (reaches row.1 k)
