-- What granted a circuit still stands after a change where it needs no pair that is granted no more, and its path stays.
use Rattle.std.proofs.Common.{◌≡◌, ℕ, ◌==◌, Bool, true, false, ◌&&◌, cond, nat_lt, List, [], ◌∷◌, Option, None, Some, refl, sym, ◌∙◌, ap, subst, eqb-true, eq-eqb}
use Rattle.std.proofs.lemmas.Bool.{and_parts, and_from, or_parts, false≢true}
use Rattle.std.proofs.lemmas.Option.{same_Some, none-some}
use Rattle.std.specs.Option.{option_map_or}
use Rattle.std.specs.Str.{bytes_eq}
use Rattle.ctrl_model.specs.declared.kinds.Precedence.{Precedence}
use Rattle.ctrl_model.specs.declared.kinds.Relation.{Relation}
use Rattle.ctrl_model.specs.declared.kinds.Relation.TheVariants.{Dial, Bind, IdentityRouter, ServiceRouter}
use Rattle.ctrl_model.specs.Grants.{count, is_granted}
use Rattle.ctrl_model.specs.Networks.{Network, network_of, is_on, is_shared, is_counted, is_in_service, may_host}
use Rattle.ctrl_model.specs.Numbered.{at, numbers, with_last, without, Between}
use Rattle.ctrl_model.specs.Settling.{admits, granted_in, circuit_reaches, stays_in, terminator_stays, settle_links}
use Rattle.ctrl_model.specs.State.{State, Terminator, Circuit}
use Rattle.ctrl_model.specs.Walks.{is_among}
use Rattle.ctrl_model.proofs.NumberedLaws.{at-filter-back, at-edit_at-back, at-without-other}
use Rattle.model_laws.proofs.AbsentRecords.{at-without-none}
use Rattle.grant_denorm.specs.PairCounts.{count_of}
use Rattle.circuit_settling.specs.OtherLinks.{before_circuits}
use Rattle.circuit_settling.specs.declared.emptying.Pairs.{Pairs}
use Rattle.circuit_settling.specs.EmptiedPairs.{no_pairs, pairs_of}
use Rattle.circuit_settling.specs.LookedCircuits.{host_needs, term_needs, needs}
use Rattle.record_tables.specs.AfterChange.{changed_by}
use Rattle.terminators.specs.declared.changes.TermChange.{TermChange}
use Rattle.terminators.specs.declared.changes.TermChange.TheVariants as term
use Rattle.terminators.specs.TermChanges.{after_term_change}
use Rattle.terminators.specs.TermTables.{TermTables}

-- two terminators are of one service, router, instance and host
pub record AreAlike (e f : Terminator) : Type 0 where
  pub service : f.service ≡ e.service
  pub router : f.router ≡ e.router
  pub instance : f.instance ≡ e.instance
  pub host : f.host ≡ e.host

alike : (e f : Terminator) → f ≡ e → AreAlike e f
alike e f same = record { service = ap (λ (x : Terminator). x.service) same; router = ap (λ (x : Terminator). x.router) same; instance = ap (λ (x : Terminator). x.instance) same; host = ap (λ (x : Terminator). x.host) same }

-- another cost and precedence leave it alike
set_alike : (cost : ℕ) (precedence : Precedence) (r f : Terminator) (b : Bool) → cond b (record r { cost = cost; precedence = precedence }) r ≡ f → AreAlike r f
set_alike cost precedence r f true is = record { service = ap (λ (x : Terminator). x.service) (sym is); router = ap (λ (x : Terminator). x.router) (sym is); instance = ap (λ (x : Terminator). x.instance) (sym is); host = ap (λ (x : Terminator). x.host) (sym is) }
set_alike cost precedence r f false is = alike r f (sym is)

-- what stands before one more comes stands then
stands_before : (xs : List (ℕ × Terminator)) (next n : ℕ) (k e : Terminator) → at xs n ≡ Some e → at (with_last xs next k) n ≡ Some e
stands_before [] next n k e h = absurd (none-some e h)
stands_before (x ∷ xs) next n k e h = by (x.0 == n) h (stands_before xs next n k e)
  where
    by : (b : Bool) → cond b (Some x.1) (at xs n) ≡ Some e → (at xs n ≡ Some e → at (with_last xs next k) n ≡ Some e) → cond b (Some x.1) (at (with_last xs next k) n) ≡ Some e
    by true h later = h
    by false h later = later h

-- where a terminator was, and is after a change, the two are alike
pub terms_alike : (o : Option TermChange) (t : TermTables) (n : ℕ) (e f : Terminator) → at t.terminators.rows n ≡ Some e → at (changed_by after_term_change o t).terminators.rows n ≡ Some f → AreAlike e f
terms_alike None t n e f was is = alike e f (same_Some f e (sym is ∙ was))
terms_alike (Some (term.Add k)) t n e f was is = alike e f (same_Some f e (sym is ∙ stands_before t.terminators.rows t.terminators.next n k e was))
terms_alike (Some (term.Set m cost precedence)) t n e f was is =
    let back = at-edit_at-back t.terminators.rows m.0 n (λ x. record x { cost = cost; precedence = precedence }) f is in
    subst (λ x. AreAlike x f) (same_Some back.0 e (sym back.1 ∙ was)) (set_alike cost precedence back.0 f (n == m.0) back.2)
terms_alike (Some (term.Remove m)) t n e f was is = by (n == m.0) refl
  where
    by : (b : Bool) → (n == m.0) ≡ b → AreAlike e f
    by true same = absurd (none-some f (sym (at-without-none t.terminators.rows m.0) ∙ subst (λ k. at (without t.terminators.rows m.0) k ≡ Some f) (eqb-true n m.0 same) is))
    by false apart = alike e f (same_Some f e (sym is ∙ at-without-other t.terminators.rows m.0 n (λ same. false≢true (sym apart ∙ eq-eqb n m.0 same)) ∙ was))

-- ---- what granted a circuit

-- of some pairs those that are none of them are granted in one state where they are in another
abbrev pub StayCounted : Pairs → State → State → Type 0
StayCounted g s t = (r : Relation) (a b : ℕ) → nat_lt 0 (count_of (pairs_of r g) a b) ≡ false → nat_lt 0 (count r s a b) ≡ true → nat_lt 0 (count r t a b) ≡ true

module _ (s t : State) (g : Pairs) (still_counted : StayCounted g s t) where
  -- no such pair
  abbrev IsNot : Relation → ℕ → ℕ → Type 0
  IsNot r a b = nat_lt 0 (count_of (pairs_of r g) a b) ≡ false

  still_shared : (i v r : ℕ) → IsNot IdentityRouter i r → IsNot ServiceRouter v r → is_shared (network_of s) i v r ≡ true → is_shared (network_of t) i v r ≡ true
  still_shared i v r on for e =
      let both = and_parts (nat_lt 0 (count IdentityRouter s i r)) (nat_lt 0 (count ServiceRouter s v r)) e in
      and_from _ _ (still_counted IdentityRouter i r on both.0) (still_counted ServiceRouter v r for both.1)

  still_hosts : (e f : Terminator) (h : Option ℕ) → AreAlike e f → option_map_or (host_needs g e) h false ≡ false
      → option_map_or (may_host (network_of s) e) h true ≡ true → option_map_or (may_host (network_of t) f) h true ≡ true
  still_hosts e f None same free serves = refl
  still_hosts e f (Some h) same free serves =
      let both = and_parts (nat_lt 0 (count Bind s h e.service)) (is_shared (network_of s) h e.service e.router) serves in
      let binds = or_parts (nat_lt 0 (count_of g.bind h e.service)) _ free in
      let shares = or_parts (nat_lt 0 (count_of g.identity_router h e.router)) (nat_lt 0 (count_of g.service_router e.service e.router)) binds.1 in
      and_from _ _ (subst (λ v. nat_lt 0 (count Bind t h v) ≡ true) (sym same.service) (still_counted Bind h e.service binds.0 both.0))
      (subst (λ v. is_shared (network_of t) h v f.router ≡ true) (sym same.service)
      (subst (λ r. is_shared (network_of t) h e.service r ≡ true) (sym same.router) (still_shared h e.service e.router shares.0 shares.1 both.1)))

  -- a terminator that was admissible is, where its router is still connected
  still_admitted : (n v : ℕ) (e f : Terminator) → AreAlike e f → term_needs g e ≡ false → is_on (network_of t) f.router ≡ true → admits (network_of s) v n e ≡ true → admits (network_of t) v n f ≡ true
  still_admitted n v e f same free on admitted =
      let parts = and_parts (is_counted v e.instance (n, e)) (is_in_service (network_of s) (n, e)) admitted in
      let counted = and_parts (e.service == v) (bytes_eq e.instance e.instance) parts.0 in
      let serves = and_parts (is_on (network_of s) e.router) (option_map_or (may_host (network_of s) e) e.host true) parts.1 in
      and_from _ _ (and_from _ _ (ap (λ x. x == v) same.service ∙ counted.0) (subst (λ i. bytes_eq i i ≡ true) (sym same.instance) counted.1))
      (and_from _ _ on (subst (λ h. option_map_or (may_host (network_of t) f) h true ≡ true) (sym same.host) (still_hosts e f e.host same free serves.1)))

  -- what granted a circuit that needs none of the pairs stands where its path does
  pub still_granted : (x : ℕ × Circuit) (high : ℕ) → Between 1 high t.terminators.rows
      → ((e f : Terminator) → at s.terminators.rows x.1.terminator ≡ Some e → at t.terminators.rows x.1.terminator ≡ Some f → AreAlike e f)
      → needs g s.terminators.rows x.1 ≡ false → granted_in s x ≡ true → stays_in (before_circuits t) x ≡ true → granted_in t x ≡ true
  still_granted x high ascend same free granted stays =
      let c = x.1 in
      let i = and_parts (is_among c.identity (numbers t.identities.rows)) _ stays in
      let v = and_parts (is_among c.service (numbers t.services.rows)) _ i.1 in
      let p = and_parts (is_among c.identity (numbers s.identities.rows)) _ granted in
      let h = and_parts (is_among c.service (numbers s.services.rows)) _ p.1 in
      let d = and_parts (is_granted Dial s c.identity c.service) _ h.1 in
      let r = and_parts (is_shared (network_of s) c.identity c.service c.ingress) _ d.1 in
      let dials = or_parts (nat_lt 0 (count_of g.dial c.identity c.service)) _ free in
      let enters = or_parts (nat_lt 0 (count_of g.identity_router c.identity c.ingress)) _ dials.1 in
      let serves = or_parts (nat_lt 0 (count_of g.service_router c.service c.ingress)) _ enters.1 in
      and_from _ _ i.0 (and_from _ _ v.0 (and_from _ _ (still_counted Dial c.identity c.service dials.0 d.0)
      (and_from _ _ (still_shared c.identity c.service c.ingress enters.0 serves.0 r.0) (ends v.1 serves.1 r.1))))
    where
      w : Network
      w = network_of (before_circuits t)

      ends : option_map_or (circuit_reaches w x.1) (at (before_circuits t).terminators.rows x.1.terminator) false ≡ true
          → option_map_or (term_needs g) (at s.terminators.rows x.1.terminator) false ≡ false
          → option_map_or (admits (network_of s) x.1.service x.1.terminator) (at s.terminators.rows x.1.terminator) false ≡ true
          → option_map_or (admits (network_of t) x.1.service x.1.terminator) (at t.terminators.rows x.1.terminator) false ≡ true
      ends reaches free was = now (at (before_circuits t).terminators.rows x.1.terminator) refl reaches (at s.terminators.rows x.1.terminator) refl free was
        where
          now : (o : Option Terminator) → at (before_circuits t).terminators.rows x.1.terminator ≡ o → option_map_or (circuit_reaches w x.1) o false ≡ true
              → (q : Option Terminator) → at s.terminators.rows x.1.terminator ≡ q → option_map_or (term_needs g) q false ≡ false
              → option_map_or (admits (network_of s) x.1.service x.1.terminator) q false ≡ true
              → option_map_or (admits (network_of t) x.1.service x.1.terminator) (at t.terminators.rows x.1.terminator) false ≡ true
          now None is reaches q before free was = absurd (false≢true reaches)
          now (Some f) is reaches None before free was = absurd (false≢true was)
          now (Some f) is reaches (Some e) before free was =
              let there = (at-filter-back (terminator_stays (settle_links t)) high t.terminators.rows 1 x.1.terminator f ascend is).0 in
              let ends_on = (and_parts (is_on w x.1.ingress) (is_on w f.router) (and_parts (is_on w x.1.ingress && is_on w f.router) _ reaches).0).1 in
              ap (λ o. option_map_or (admits (network_of t) x.1.service x.1.terminator) o false) there
              ∙ still_admitted x.1.terminator x.1.service e f (same e f before there) free ends_on was

-- no circuit needs a pair where there is none
pub needs_none : (terms : List (ℕ × Terminator)) (c : Circuit) → needs no_pairs terms c ≡ false
needs_none terms c = by (at terms c.terminator)
  where
    hosted : (e : Terminator) (o : Option ℕ) → option_map_or (host_needs no_pairs e) o false ≡ false
    hosted e None = refl
    hosted e (Some h) = refl

    by : (o : Option Terminator) → option_map_or (term_needs no_pairs) o false ≡ false
    by None = refl
    by (Some e) = hosted e e.host
