-- Laws on what each denial means: it is the first rule that fails exactly where the rules before hold and this one does not.
use Rattle.std.proofs.Common.{◌≡◌, ℕ, zero, suc, ◌≤◌, ◌==◌, ◌&&◌, Bool, true, false, cond, ◌⊎◌, ◌↔◌, inl, inr, List, [], ◌∷◌, Option, Some, None, refl, sym, ◌∙◌, ap, subst, subst₂, arith, eq-eqb, eqb-true, ne_eqb}
use Rattle.std.proofs.lemmas.Bool.{and_parts, and_from, false≢true}
use Rattle.std.proofs.lemmas.Option.{same_Some}
use Rattle.std.specs.Option.{option_map_or}
use Rattle.ctrl_model.specs.declared.kinds.RouterSeen.{RouterSeen}
use Rattle.ctrl_model.specs.declared.refusals.Denial.{Denial}
use Rattle.ctrl_model.specs.declared.refusals.Denial.TheVariants.{UnknownIdentity, UnknownService, UnknownRouter, NoDial, NoSharedRouter, SharedRoutersOffline, NoTerminators, NoAdmissibleTerminator, NoPath, CircuitsFull}
use Rattle.ctrl_model.specs.Membership.{Among}
use Rattle.ctrl_model.specs.Matches.{is_nothing}
use Rattle.ctrl_model.specs.State.{Terminator}
use Rattle.ctrl_model.specs.Networks.{Network, is_shared, is_counted, counted, admissible}
use Rattle.ctrl_model.specs.Choices.{Ask, Wanted, Any, Absent, One, Candidate, IsIngress, IsAdmissible, IsCandidate, is_wanted, is_absent, shared, ingresses, candidates_for, first_denial, failing, first_rule}
use Rattle.ctrl_model.proofs.Members.{by_filter, Among-filter, by_something, something, empty_list}
use Rattle.model_laws.specs.Denials.{AreKnown, IsAddressed, MayDial, IsSharedRouter, HasSharedRouter, MayEnter, IsCounted, HasTerminator, MayEnd, IsDeniedFor, IsDenied}
use Rattle.model_laws.proofs.CandidateLaws.{by_ingresses, Among-ingresses, by_admissible, Among-admissible, by_candidates_for, Among-candidates_for}

-- ---- the first rule that fails, of rules in order

-- this denial is that of the first rule that fails
abbrev pub FailsFirst : List (Bool × Denial) → Denial → Type 0
FailsFirst [] d = ⊥
FailsFirst (x ∷ xs) d = ((x.0 ≡ true) × (x.1 ≡ d)) ⊎ ((x.0 ≡ false) × FailsFirst xs d)

first_denial-first : (xs : List (Bool × Denial)) (d : Denial) → first_denial xs ≡ Some d → FailsFirst xs d
first_denial-first [] d e = absurd (cc)
first_denial-first (x ∷ xs) d e = apart x.0 refl e (first_denial-first xs d)
  where
    apart : (b : Bool) → x.0 ≡ b → cond b (Some x.1) (first_denial xs) ≡ Some d → (first_denial xs ≡ Some d → FailsFirst xs d) → FailsFirst (x ∷ xs) d
    apart true is e k = inl (is, same_Some x.1 d e)
    apart false is e k = inr (is, k e)

first-first_denial : (xs : List (Bool × Denial)) (d : Denial) → FailsFirst xs d → first_denial xs ≡ Some d
first-first_denial [] d f = absurd f
first-first_denial (x ∷ xs) d (inl f) = ap (λ b. cond b (Some x.1) (first_denial xs)) f.0 ∙ ap Some f.1
first-first_denial (x ∷ xs) d (inr f) = ap (λ b. cond b (Some x.1) (first_denial xs)) f.0 ∙ first-first_denial xs d f.1

-- ---- what is there, and what is not

is_absent-Absent : (wanted : Wanted) → is_absent wanted ≡ true → wanted ≡ Absent
is_absent-Absent Any e = absurd (false≢true e)
is_absent-Absent Absent e = refl
is_absent-Absent (One n) e = absurd (false≢true e)

is_absent-not : (wanted : Wanted) → is_absent wanted ≡ false → wanted ≡ Absent → ⊥
is_absent-not wanted e is = false≢true (sym e ∙ ap is_absent is)

not-is_absent : (wanted : Wanted) → (wanted ≡ Absent → ⊥) → is_absent wanted ≡ false
not-is_absent Any k = refl
not-is_absent Absent k = absurd (k refl)
not-is_absent (One n) k = refl

nothing : {X : Type 0} (xs : List X) → is_nothing xs ≡ true → xs ≡ []
nothing [] e = refl
nothing (x ∷ xs) e = absurd (false≢true e)

nothing_among : {X : Type 0} (xs : List X) (x : X) → is_nothing xs ≡ true → Among x xs → ⊥
nothing_among xs x e m = subst (Among x) (nothing xs e) m

is_nothing-from : {X : Type 0} (xs : List X) → ((x : X) → Among x xs → ⊥) → is_nothing xs ≡ true
is_nothing-from xs k = ap is_nothing (empty_list xs k)

dials-from : (n : ℕ) → (n == 0) ≡ false → 1 ≤ n
dials-from zero e = absurd (false≢true (sym e))
dials-from (suc n) e = omega arith

dials-not : (n : ℕ) → 1 ≤ n → (n == 0) ≡ false
dials-not n h = ne_eqb n 0 (λ e. absurd (omega arith))

by_shared : (w : Network) (wanted : Wanted) (i s : ℕ) (r : RouterSeen) → Among r (shared w wanted i s) → IsSharedRouter w wanted i s r
by_shared w wanted i s r m =
    by_filter (λ (r : RouterSeen). is_wanted wanted r.no.0 && is_shared w i s r.no.0) w.routers r m (λ there both.
    record {
      present = there;
      wanted = (and_parts (is_wanted wanted r.no.0) (is_shared w i s r.no.0) both).0;
      is_shared_by_both = (and_parts (is_wanted wanted r.no.0) (is_shared w i s r.no.0) both).1;
    })

Among-shared : (w : Network) (wanted : Wanted) (i s : ℕ) (r : RouterSeen) → IsSharedRouter w wanted i s r → Among r (shared w wanted i s)
Among-shared w wanted i s r g =
    Among-filter (λ (r : RouterSeen). is_wanted wanted r.no.0 && is_shared w i s r.no.0) w.routers r g.present
    (and_from (is_wanted wanted r.no.0) (is_shared w i s r.no.0) g.wanted g.is_shared_by_both)

by_counted : (w : Network) (s : ℕ) (instance : List ℕ) (e : ℕ × Terminator) → Among e (counted w s instance) → IsCounted w s instance e
by_counted w s instance e m = by_filter (is_counted s instance) w.terminators e m (λ there counts. record { present = there; is_counted_for = counts })

Among-counted : (w : Network) (s : ℕ) (instance : List ℕ) (e : ℕ × Terminator) → IsCounted w s instance e → Among e (counted w s instance)
Among-counted w s instance e a = Among-filter (is_counted s instance) w.terminators e a.present a.is_counted_for

-- ---- the rules of a request whose identity and service are present

module _ (w : Network) (ask : Ask) (i s : ℕ) (known : AreKnown ask i s) where
  may_dial : is_absent ask.ingress ≡ false → (w.dial i s == 0) ≡ false → MayDial w ask i s
  may_dial named dials = record { addressed = record { known = known; ingress = is_absent-not ask.ingress named }; dials = dials-from (w.dial i s) dials }

  has_shared : MayDial w ask i s → is_nothing (shared w ask.ingress i s) ≡ false → HasSharedRouter w ask i s
  has_shared may some = by_something (shared w ask.ingress i s) some (λ r m. record { may = may; router = r; shares = by_shared w ask.ingress i s r m })

  may_enter : MayDial w ask i s → is_nothing (ingresses w ask.ingress i s) ≡ false → MayEnter w ask i s
  may_enter may some = by_something (ingresses w ask.ingress i s) some (λ r m. record { may = may; router = r; enters = by_ingresses w ask.ingress i s r m })

  has_terminator : MayEnter w ask i s → is_nothing (counted w s ask.instance) ≡ false → HasTerminator w ask i s
  has_terminator may some = by_something (counted w s ask.instance) some (λ e m. record { may = may; terminator = e; counts = by_counted w s ask.instance e m })

  may_end : MayEnter w ask i s → is_nothing (admissible w s ask.instance) ≡ false → MayEnd w ask i s
  may_end may some = by_something (admissible w s ask.instance) some (λ e m. record { may = may; terminator = e; ends = by_admissible w s ask.instance e m })

  -- a candidate of the request is one for its identity and service
  here : (c : Candidate) → IsCandidate w ask c → Among c (candidates_for w ask i s)
  here c k =
      subst₂ (λ a b. Among c (candidates_for w ask a b)) (same_Some k.identity i (sym k.who ∙ known.who)) (same_Some k.service s (sym k.what ∙ known.what))
      (Among-candidates_for w ask c k)

  -- the first rule that fails says what is not there
  denied : (d : Denial) → FailsFirst (failing w ask i s) d → IsDeniedFor w ask i s d
  denied d (inl (t, is)) = subst (IsDeniedFor w ask i s) is (known, is_absent-Absent ask.ingress t)
  denied d (inr (a, inl (t, is))) =
      subst (IsDeniedFor w ask i s) is (record { known = known; ingress = is_absent-not ask.ingress a }, eqb-true (w.dial i s) 0 t)
  denied d (inr (a, inr (b, inl (t, is)))) =
      subst (IsDeniedFor w ask i s) is (may_dial a b, λ r g. nothing_among (shared w ask.ingress i s) r t (Among-shared w ask.ingress i s r g))
  denied d (inr (a, inr (b, inr (c, inl (t, is))))) =
      subst (IsDeniedFor w ask i s) is (has_shared (may_dial a b) c, λ r g. nothing_among (ingresses w ask.ingress i s) r t (Among-ingresses w ask.ingress i s r g))
  denied d (inr (a, inr (b, inr (c, inr (e, inl (t, is)))))) =
      subst (IsDeniedFor w ask i s) is (may_enter (may_dial a b) e, λ x g. nothing_among (counted w s ask.instance) x t (Among-counted w s ask.instance x g))
  denied d (inr (a, inr (b, inr (c, inr (e, inr (f, inl (t, is))))))) =
      subst (IsDeniedFor w ask i s) is
      (has_terminator (may_enter (may_dial a b) e) f, λ x g. nothing_among (admissible w s ask.instance) x t (Among-admissible w s ask.instance x g))
  denied d (inr (a, inr (b, inr (c, inr (e, inr (f, inr (g, inl (t, is)))))))) =
      subst (IsDeniedFor w ask i s) is
      (may_end (may_enter (may_dial a b) e) g, λ x k. nothing_among (candidates_for w ask i s) x t (here x k))
  denied d (inr (a, inr (b, inr (c, inr (e, inr (f, inr (g, inr (h, inl (t, is))))))))) =
      subst (IsDeniedFor w ask i s) is
      (may_dial a b, by_something (candidates_for w ask i s) h (λ x m. (x, by_candidates_for w ask i s x known.who known.what m)), t)
  denied d (inr (a, inr (b, inr (c, inr (e, inr (f, inr (g, inr (h, inr (k, l))))))))) = absurd l

  -- ---- and where something is not there, its rule is the first that fails

  named-not : IsAddressed ask i s → is_absent ask.ingress ≡ false
  named-not k = not-is_absent ask.ingress k.ingress

  shared-not : (r : RouterSeen) → IsSharedRouter w ask.ingress i s r → is_nothing (shared w ask.ingress i s) ≡ false
  shared-not r g = something (shared w ask.ingress i s) r (Among-shared w ask.ingress i s r g)

  -- a possible ingress is shared
  ingress-shared : (r : RouterSeen) → IsIngress w ask.ingress i s r → IsSharedRouter w ask.ingress i s r
  ingress-shared r g = record { present = g.present; wanted = g.wanted; is_shared_by_both = g.is_shared_by_both }

  -- an admissible terminator is counted
  admissible-counted : (x : ℕ × Terminator) → IsAdmissible w s ask.instance x → IsCounted w s ask.instance x
  admissible-counted x g = record { present = g.present; is_counted_for = g.is_counted_for }

  after_dial : (d : Denial) → MayDial w ask i s
      → FailsFirst ((is_nothing (shared w ask.ingress i s), NoSharedRouter) ∷ (is_nothing (ingresses w ask.ingress i s), SharedRoutersOffline)
      ∷ (is_nothing (counted w s ask.instance), NoTerminators) ∷ (is_nothing (admissible w s ask.instance), NoAdmissibleTerminator)
      ∷ (is_nothing (candidates_for w ask i s), NoPath) ∷ (w.full, CircuitsFull) ∷ []) d
      → FailsFirst (failing w ask i s) d
  after_dial d k f = inr (named-not k.addressed, inr (dials-not (w.dial i s) k.dials, f))

  after_enter : (d : Denial) → MayDial w ask i s → (r : RouterSeen) → IsIngress w ask.ingress i s r
      → FailsFirst ((is_nothing (counted w s ask.instance), NoTerminators) ∷ (is_nothing (admissible w s ask.instance), NoAdmissibleTerminator)
      ∷ (is_nothing (candidates_for w ask i s), NoPath) ∷ (w.full, CircuitsFull) ∷ []) d
      → FailsFirst (failing w ask i s) d
  after_enter d k r g f =
      after_dial d k (inr (shared-not r (ingress-shared r g), inr (something (ingresses w ask.ingress i s) r (Among-ingresses w ask.ingress i s r g), f)))

  after_end : (d : Denial) → MayDial w ask i s → (r : RouterSeen) → IsIngress w ask.ingress i s r → (x : ℕ × Terminator) → IsAdmissible w s ask.instance x
      → FailsFirst ((is_nothing (candidates_for w ask i s), NoPath) ∷ (w.full, CircuitsFull) ∷ []) d
      → FailsFirst (failing w ask i s) d
  after_end d k r g x h f =
      after_enter d k r g
      (inr (
        something (counted w s ask.instance) x (Among-counted w s ask.instance x (admissible-counted x h)),
        inr (something (admissible w s ask.instance) x (Among-admissible w s ask.instance x h), f),
      ))

  at_end : MayDial w ask i s → (c : Candidate) → IsCandidate w ask c → w.full ≡ true → FailsFirst (failing w ask i s) CircuitsFull
  at_end may c k full =
      after_end CircuitsFull may k.router
      (subst₂ (λ a b. IsIngress w ask.ingress a b k.router) (same_Some k.identity i (sym k.who ∙ known.who)) (same_Some k.service s (sym k.what ∙ known.what)) k.enters)
      k.terminator (subst (λ b. IsAdmissible w b ask.instance k.terminator) (same_Some k.service s (sym k.what ∙ known.what)) k.ends)
      (inr (something (candidates_for w ask i s) c (here c k), inl (full, refl)))

  fails : (d : Denial) → IsDeniedFor w ask i s d → FailsFirst (failing w ask i s) d
  fails UnknownIdentity p = absurd p
  fails UnknownService p = absurd p
  fails UnknownRouter p = inl (ap is_absent p.1, refl)
  fails NoDial p = inr (named-not p.0, inl (eq-eqb (w.dial i s) 0 p.1, refl))
  fails NoSharedRouter p =
      after_dial NoSharedRouter p.0 (inl (is_nothing-from (shared w ask.ingress i s) (λ r m. p.1 r (by_shared w ask.ingress i s r m)), refl))
  fails SharedRoutersOffline p =
      after_dial SharedRoutersOffline p.0.may
      (inr (shared-not p.0.router p.0.shares, inl (is_nothing-from (ingresses w ask.ingress i s) (λ r m. p.1 r (by_ingresses w ask.ingress i s r m)), refl)))
  fails NoTerminators p =
      after_enter NoTerminators p.0.may p.0.router p.0.enters
      (inl (is_nothing-from (counted w s ask.instance) (λ e m. p.1 e (by_counted w s ask.instance e m)), refl))
  fails NoAdmissibleTerminator p =
      after_enter NoAdmissibleTerminator p.0.may.may p.0.may.router p.0.may.enters
      (inr (
        something (counted w s ask.instance) p.0.terminator (Among-counted w s ask.instance p.0.terminator p.0.counts),
        inl (is_nothing-from (admissible w s ask.instance) (λ e m. p.1 e (by_admissible w s ask.instance e m)), refl),
      ))
  fails NoPath p =
      after_end NoPath p.0.may.may p.0.may.router p.0.may.enters p.0.terminator p.0.ends
      (inl (is_nothing-from (candidates_for w ask i s) (λ c m. p.1 c (by_candidates_for w ask i s c known.who known.what m)), refl))
  fails CircuitsFull p = at_end p.0 p.1.0 p.1.1 p.2

-- ---- the rules of a request

-- the identity and the service of a denial for them are present
known_of : (w : Network) (ask : Ask) (i s : ℕ) (d : Denial) → IsDeniedFor w ask i s d → AreKnown ask i s
known_of w ask i s UnknownIdentity p = absurd p
known_of w ask i s UnknownService p = absurd p
known_of w ask i s UnknownRouter p = p.0
known_of w ask i s NoDial p = p.0.known
known_of w ask i s NoSharedRouter p = p.0.addressed.known
known_of w ask i s SharedRoutersOffline p = p.0.may.addressed.known
known_of w ask i s NoTerminators p = p.0.may.addressed.known
known_of w ask i s NoAdmissibleTerminator p = p.0.may.may.addressed.known
known_of w ask i s NoPath p = p.0.may.may.addressed.known
known_of w ask i s CircuitsFull p = p.0.addressed.known

is_denied : (w : Network) (ask : Ask) (i s : ℕ) (d : Denial) → IsDeniedFor w ask i s d → IsDenied w ask d
is_denied w ask i s UnknownIdentity p = absurd p
is_denied w ask i s UnknownService p = absurd p
is_denied w ask i s UnknownRouter p = (i, s, p)
is_denied w ask i s NoDial p = (i, s, p)
is_denied w ask i s NoSharedRouter p = (i, s, p)
is_denied w ask i s SharedRoutersOffline p = (i, s, p)
is_denied w ask i s NoTerminators p = (i, s, p)
is_denied w ask i s NoAdmissibleTerminator p = (i, s, p)
is_denied w ask i s NoPath p = (i, s, p)
is_denied w ask i s CircuitsFull p = (i, s, p)

rules_of : (w : Network) (ask : Ask) (i s : ℕ) → AreKnown ask i s → first_rule w ask ≡ first_denial (failing w ask i s)
rules_of w ask i s known =
    ap (λ o. option_map_or (λ i. option_map_or (λ s. first_denial (failing w ask i s)) ask.service (Some UnknownService)) o (Some UnknownIdentity)) known.who
    ∙ ap (λ o. option_map_or (λ s. first_denial (failing w ask i s)) o (Some UnknownService)) known.what

first_rule-denied : (w : Network) (ask : Ask) (d : Denial) → first_rule w ask ≡ Some d → IsDenied w ask d
first_rule-denied w ask d e = by ask.identity ask.service refl refl e
  where
    by : (a b : Option ℕ) → ask.identity ≡ a → ask.service ≡ b
        → option_map_or (λ i. option_map_or (λ s. first_denial (failing w ask i s)) b (Some UnknownService)) a (Some UnknownIdentity) ≡ Some d → IsDenied w ask d
    by None b who what e = subst (IsDenied w ask) (same_Some UnknownIdentity d e) who
    by (Some i) None who what e = subst (IsDenied w ask) (same_Some UnknownService d e) ((i, who), what)
    by (Some i) (Some s) who what e =
        is_denied w ask i s d (denied w ask i s (record { who = who; what = what }) d (first_denial-first (failing w ask i s) d e))

later : (w : Network) (ask : Ask) (i s : ℕ) (d : Denial) → IsDeniedFor w ask i s d → first_rule w ask ≡ Some d
later w ask i s d p =
    let known = known_of w ask i s d p in
    rules_of w ask i s known ∙ first-first_denial (failing w ask i s) d (fails w ask i s known d p)

denied-first_rule : (w : Network) (ask : Ask) (d : Denial) → IsDenied w ask d → first_rule w ask ≡ Some d
denied-first_rule w ask UnknownIdentity p =
    ap (λ o. option_map_or (λ i. option_map_or (λ s. first_denial (failing w ask i s)) ask.service (Some UnknownService)) o (Some UnknownIdentity)) p
denied-first_rule w ask UnknownService p =
    ap (λ o. option_map_or (λ i. option_map_or (λ s. first_denial (failing w ask i s)) ask.service (Some UnknownService)) o (Some UnknownIdentity)) p.0.1
    ∙ ap (λ o. option_map_or (λ s. first_denial (failing w ask p.0.0 s)) o (Some UnknownService)) p.1
denied-first_rule w ask UnknownRouter p = later w ask p.0 p.1 UnknownRouter p.2
denied-first_rule w ask NoDial p = later w ask p.0 p.1 NoDial p.2
denied-first_rule w ask NoSharedRouter p = later w ask p.0 p.1 NoSharedRouter p.2
denied-first_rule w ask SharedRoutersOffline p = later w ask p.0 p.1 SharedRoutersOffline p.2
denied-first_rule w ask NoTerminators p = later w ask p.0 p.1 NoTerminators p.2
denied-first_rule w ask NoAdmissibleTerminator p = later w ask p.0 p.1 NoAdmissibleTerminator p.2
denied-first_rule w ask NoPath p = later w ask p.0 p.1 NoPath p.2
denied-first_rule w ask CircuitsFull p = later w ask p.0 p.1 CircuitsFull p.2

pub first_rule-is : (w : Network) (ask : Ask) (d : Denial) → (first_rule w ask ≡ Some d) ↔ IsDenied w ask d
first_rule-is w ask d = (first_rule-denied w ask d, denied-first_rule w ask d)
