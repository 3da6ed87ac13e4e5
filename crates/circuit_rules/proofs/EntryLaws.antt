-- Laws on where a circuit enters: the rules on it, each found by looking at the routers one by one.
use Rattle.std.proofs.Common.{◌≡◌, ℕ, Bool, true, false, ◌&&◌, ◌||◌, ◌==◌, not, cond, List, [], ◌∷◌, None, Some, refl, sym, ◌∙◌, ap, subst₂, arith, filter, zero, suc, ◌≤◌, ne_eqb}
use Rattle.std.proofs.lemmas.Bool.{false≢true}
use Rattle.std.proofs.lemmas.Option.{same_Some}
use Rattle.std.specs.List.{list_any}
use Rattle.ctrl_model.specs.declared.kinds.RouterSeen.{RouterSeen}
use Rattle.ctrl_model.specs.declared.refusals.Denial.TheVariants.{UnknownRouter, NoDial, NoSharedRouter, SharedRoutersOffline}
use Rattle.ctrl_model.specs.Matches.{is_nothing}
use Rattle.ctrl_model.specs.Networks.{Network, is_shared}
use Rattle.ctrl_model.specs.Choices.{Ask, Wanted, is_wanted, is_absent, ingresses, first_denial}
use Rattle.ctrl_model.proofs.Members.{by_something}
use Rattle.model_laws.proofs.CandidateLaws.{by_ingresses, best-is}
use Rattle.model_laws.proofs.RuleLaws.{first_denial-none, first_rule-none}
use Rattle.circuit_rules.specs.declared.views.Route.{Route}
use Rattle.circuit_rules.specs.Decisions.{Grants, MayWantMemory}
use Rattle.circuit_rules.specs.Searched.{entry_rules, MayBeEntered}

-- ---- lists

-- a filter leaves nothing where nothing passes
nothing_passes : {X : Type 0} (p : X → Bool) (xs : List X) → is_nothing (filter p xs) ≡ not (list_any p xs)
nothing_passes p [] = refl
nothing_passes p (x ∷ xs) = by (p x) (nothing_passes p xs)
  where
    by : (b : Bool) → is_nothing (filter p xs) ≡ not (list_any p xs) → is_nothing (cond b (x ∷ filter p xs) (filter p xs)) ≡ not (b || list_any p xs)
    by true rest = refl
    by false rest = rest

-- one filter after another is one by both
pub filter_both : {X : Type 0} (p q : X → Bool) (xs : List X) → filter p (filter q xs) ≡ filter (λ x. p x && q x) xs
filter_both p q [] = refl
filter_both p q (x ∷ xs) = by (q x) (p x) refl (filter_both p q xs)
  where
    by : (b a : Bool) → p x ≡ a → filter p (filter q xs) ≡ filter (λ y. p y && q y) xs
        → filter p (cond b (x ∷ filter q xs) (filter q xs)) ≡ cond (p x && b) (x ∷ filter (λ y. p y && q y) xs) (filter (λ y. p y && q y) xs)
    by true true e rest = ap (λ c. cond c (x ∷ filter p (filter q xs)) (filter p (filter q xs))) e ∙ ap (λ ys. x ∷ ys) rest
        ∙ sym (ap (λ c. cond (c && true) (x ∷ filter (λ y. p y && q y) xs) (filter (λ y. p y && q y) xs)) e)
    by true false e rest = ap (λ c. cond c (x ∷ filter p (filter q xs)) (filter p (filter q xs))) e ∙ rest
        ∙ sym (ap (λ c. cond (c && true) (x ∷ filter (λ y. p y && q y) xs) (filter (λ y. p y && q y) xs)) e)
    by false true e rest = rest ∙ sym (ap (λ c. cond (c && false) (x ∷ filter (λ y. p y && q y) xs) (filter (λ y. p y && q y) xs)) e)
    by false false e rest = rest ∙ sym (ap (λ c. cond (c && false) (x ∷ filter (λ y. p y && q y) xs) (filter (λ y. p y && q y) xs)) e)

-- ---- the rules on where a circuit enters

-- whether a router is one of those that are shared and wanted
abbrev pub is_among_shared : Network → Wanted → ℕ → ℕ → RouterSeen → Bool
is_among_shared w ingress i s r = is_wanted ingress r.no.0 && is_shared w i s r.no.0

-- the possible ingresses, by one test
pub ingresses-are : (w : Network) (ingress : Wanted) (i s : ℕ)
    → ingresses w ingress i s ≡ filter (λ (r : RouterSeen). r.connected && is_among_shared w ingress i s r) w.routers
ingresses-are w ingress i s = filter_both (λ (r : RouterSeen). r.connected) (is_among_shared w ingress i s) w.routers

-- the first rule that fails, by what is found at the routers
entry_denial-is : (w : Network) (ingress : Wanted) (i s : ℕ)
    → first_denial (entry_rules w ingress i s)
    ≡ cond (is_absent ingress) (Some UnknownRouter) (cond (w.dial i s == 0) (Some NoDial)
    (cond (not (list_any (is_among_shared w ingress i s) w.routers)) (Some NoSharedRouter)
    (cond (not (list_any (λ (r : RouterSeen). r.connected && is_among_shared w ingress i s r) w.routers)) (Some SharedRoutersOffline) None)))
entry_denial-is w ingress i s = λ j.
    cond (is_absent ingress) (Some UnknownRouter) (cond (w.dial i s == 0) (Some NoDial)
    (cond (nothing_passes (is_among_shared w ingress i s) w.routers j) (Some NoSharedRouter)
    (cond ((ap is_nothing (ingresses-are w ingress i s) ∙ nothing_passes (λ (r : RouterSeen). r.connected && is_among_shared w ingress i s r) w.routers) j) (Some SharedRoutersOffline) None)))

-- and the same of these facts as they are looked up
pub denied_first : (w : Network) (ingress : Wanted) (i s : ℕ) (absent undialled a b : Bool) → absent ≡ is_absent ingress → undialled ≡ (w.dial i s == 0)
    → a ≡ list_any (is_among_shared w ingress i s) w.routers → b ≡ list_any (λ (r : RouterSeen). r.connected && is_among_shared w ingress i s r) w.routers
    → first_denial ((absent, UnknownRouter) ∷ (undialled, NoDial) ∷ (not a, NoSharedRouter) ∷ (not b, SharedRoutersOffline) ∷ []) ≡ first_denial (entry_rules w ingress i s)
denied_first w ingress i s absent undialled a b named dials shares connects =
    (λ j. cond (named j) (Some UnknownRouter) (cond (dials j) (Some NoDial) (cond (not (shares j)) (Some NoSharedRouter) (cond (not (connects j)) (Some SharedRoutersOffline) None))))
    ∙ sym (entry_denial-is w ingress i s)

-- ---- a request that these rules pass

dials_from : (n : ℕ) → (n == 0) ≡ false → 1 ≤ n
dials_from zero e = absurd (false≢true (sym e))
dials_from (suc n) e = omega arith

-- there is a router where its circuit may enter, so that it may want memory
pub entered_wants : (w : Network) (ask : Ask) (i s : ℕ) → ask.identity ≡ Some i → ask.service ≡ Some s → MayBeEntered w ask.ingress i s → MayWantMemory w ask
entered_wants w ask i s who what passes =
    let parts = first_denial-none (entry_rules w ask.ingress i s) passes in (
      i,
      s,
      by_something (ingresses w ask.ingress i s) parts.1.1.1.0 (λ r m. record {
        may = record {
          addressed = record { known = record { who = who; what = what }; ingress = λ absent. false≢true (sym parts.0 ∙ ap is_absent absent) };
          dials = dials_from (w.dial i s) parts.1.0;
        };
        router = r;
        enters = by_ingresses w ask.ingress i s r m;
      }),
    )

-- and so may one that is granted
pub granted_wants : (w : Network) (ask : Ask) (r : Route) → Grants w ask r → MayWantMemory w ask
granted_wants w ask r g =
    let rules = (first_rule-none w ask).0 g.passes in
    let k = ((best-is w ask g.chosen).0 g.is_best).is_candidate in
    let dials = subst₂ (λ i s. (w.dial i s == 0) ≡ false) (same_Some rules.identity k.identity (sym rules.who ∙ k.who)) (same_Some rules.service k.service (sym rules.what ∙ k.what)) rules.dials in (
      k.identity,
      k.service,
      record {
        may = record {
          addressed = record { known = record { who = k.who; what = k.what }; ingress = λ absent. false≢true (ap (λ (wanted : Wanted). is_wanted wanted k.router.no.0) (sym absent) ∙ k.enters.wanted) };
          dials = dials_from (w.dial k.identity k.service) dials;
        };
        router = k.router;
        enters = k.enters;
      },
    )
