-- The findings of an advice are those of the rules.
use Rattle.std.proofs.Common.{◌≡◌, ℕ, ◌==◌, ◌&&◌, Bool, true, false, cond, filter, List, [], ◌∷◌, ◌++◌, map, Option, Some, None, refl, ap, ◌∙◌}
use Rattle.ctrl_model.specs.declared.kinds.RouterSeen.{RouterSeen}
use Rattle.ctrl_model.specs.declared.refusals.Denial.TheVariants.{UnknownIdentity, UnknownService, NoDial, NoSharedRouter, SharedRoutersOffline, NoTerminators, NoAdmissibleTerminator}
use Rattle.ctrl_model.specs.Choices.{Any, shared, ingresses}
use Rattle.ctrl_model.specs.Matches.{is_nothing}
use Rattle.ctrl_model.specs.Networks.{Network, counted, admissible}
use Rattle.ctrl_model.specs.State.{Entity, Policy, Terminator, entity_named}
use Rattle.policy_advisor.specs.declared.advised.Advice.{Advice}
use Rattle.policy_advisor.specs.declared.advised.Marked.{Marked}
use Rattle.policy_advisor.specs.Advice.{advice_on, dial_marks, entity_with, grants_dial, is_matched, marked, of_both}
use Rattle.access_reasons.specs.declared.findings.Sides.TheVariants.{Both}
use Rattle.access_reasons.specs.Reasons.{Facts, admissible_parts, advice_by, asked_parts, dial_parts, finding_of, findings_in, has_sides, name_parts, names_with, name_rules, online_parts, pair_parts, pair_rules, shared_parts, terminator_parts}
use Rattle.access_reasons.specs.Steps.{findings_by, findings_with, way_findings}

nothing-map : {X Y : Type 0} (f : X → Y) (xs : List X) → is_nothing (map f xs) ≡ is_nothing xs
nothing-map f [] = refl
nothing-map f (x ∷ xs) = refl

-- by the numbers that two names have
findings-with : (f : Facts) (identity service : List ℕ) (marks : List Marked) (i j : Option ℕ) (a : Advice) → a ≡ advice_on f.network marks i j
    → findings_with f.network f.identities f.routers a identity service i j
    ≡ map (finding_of (asked_parts identity service)) (name_rules i j) ++ of_both i j [] (λ i s. map (finding_of (pair_parts f a i s)) (pair_rules f.network i s))
findings-with f identity service marks None j a e = refl
findings-with f identity service marks (Some i) None a e = refl
findings-with f identity service marks (Some i) (Some s) a e = λ k.
    record { rule = UnknownIdentity; fails = false; parts = name_parts identity }
    ∷ record { rule = UnknownService; fails = false; parts = name_parts service }
    ∷ record { rule = NoDial; fails = dial k; parts = dial_parts a.policies }
    ∷ record { rule = NoSharedRouter; fails = common k; parts = shared_parts f.network f.routers a i s }
    ∷ record { rule = SharedRoutersOffline; fails = online k; parts = online_parts f.routers a }
    ∷ record { rule = NoTerminators; fails = terminators k; parts = terminator_parts a }
    ∷ record { rule = NoAdmissibleTerminator; fails = ends k; parts = admissible_parts f.network f.identities f.routers a }
    ∷ way_findings f.network f.routers a i s
  where
    w : Network
    w = f.network

    dial : (a.dial == 0) ≡ (w.dial i s == 0)
    dial = ap (λ (x : Advice). x.dial == 0) e

    common : is_nothing a.common ≡ is_nothing (shared w Any i s)
    common = ap (λ (x : Advice). is_nothing x.common) e ∙ nothing-map (λ (r : RouterSeen). r.no.0) (shared w Any i s)

    online : is_nothing a.online ≡ is_nothing (ingresses w Any i s)
    online = ap (λ (x : Advice). is_nothing x.online) e ∙ nothing-map (λ (r : RouterSeen). r.no.0) (ingresses w Any i s)

    terminators : is_nothing a.terminators ≡ is_nothing (counted w s [])
    terminators = ap (λ (x : Advice). is_nothing x.terminators) e ∙ nothing-map (λ (t : ℕ × Terminator). t.0) (counted w s [])

    ends : is_nothing a.admissible ≡ is_nothing (admissible w s [])
    ends = ap (λ (x : Advice). is_nothing x.admissible) e ∙ nothing-map (λ (t : ℕ × Terminator). t.0) (admissible w s [])

pub findings-by : (f : Facts) (identity service : List ℕ) (a : Advice) → a ≡ advice_by f identity service
    → findings_by f.network f.identities f.services f.routers a identity service ≡ findings_in f identity service
findings-by f identity service a e =
    findings-with f identity service (dial_marks (entity_with f.identities identity) (entity_with f.services service) f.policies) i j a e
    ∙ (λ k. map (finding_of (asked_parts identity service)) (name_rules i j) ++ of_both i j [] (λ i s. map (finding_of (pair_parts f (e k) i s)) (pair_rules f.network i s)))
  where
    i : Option ℕ
    i = entity_named f.identities identity

    j : Option ℕ
    j = entity_named f.services service

-- ---- policies of who is absent

pub no_names-left : (t : Option Entity) (rows : List (ℕ × Policy)) → names_with Both (dial_marks None t rows) ≡ []
no_names-left t [] = refl
no_names-left t (row ∷ rows) = by (grants_dial row.1) (no_names-left t rows)
  where
    by : (b : Bool) → names_with Both (dial_marks None t rows) ≡ []
        → names_with Both (map (λ (x : ℕ × Policy). marked None t x.1) (cond b (row ∷ filter (λ x. grants_dial x.1) rows) (filter (λ x. grants_dial x.1) rows))) ≡ []
    by true e = e
    by false e = e

-- a mark of which the right side does not match is left out
left_out : (c : Bool) (m : Marked) (ms : List Marked) → map (λ (x : Marked). x.name) (cond (c && false) (m ∷ ms) ms) ≡ map (λ (x : Marked). x.name) ms
left_out true m ms = refl
left_out false m ms = refl

pub no_names-right : (e : Option Entity) (rows : List (ℕ × Policy)) → names_with Both (dial_marks e None rows) ≡ []
no_names-right e [] = refl
no_names-right e (row ∷ rows) = by (grants_dial row.1) (no_names-right e rows)
  where
    by : (b : Bool) → names_with Both (dial_marks e None rows) ≡ []
        → names_with Both (map (λ (x : ℕ × Policy). marked e None x.1) (cond b (row ∷ filter (λ x. grants_dial x.1) rows) (filter (λ x. grants_dial x.1) rows))) ≡ []
    by true h = left_out (is_matched e row.1.semantic row.1.left) (marked e None row.1) (filter (has_sides Both) (dial_marks e None rows)) ∙ h
    by false h = h
