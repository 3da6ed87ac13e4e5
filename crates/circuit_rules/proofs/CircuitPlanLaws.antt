-- What plans of commands on circuits have to show: that what is decided by the parts is what the controller decides in each state
-- with these parts and these grant counts.
use Rattle.std.proofs.Common.{◌≡◌, ℕ, Bool, false, List, None, Some, unwrap_or, refl, sym, ◌∙◌, ap, subst}
use Rattle.std.proofs.lemmas.Bool.{true≢false}
use Rattle.std.specs.Prelude.{map}
use Rattle.std.specs.Option.{option_map_or}
use Rattle.ctrl_model.specs.declared.claims.Explanation.{Explanation}
use Rattle.ctrl_model.specs.declared.claims.Reach.{Reach}
use Rattle.ctrl_model.specs.declared.kinds.Kind.TheVariants as kind
use Rattle.ctrl_model.specs.declared.numbering.IdentityNo.{IdentityNo}
use Rattle.ctrl_model.specs.declared.numbering.ServiceNo.{ServiceNo}
use Rattle.ctrl_model.specs.declared.refusals.Denial.{Denial}
use Rattle.ctrl_model.specs.declared.refusals.Refusal.TheVariants.{Denied}
use Rattle.ctrl_model.specs.declared.replies.Reply.{Reply}
use Rattle.ctrl_model.specs.declared.replies.Reply.TheVariants.{Refused, Explained, Verified}
use Rattle.ctrl_model.specs.declared.replies.Reply.TheVariants as reply
use Rattle.ctrl_model.specs.Choices.{Ask, Candidate, best, first_rule}
use Rattle.ctrl_model.specs.CircuitCommands.{decided, router_name, after_create_circuit, granted_reply, create_circuit, explain, claim_from, verify_route}
use Rattle.ctrl_model.specs.Claims.{explanation_of, justified}
use Rattle.ctrl_model.specs.Networks.{network_of, seen}
use Rattle.ctrl_model.specs.Numbered.{with_new}
use Rattle.ctrl_model.specs.Settling.{settle}
use Rattle.ctrl_model.specs.State.{State, router_named}
use Rattle.model_laws.proofs.RuleLaws.{first_rule-none}
use Rattle.circuits.specs.CircuitTables.{is_full}
use Rattle.circuit_rules.specs.declared.views.Route.{Route}
use Rattle.circuit_rules.specs.Decisions.{Grants, route_of}
use Rattle.circuit_rules.specs.Explanations.{IsExplained}
use Rattle.circuit_rules.specs.declared.circuit_asking.Request.{Request}
use Rattle.circuits.specs.declared.changes.CircuitChange.TheVariants as change
use Rattle.model_laws.specs.declared.plans.Plan.{Plan}
use Rattle.model_laws.specs.Plans.{shown, refused, changed}
use Rattle.circuits.specs.declared.changes.CircuitChange.{CircuitChange}
use Rattle.circuit_rules.specs.declared.circuit_parts.Parts.{Parts}
use Rattle.circuit_rules.specs.CircuitParts.{with_parts, AreGrants}
use Rattle.circuit_rules.specs.CircuitPlans.{PlansCircuits}
use Rattle.circuit_rules.specs.PlannedCircuits.{Answers, with_entities, ask_at, router_at, network_in}
use Rattle.circuit_rules.proofs.StandingGrants.{best_stands}

-- the network of these parts is that of the state
network_is : (p : Parts) (s : State) → AreGrants p (with_parts p s) → network_of (with_parts p s) ≡ network_in p
network_is p s g = λ i. record {
  routers = map seen p.entities.now.routers.rows;
  links = p.fabric.now.links.rows;
  least = p.fabric.now.least;
  terminators = p.terminators.now.terminators.rows;
  load = λ n. sym (g.load n) i;
  dial = λ a b. sym (g.dial a b) i;
  bind = λ a b. sym (g.bind a b) i;
  identity_router = λ a b. sym (g.identity_router a b) i;
  service_router = λ a b. sym (g.service_router a b) i;
  full = is_full p.circuits.now;
}

-- a request that is looked up in these parts is looked up in the state
pub asked_so : (answer : Ask → State → Reply × State) (a : Ask) (r : Request) (p : Parts) (plan : Plan CircuitChange) → a ≡ ask_at r (with_entities p.entities.now)
    → Answers (answer a) p plan → Answers (λ s. answer (ask_at r s) s) p plan
asked_so answer a r p plan e h = subst (λ b. Answers (answer b) p plan) e h

-- ---- denials and grants

-- the answer to CreateCircuit where a candidate is granted
abbrev pub creates : Ask → State → Candidate → Reply × State
creates ask s c = (granted_reply c s, settle (after_create_circuit ask c s))

-- the answer to Explain where a candidate would be granted
abbrev pub explains : Ask → State → Candidate → Reply × State
explains ask s c = (Explained (router_name s c.ingress) (explanation_of (network_of s) ask (unwrap_or ask.service 0) c), s)

-- a request by these parts that a rule denies
pub denied_planned : (p : Parts) (ask : Ask) (d : Denial) (granted : State → Candidate → Reply × State) → first_rule (network_in p) ask ≡ Some d
    → Answers (λ s. decided (first_rule (network_of s) ask) (best (network_of s) ask) (λ x. (Refused (Denied x), s)) (granted s)) p (refused (Denied d))
denied_planned p ask d granted e = λ s valid grants.
    let S : State = with_parts p s in
    subst (λ o. PlansCircuits (refused (Denied d)) (decided o (best (network_of S) ask) (λ x. (Refused (Denied x), S)) (granted S)) S)
    (sym (ap (λ w. first_rule w ask) (network_is p s grants) ∙ e))
    (record { reply = refl; can = tt; next = refl; still = λ tells. refl })

-- a request by these parts that is granted, in a state of which they are the parts
granted_so : (p : Parts) (ask : Ask) (c : Candidate) (s : State) (granted : Candidate → Reply × State) (denied : Denial → Reply × State) → AreGrants p (with_parts p s)
    → first_rule (network_in p) ask ≡ None → best (network_in p) ask ≡ Some c
    → decided (first_rule (network_of (with_parts p s)) ask) (best (network_of (with_parts p s)) ask) denied granted ≡ granted c
granted_so p ask c s granted denied grants passes is_best =
    ap (λ w. decided (first_rule w ask) (best w ask) denied granted) (network_is p s grants)
    ∙ ap (λ o. decided o (best (network_in p) ask) denied granted) passes ∙ ap (λ o. decided None o denied granted) is_best

-- the plan of a route that was granted
abbrev pub plan_of_grant : Parts → Route → IdentityNo → ServiceNo → Plan CircuitChange
plan_of_grant p r identity service =
    changed (reply.Circuit (record { 0 = p.circuits.now.circuits.next }) (router_at r.ingress.0 p.entities.now) r.links r.terminator r.total)
    (change.Add (record { identity = identity.0; service = service.0; terminator = r.terminator.0; ingress = r.ingress.0; links = r.links }))

pub grant_planned : (p : Parts) (ask : Ask) (r : Route) (identity : IdentityNo) (service : ServiceNo) → ask.identity ≡ Some identity.0 → ask.service ≡ Some service.0
    → Grants (network_in p) ask r → Answers (create_circuit ask) p (plan_of_grant p r identity service)
grant_planned p ask r identity service who what g = λ s valid grants.
    let S : State = with_parts p s in
    let c : Candidate = g.chosen in
    subst (λ q. PlansCircuits (plan_of_grant p q identity service) (create_circuit ask S) S) (sym g.route)
    (subst (λ answered. PlansCircuits (plan_of_grant p (route_of c) identity service) answered S)
    (sym (granted_so p ask c s (creates ask S) (λ d. (Refused (Denied d), S)) grants g.passes g.is_best))
    (record {
      reply = refl;
      can = (
        ((first_rule-none (network_in p) ask).0 g.passes).room,
        best_stands S ask c identity.0 service.0 S.terminators.next (valid.kinds kind.Terminator).numbers.ordered who what
            (ap (λ w. first_rule w ask) (network_is p s grants) ∙ g.passes) (ap (λ w. best w ask) (network_is p s grants) ∙ g.is_best),
      );
      next = λ i. settle (record S {
        circuits = with_new (record {
          identity = unwrap_or (sym who i) 0;
          service = unwrap_or (sym what i) 0;
          terminator = c.terminator;
          ingress = c.ingress;
          links = c.links;
        }) S.circuits;
      });
      still = λ tells_none. absurd (true≢false tells_none);
    }))

-- ---- explanations and claims

pub explanation_planned : (p : Parts) (ask : Ask) (claim : Explanation) → IsExplained (network_in p) ask claim
    → Answers (explain ask) p (shown (Explained (router_at claim.ingress.0 p.entities.now) claim))
explanation_planned p ask claim x = λ s valid grants.
    let S : State = with_parts p s in
    let c : Candidate = x.chosen in
    let plan : Explanation → Plan CircuitChange = λ e. shown (Explained (router_at e.ingress.0 p.entities.now) e) in
    let told : claim ≡ explanation_of (network_of S) ask (unwrap_or ask.service 0) c =
    x.explained ∙ ap (λ w. explanation_of w ask (unwrap_or ask.service 0) c) (sym (network_is p s grants)) in
    subst (λ e. PlansCircuits (plan e) (explain ask S) S) (sym told)
    (subst (λ answered. PlansCircuits (plan (explanation_of (network_of S) ask (unwrap_or ask.service 0) c)) answered S)
    (sym (granted_so p ask c s (explains ask S) (λ d. (Refused (Denied d), S))
    grants x.passes x.is_best))
    (record { reply = refl; can = tt; next = refl; still = λ tells. refl }))

pub claim_planned : (p : Parts) (ask : Ask) (chosen links : List ℕ) (potentials : List Reach) (routers : List ℕ) (terminator total r : ℕ) (certified : Bool)
    → router_named p.entities.now.routers.rows chosen ≡ Some r → certified ≡ justified (network_in p) ask (claim_from links potentials routers terminator total r)
    → Answers (verify_route ask chosen links potentials routers terminator total) p (shown (Verified certified))
claim_planned p ask chosen links potentials routers terminator total r certified found e = λ s valid grants.
    let S : State = with_parts p s in
    let claim = claim_from links potentials routers terminator total in
    let is : option_map_or (λ n. justified (network_of S) ask (claim n)) (router_named p.entities.now.routers.rows chosen) false ≡ certified =
    ap (λ o. option_map_or (λ n. justified (network_of S) ask (claim n)) o false) found ∙ ap (λ w. justified w ask (claim r)) (network_is p s grants) ∙ sym e in
    record { reply = ap Verified (sym is); can = tt; next = refl; still = λ tells. refl }
