-- Why an identity can or cannot reach a service, and who can reach one: a finding for each rule of a circuit request (docs/RULES.md,
-- "Reasons").
use Rattle.std.specs.Prelude.{ℕ, ◌==◌, Bool, false, not, ◌&&◌, nat_lt, if◌then◌else◌, List, [], ◌∷◌, ◌++◌, map, filter, drop, length, codes, decimal, is_none, Some}
use Rattle.std.specs.declared.option.Option.{Option}
use Rattle.std.specs.Option.{option_map_or}
use Rattle.std.specs.List.{list_any}
use Rattle.ctrl_model.specs.declared.refusals.Denial.{Denial}
use Rattle.ctrl_model.specs.declared.refusals.Denial.TheVariants.{UnknownIdentity, UnknownService, UnknownRouter, NoDial, NoSharedRouter, SharedRoutersOffline, NoTerminators, NoAdmissibleTerminator, NoPath, CircuitsFull}
use Rattle.ctrl_model.specs.Choices.{failing}
use Rattle.ctrl_model.specs.CircuitCommands.{name_of}
use Rattle.ctrl_model.specs.Networks.{Network, network_of, is_on, is_shared}
use Rattle.ctrl_model.specs.Numbered.{at, numbers}
use Rattle.ctrl_model.specs.State.{State, Entity, Router, Policy, Terminator, entity_named}
use Rattle.ctrl_model.specs.Walks.{is_among}
use Rattle.policy_advisor.specs.declared.advised.Advice.{Advice}
use Rattle.policy_advisor.specs.declared.advised.Marked.{Marked}
use Rattle.policy_advisor.specs.Advice.{advice_in, dial_marks, has_both, of_both, plain_ask, router_numbers}
use Rattle.policy_advisor.specs.Reports.{router_name}
use Rattle.access_reasons.specs.declared.findings.Finding.{Finding}
use Rattle.access_reasons.specs.declared.findings.Part.{Part}
use Rattle.access_reasons.specs.declared.findings.Sides.{Sides}
use Rattle.access_reasons.specs.declared.findings.Sides.TheVariants.{Both, IdentityOnly, ServiceOnly}
use Rattle.access_reasons.specs.declared.findings.Standing.{Standing}
use Rattle.access_reasons.specs.declared.findings.Standing.TheVariants.{Admissible, RouterOffline, HostWithoutBind, HostWithoutRouter}

-- ---- what is known

-- What a state says of who reaches what: its network, its identities, services and routers, and its service policies.
pub record Facts : Type 0 where
  pub network : Network
  pub identities : List (ℕ × Entity)
  pub services : List (ℕ × Entity)
  pub routers : List (ℕ × Router)
  pub policies : List (ℕ × Policy)

-- The facts of a state.
abbrev pub facts_of : State → Facts
facts_of s = record {
  network = network_of s;
  identities = s.identities.rows;
  services = s.services.rows;
  routers = s.routers.rows;
  policies = s.service_policies.rows;
}

-- The advice on two names by the facts.
abbrev pub advice_by : Facts → List ℕ → List ℕ → Advice
advice_by f identity service = advice_in f.network f.policies f.identities f.services identity service

-- ---- what meets a rule or fails it

-- Items under a key.
abbrev pub part : List ℕ → List (List ℕ) → Part
part key items = record { key = key; items = items }

-- Of the rule that a name is known: the name.
abbrev pub name_parts : List ℕ → List Part
name_parts name = part (codes "name") (name ∷ []) ∷ []

-- Whether exactly these sides of a policy match.
abbrev pub has_sides : Sides → Marked → Bool
has_sides Both m = has_both m
has_sides IdentityOnly m = m.left && not m.right
has_sides ServiceOnly m = not m.left && m.right

-- The names of the policies of which exactly these sides match.
abbrev pub names_with : Sides → List Marked → List (List ℕ)
names_with sides marks = map (λ m. m.name) (filter (has_sides sides) marks)

-- Of the rule on Dial: the policies that grant it to the pair, and those that match one of the two alone.
abbrev pub dial_parts : List Marked → List Part
dial_parts marks =
    part (codes "policies") (names_with Both marks)
    ∷ part (codes "identity-only") (names_with IdentityOnly marks)
    ∷ part (codes "service-only") (names_with ServiceOnly marks)
    ∷ []

-- The names of the routers of some numbers.
abbrev pub names_of : List (ℕ × Router) → List ℕ → List (List ℕ)
names_of routers ns = map (router_name routers) ns

-- The routers that an identity is granted, by edge-router policies.
abbrev pub identity_routers : Network → ℕ → List ℕ
identity_routers w i = router_numbers (filter (λ r. nat_lt 0 (w.identity_router i r.no.0)) w.routers)

-- The routers that a service is granted, by service-edge-router policies.
abbrev pub service_routers : Network → ℕ → List ℕ
service_routers w s = router_numbers (filter (λ r. nat_lt 0 (w.service_router s r.no.0)) w.routers)

-- Of the rule on shared routers: those, and the routers of each of the two.
abbrev pub shared_parts : Network → List (ℕ × Router) → Advice → ℕ → ℕ → List Part
shared_parts w routers a i s =
    part (codes "shared") (names_of routers a.common)
    ∷ part (codes "identity") (names_of routers (identity_routers w i))
    ∷ part (codes "service") (names_of routers (service_routers w s))
    ∷ []

-- The shared routers that are not connected.
abbrev pub offline : Advice → List ℕ
offline a = filter (λ n. not (is_among n a.online)) a.common

-- Of the rule on connected ones: the shared routers that are connected, and those that are not.
abbrev pub online_parts : List (ℕ × Router) → Advice → List Part
online_parts routers a = part (codes "online") (names_of routers a.online) ∷ part (codes "offline") (names_of routers (offline a)) ∷ []

-- Of the rule on terminators: how many the service has, of the empty instance.
abbrev pub terminator_parts : Advice → List Part
terminator_parts a = part (codes "count") (decimal (length a.terminators) ∷ []) ∷ []

-- Whether the host of a terminator may serve, or the first cause why not.
abbrev pub host_standing : Network → Terminator → ℕ → Standing
host_standing w e h =
    if nat_lt 0 (w.bind h e.service)
    then (if is_shared w h e.service e.router then Admissible else HostWithoutRouter)
    else HostWithoutBind

-- Whether a circuit may end at a terminator, or the first cause why not.
abbrev pub standing : Network → Terminator → Standing
standing w e = if is_on w e.router then option_map_or (host_standing w e) e.host Admissible else RouterOffline

-- The word of a standing.
abbrev pub standing_word : Standing → List ℕ
standing_word Admissible = codes "admissible"
standing_word RouterOffline = codes "router-offline"
standing_word HostWithoutBind = codes "host-without-bind"
standing_word HostWithoutRouter = codes "host-without-router"

-- A host by name, if there is one.
abbrev pub host_names : List (ℕ × Entity) → Option ℕ → List (List ℕ)
host_names identities host = option_map_or (λ h. name_of identities h ∷ []) host []

-- A terminator: its router, its standing, and its host.
abbrev pub terminator_items : Network → List (ℕ × Entity) → List (ℕ × Router) → Terminator → List (List ℕ)
terminator_items w identities routers e =
    router_name routers e.router ∷ standing_word (standing w e) ∷ host_names identities e.host

-- The same under its number.
abbrev pub terminator_part : Network → List (ℕ × Entity) → List (ℕ × Router) → ℕ → Part
terminator_part w identities routers n =
    part (decimal n) (option_map_or (terminator_items w identities routers) (at w.terminators n) [])

-- Of the rule on admissible terminators: each terminator that is counted.
abbrev pub admissible_parts : Network → List (ℕ × Entity) → List (ℕ × Router) → Advice → List Part
admissible_parts w identities routers a = map (terminator_part w identities routers) a.terminators

-- Whether the terminator of a number stands on a router.
abbrev pub stands_on : Network → ℕ → ℕ → Bool
stands_on w r n = option_map_or (λ (e : Terminator). e.router == r) (at w.terminators n) false

-- The routers on which terminators of these numbers stand.
abbrev pub routers_under : Network → List ℕ → List ℕ
routers_under w ns = router_numbers (filter (λ r. list_any (stands_on w r.no.0) ns) w.routers)

-- Of the rule on paths: the routers at which one may begin, and those at which it may end.
abbrev pub path_parts : Network → List (ℕ × Router) → Advice → List Part
path_parts w routers a =
    part (codes "from") (names_of routers a.online) ∷ part (codes "to") (names_of routers (routers_under w a.admissible)) ∷ []

-- What meets or fails a rule on an identity and a service that are present, of their advice.
abbrev pub pair_parts : Facts → Advice → ℕ → ℕ → Denial → List Part
pair_parts f a i s UnknownIdentity = []
pair_parts f a i s UnknownService = []
pair_parts f a i s UnknownRouter = []
pair_parts f a i s NoDial = dial_parts a.policies
pair_parts f a i s NoSharedRouter = shared_parts f.network f.routers a i s
pair_parts f a i s SharedRoutersOffline = online_parts f.routers a
pair_parts f a i s NoTerminators = terminator_parts a
pair_parts f a i s NoAdmissibleTerminator = admissible_parts f.network f.identities f.routers a
pair_parts f a i s NoPath = path_parts f.network f.routers a
pair_parts f a i s CircuitsFull = []

-- ---- why

-- The finding of a rule that fails or does not.
abbrev pub finding_of : (Denial → List Part) → Bool × Denial → Finding
finding_of parts x = record { rule = x.1; fails = x.0; parts = parts x.1 }

-- The rules that the two are present, each with whether it fails.
abbrev pub name_rules : Option ℕ → Option ℕ → List (Bool × Denial)
name_rules i j = (is_none i, UnknownIdentity) ∷ (is_none j, UnknownService) ∷ []

-- What meets or fails them: the names that are asked for.
abbrev pub asked_parts : List ℕ → List ℕ → Denial → List Part
asked_parts identity service UnknownIdentity = name_parts identity
asked_parts identity service _ = name_parts service

-- The rules of a request of the two where they are present. No ingress is named, so the rule on a named one, which is the first, is left
-- out.
abbrev pub pair_rules : Network → ℕ → ℕ → List (Bool × Denial)
pair_rules w i s = drop 1 (failing w (plain_ask (Some i) (Some s)) i s)

-- The findings on two names and the numbers that they have: whether the two are present, and where they are, the rules of their request.
abbrev pub findings_at : Facts → List ℕ → List ℕ → Option ℕ → Option ℕ → List Finding
findings_at f identity service i j =
    map (finding_of (asked_parts identity service)) (name_rules i j)
    ++ of_both i j [] (λ i s. map (finding_of (pair_parts f (advice_by f identity service) i s)) (pair_rules f.network i s))

-- The findings on the names of an identity and of a service.
abbrev pub findings_in : Facts → List ℕ → List ℕ → List Finding
findings_in f identity service = findings_at f identity service (entity_named f.identities identity) (entity_named f.services service)

-- Why, in a state, an identity can or cannot reach a service.
abbrev pub why : State → List ℕ → List ℕ → List Finding
why s = findings_in (facts_of s)

-- Each rule with whether it fails, as the findings say it.
abbrev pub verdicts : List Finding → List (Bool × Denial)
verdicts = map (λ f. (f.fails, f.rule))

-- ---- who

-- What an identity is granted on a service, by their numbers: its name, and the policies that grant it Dial.
abbrev pub dialer_finding : Facts → ℕ → ℕ → Finding
dialer_finding f s i = record {
  rule = NoDial;
  fails = false;
  parts =
      part (codes "identity") (name_of f.identities i ∷ [])
      ∷ part (codes "policies") (names_with Both (dial_marks (at f.identities i) (at f.services s) f.policies))
      ∷ [];
}

-- The identities that are granted Dial on a service, ascending.
abbrev pub dialers : Facts → ℕ → List ℕ
dialers f s = filter (λ i. nat_lt 0 (f.network.dial i s)) (numbers f.identities)

-- The findings on the name of a service: whether it is present, and each identity that is granted Dial on it.
abbrev pub dialers_in : Facts → List ℕ → List Finding
dialers_in f service =
    finding_of (asked_parts [] service) (is_none (entity_named f.services service), UnknownService)
    ∷ option_map_or (λ s. map (dialer_finding f s) (dialers f s)) (entity_named f.services service) []

-- Who, in a state, is granted Dial on a service.
abbrev pub who : State → List ℕ → List Finding
who s = dialers_in (facts_of s)
