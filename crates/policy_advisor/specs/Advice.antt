-- The advice on an identity and a service: why the one may or may not use the other (docs/RULES.md, "Advice").
use Rattle.std.specs.Prelude.{ℕ, ◌==◌, Bool, false, ◌&&◌, List, [], ◌∷◌, map, filter, None, Some, option_and_then}
use Rattle.std.specs.declared.option.Option.{Option}
use Rattle.std.specs.Option.{option_map_or}
use Rattle.ctrl_model.specs.declared.kinds.Relation.TheVariants.{Dial}
use Rattle.ctrl_model.specs.declared.kinds.RouterSeen.{RouterSeen}
use Rattle.ctrl_model.specs.declared.kinds.Semantic.{Semantic}
use Rattle.ctrl_model.specs.declared.kinds.Side.{Side}
use Rattle.ctrl_model.specs.declared.refusals.Denial.{Denial}
use Rattle.ctrl_model.specs.declared.refusals.Denial.TheVariants.{UnknownIdentity, UnknownService}
use Rattle.ctrl_model.specs.Choices.{Any, Ask, rules_but_paths, shared, ingresses, first_denial}
use Rattle.ctrl_model.specs.Grants.{same_relation}
use Rattle.ctrl_model.specs.Matches.{matches}
use Rattle.ctrl_model.specs.Networks.{Network, network_of, counted, admissible}
use Rattle.ctrl_model.specs.Numbered.{at, numbers}
use Rattle.ctrl_model.specs.State.{State, Entity, Policy, entity_named}
use Rattle.policy_advisor.specs.declared.advised.Advice.{Advice}
use Rattle.policy_advisor.specs.declared.advised.Marked.{Marked}

-- ---- policies

-- Whether an entity, if it is present, matches a side of a policy. Who is absent matches nothing, and `#all` neither.
abbrev pub is_matched : Option Entity → Semantic → Side → Bool
is_matched None semantic side = false
is_matched (Some e) semantic side = matches side semantic e

-- What a policy says of an identity and a service: its name, and which of its two sides match.
abbrev pub marked : Option Entity → Option Entity → Policy → Marked
marked identity service p = record {
  name = p.name;
  left = is_matched identity p.semantic p.left;
  right = is_matched service p.semantic p.right;
}

-- Whether a policy grants Dial.
abbrev pub grants_dial : Policy → Bool
grants_dial p = same_relation Dial p.relation

-- The policies that grant Dial, by ascending number, each with what it says of the two.
abbrev pub dial_marks : Option Entity → Option Entity → List (ℕ × Policy) → List Marked
dial_marks identity service policies = map (λ row. marked identity service row.1) (filter (λ row. grants_dial row.1) policies)

-- Whether both sides of a policy match.
abbrev pub has_both : Marked → Bool
has_both m = m.left && m.right

-- ---- rules

-- A request of an identity and a service for any ingress and the empty instance.
abbrev pub plain_ask : Option ℕ → Option ℕ → Ask
plain_ask identity service = record { identity = identity; service = service; ingress = Any; instance = [] }

-- The first rule that such a request fails, if one does, but for those on paths and on room for circuits.
abbrev pub failing_rule : Network → Option ℕ → Option ℕ → Option Denial
failing_rule w identity service =
    option_map_or (λ i. option_map_or (λ s. first_denial (rules_but_paths w (plain_ask identity service) i s)) service (Some UnknownService))
    identity (Some UnknownIdentity)

-- ---- the advice

-- What two numbers give, if both are there.
abbrev pub of_both : {X : Type 0} → Option ℕ → Option ℕ → X → (ℕ → ℕ → X) → X
of_both identity service none f = option_map_or (λ i. option_map_or (f i) service none) identity none

-- The numbers of some routers.
abbrev pub router_numbers : List RouterSeen → List ℕ
router_numbers routers = map (λ (r : RouterSeen). r.no.0) routers

-- The advice on the numbers of an identity and of a service, each if it is present, with what policies say of the two. Who is absent has
-- counts of 0 and empty lists; the terminators hang on the service alone.
abbrev pub advice_on : Network → List Marked → Option ℕ → Option ℕ → Advice
advice_on w policies identity service = record {
  dial = of_both identity service 0 w.dial;
  bind = of_both identity service 0 w.bind;
  common = of_both identity service [] (λ i s. router_numbers (shared w Any i s));
  online = of_both identity service [] (λ i s. router_numbers (ingresses w Any i s));
  terminators = option_map_or (λ s. numbers (counted w s [])) service [];
  admissible = option_map_or (λ s. numbers (admissible w s [])) service [];
  policies = policies;
  rule = failing_rule w identity service;
}

-- The entity that has a name, if one has it.
abbrev pub entity_with : List (ℕ × Entity) → List ℕ → Option Entity
entity_with rows name = option_and_then (at rows) (entity_named rows name)

-- The advice on two names, of a network, its service policies, identities and services.
abbrev pub advice_in : Network → List (ℕ × Policy) → List (ℕ × Entity) → List (ℕ × Entity) → List ℕ → List ℕ → Advice
advice_in w policies identities services identity service =
    advice_on w (dial_marks (entity_with identities identity) (entity_with services service) policies)
    (entity_named identities identity) (entity_named services service)

-- The advice of a state on the names of an identity and of a service.
abbrev pub advice_of : State → List ℕ → List ℕ → Advice
advice_of s identity service =
    advice_in (network_of s) s.service_policies.rows s.identities.rows s.services.rows identity service
