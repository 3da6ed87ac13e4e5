-- What the steps of a plan find and make. Only private functions and proofs of this crate cite this file.
use Rattle.std.specs.Prelude.{◌≡◌, ℕ, Bool, false, cond, List, None, Some, is_none}
use Rattle.std.specs.declared.option.Option.{Option}
use Rattle.std.specs.Option.{option_map, option_map_or}
use Rattle.ctrl_model.specs.declared.kinds.Kind.TheVariants as kind
use Rattle.ctrl_model.specs.declared.kinds.Relation.TheVariants.{Bind}
use Rattle.ctrl_model.specs.declared.refusals.Field.{Field}
use Rattle.ctrl_model.specs.declared.refusals.Field.TheVariants as field
use Rattle.ctrl_model.specs.declared.refusals.Refusal.TheVariants.{Full, NotBindable}
use Rattle.ctrl_model.specs.declared.replies.Reply.{Reply}
use Rattle.ctrl_model.specs.declared.replies.Reply.TheVariants.{Made}
use Rattle.ctrl_model.specs.Grants.{count}
use Rattle.ctrl_model.specs.State.{State, Terminator, entity_named, router_named}
use Rattle.entity_store.specs.EntityTables.{Tables}
use Rattle.grant_denorm.specs.MovedCounts.{AreCountsOf}
use Rattle.terminators.specs.TermTables.{TermTables}
use Rattle.terminators.specs.TermRules.{has_term_room, is_not_bindable}
use Rattle.terminators.specs.declared.changes.TermChange.TheVariants as change
use Rattle.terminators.specs.declared.changes.TermChange.{TermChange}
use Rattle.model_laws.specs.declared.plans.Plan.{Plan}
use Rattle.model_laws.specs.Plans.{refused, changed}
use Rattle.terminator_commands.specs.declared.planning.Places.{Places}
use Rattle.terminator_commands.specs.TermChanges.{with_terms, over}
use Rattle.terminator_commands.specs.TermPlans.{PlansTerms}

-- A plan of an answer in every state with these terminators.
abbrev pub PlansOver : Plan TermChange → (State → Reply × State) → TermTables → Type 0
PlansOver p answer k = (s : State) → PlansTerms p (answer (with_terms k s)) (with_terms k s)

-- A plan of an answer in every state with these entities, these terminators and these counts of Bind.
abbrev pub PlansIn : Plan TermChange → (State → Reply × State) → Tables → TermTables → List ((ℕ × ℕ) × ℕ) → Type 0
PlansIn p answer t k bind = (s : State) → AreCountsOf (count Bind (over t k s)) bind → PlansTerms p (answer (over t k s)) (over t k s)

-- The number of the host that is named; none where none is named, or where it is absent.
abbrev pub named_host : Tables → Option (List ℕ) → Option ℕ
named_host t host = option_map_or (entity_named t.identities.rows) host None

-- A host is named that is absent.
abbrev pub lacks_host : Tables → Option (List ℕ) → Bool
lacks_host t host = option_map_or (λ name. is_none (entity_named t.identities.rows name)) host false

-- The first field of which the name is unknown: the service, then the router, then the host.
abbrev pub unknown_place : Tables → List ℕ → List ℕ → Option (List ℕ) → Option Field
unknown_place t service router host =
    cond (is_none (entity_named t.services.rows service)) (Some field.Service)
    (cond (is_none (router_named t.routers.rows router)) (Some field.Router)
    (cond (lacks_host t host) (Some field.Host) None))

-- The numbers of the service, the router and the host that are named.
pub record ArePlaced (t : Tables) (service router : List ℕ) (host : Option (List ℕ)) (p : Places) : Type 0 where
  pub service_named : entity_named t.services.rows service ≡ Some p.service.0
  pub router_named : router_named t.routers.rows router ≡ Some p.router.0
  pub host_named : named_host t host ≡ option_map (λ h. h.0) p.host
  pub host_there : lacks_host t host ≡ false

-- The plan to add a terminator.
abbrev pub plan_of_add : Terminator → TermTables → List ((ℕ × ℕ) × ℕ) → Plan TermChange
plan_of_add term k bind =
    cond (has_term_room k)
    (cond (is_not_bindable term bind) (refused NotBindable) (changed (Made k.terminators.next) (change.Add term)))
    (refused (Full kind.Terminator))
