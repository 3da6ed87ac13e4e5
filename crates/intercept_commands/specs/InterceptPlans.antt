-- What a plan of a command on intercepts is (docs/PROMISES.md, "Commands on intercepts").
use Rattle.std.specs.Prelude.{◌≡◌, ℕ, Bool, true, false, List}
use Rattle.ctrl_model.specs.declared.intercepts.Intercept.{Intercept}
use Rattle.ctrl_model.specs.declared.refusals.Refusal.TheVariants.{Unknown}
use Rattle.ctrl_model.specs.declared.replies.Reply.{Reply}
use Rattle.ctrl_model.specs.declared.replies.Reply.TheVariants.{Refused}
use Rattle.ctrl_model.specs.State.{State}
use Rattle.entity_store.specs.EntityTables.{Tables}
use Rattle.model_laws.specs.declared.plans.Plan.{Plan}
use Rattle.model_laws.specs.Plans.{Plans}
use Rattle.intercepts.specs.declared.changes.InterceptChange.{InterceptChange}
use Rattle.intercepts.specs.InterceptChanges.{claimed_by, with_intercepts, CanClaim}

-- A state with the entities of these tables and with these intercepts in place of its own. Commands on intercepts are judged by these
-- and by the counts of Dial alone, so what is said of all such states is said of the one whose parts they are.
abbrev pub over : Tables → List (ℕ × Intercept) → State → State
over t xs s = with_intercepts xs (record s { identities = t.identities; services = t.services; routers = t.routers })

-- The plan of an answer by a change of intercepts.
abbrev pub PlansIntercepts : Plan InterceptChange → Reply × State → State → Type 0
PlansIntercepts p answered s = Plans claimed_by CanClaim p answered s

-- Whether a reply refuses a name that nothing has.
abbrev pub is_unknown : Reply → Bool
is_unknown (Refused (Unknown f)) = true
is_unknown _ = false

-- An answer refuses no name as unknown, in every state with these entities and these intercepts.
abbrev pub KnowsNames : (State → Reply × State) → Tables → List (ℕ × Intercept) → Type 0
KnowsNames answer t xs = (s : State) → is_unknown (answer (over t xs s)).0 ≡ false
