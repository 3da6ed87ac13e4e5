-- What the private functions of planning promise. Nothing public cites it.
use Rattle.ctrl_model.specs.declared.kinds.Relation.TheVariants.{Dial}
use Rattle.ctrl_model.specs.declared.replies.Reply.{Reply}
use Rattle.ctrl_model.specs.Grants.{count}
use Rattle.ctrl_model.specs.State.{State}
use Rattle.grant_denorm.specs.MovedCounts.{AreCountsOf}
use Rattle.model_laws.specs.declared.plans.Plan.{Plan}
use Rattle.intercepts.specs.declared.changes.InterceptChange.{InterceptChange}
use Rattle.intercept_commands.specs.declared.planning.Stores.{Stores}
use Rattle.intercept_commands.specs.InterceptPlans.{PlansIntercepts, KnowsNames, over}

-- A state with the entities and the intercepts of some stores.
abbrev pub over_stores : Stores → State → State
over_stores p s = over p.entities.now p.intercepts.now s

-- A plan of an answer in every state with these entities, these intercepts and these counts of Dial.
abbrev pub Answers : (State → Reply × State) → Stores → Plan InterceptChange → Type 0
Answers answer p plan = (s : State) → AreCountsOf (count Dial (over_stores p s)) p.dial.now → PlansIntercepts plan (answer (over_stores p s)) (over_stores p s)

-- An answer refuses no name as unknown, in every such state.
abbrev pub Knows : (State → Reply × State) → Stores → Type 0
Knows answer p = KnowsNames answer p.entities.now p.intercepts.now
