-- Some entities and policies and a state around them, which is valid and of whose policies the uses of attributes are held.
use Rattle.ctrl_model.specs.State.{State}
use Rattle.ctrl_model.specs.ValidState.{ValidState}
use Rattle.entity_store.specs.EntityTables.{Tables}
use Rattle.entity_store.specs.HeldUses as held_uses
use Rattle.policy_store.specs.PolicyTables.{PolicyTables}
use Rattle.policy_commands.specs.PolicyStates.{over}

pub record Around : Type 0 where
  pub entities : Tables
  pub policies : PolicyTables
  pub rest : State

abbrev pub around : Tables → PolicyTables → State → Around
around t p s = record { entities = t; policies = p; rest = s }

abbrev pub state_of : Around → State
state_of st = over st.entities st.policies st.rest

abbrev pub HoldsPolicies : Around → Type 0
HoldsPolicies st = held_uses.HoldsPolicies st.entities (state_of st)

pub record Keeps (st : Around) : Type 0 where
  pub valid : ValidState (state_of st)
  pub held : HoldsPolicies st
