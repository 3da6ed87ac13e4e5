-- Which record of which table a command may change before the state is settled. All else it leaves alone
-- (docs/RULES.md, "The controller").
use Rattle.std.specs.Prelude.{◌≡◌, ℕ, ◌+◌, ◌≤◌, ◌⊎◌, List, None, Some, ⊤}
use Rattle.std.specs.declared.option.Option.{Option}
use Rattle.ctrl_model.specs.declared.commands.Command.{Command}
use Rattle.ctrl_model.specs.declared.commands.Command.TheVariants as command
use Rattle.ctrl_model.specs.declared.kinds.Kind.{Kind}
use Rattle.ctrl_model.specs.declared.kinds.Kind.TheVariants as kind
use Rattle.ctrl_model.specs.Numbered.{Table, at, with_new}
use Rattle.ctrl_model.specs.State.{State}
use Rattle.ctrl_model.specs.Tables.{Record, table, with_table, named}
use Rattle.ctrl_model.specs.Rules.{at_number}
use Rattle.ctrl_model.specs.RecordCommands.{forgotten, without_intercept}
use Rattle.ctrl_model.specs.Settling.{settle}

-- What a command may change: it adds a record to a table under its next number, which rises; it changes or removes the record
-- of a number, if there is one; it deletes an entity, whose name goes from the `@` names too, and a service's intercept with it; it
-- changes the setting; it sets the intercept of a service, if there is one, or takes it away; or nothing.
pub data Touched : Type 0 where
  Added : Kind → Touched
  Changed : Kind → Option ℕ → Touched
  Deleted : Kind → List ℕ → Option ℕ → Touched
  Setting : Touched
  OneIntercept : Option ℕ → Touched
  Nothing : Touched

-- What each command may change.
abbrev pub touched_by : Command → State → Touched
touched_by command.Hello s = Nothing
touched_by (command.CreateIdentity name attributes) s = Added kind.Identity
touched_by (command.UpdateIdentity name attributes) s = Changed kind.Identity (named kind.Identity s name)
touched_by (command.DeleteIdentity name) s = Deleted kind.Identity name (named kind.Identity s name)
touched_by (command.CreateService name attributes) s = Added kind.Service
touched_by (command.UpdateService name attributes) s = Changed kind.Service (named kind.Service s name)
touched_by (command.DeleteService name) s = Deleted kind.Service name (named kind.Service s name)
touched_by (command.CreateRouter name attributes cost no_traversal) s = Added kind.Router
touched_by (command.UpdateRouter name attributes cost no_traversal) s = Changed kind.Router (named kind.Router s name)
touched_by (command.DeleteRouter name) s = Deleted kind.Router name (named kind.Router s name)
touched_by (command.ConnectRouter name) s = Changed kind.Router (named kind.Router s name)
touched_by (command.DisconnectRouter name) s = Changed kind.Router (named kind.Router s name)
touched_by (command.CreateServicePolicy name relation semantic left right) s = Added kind.ServicePolicy
touched_by (command.UpdateServicePolicy name relation semantic left right) s = Changed kind.ServicePolicy (named kind.ServicePolicy s name)
touched_by (command.DeleteServicePolicy name) s = Changed kind.ServicePolicy (named kind.ServicePolicy s name)
touched_by (command.CreateEdgeRouterPolicy name semantic left right) s = Added kind.EdgeRouterPolicy
touched_by (command.UpdateEdgeRouterPolicy name semantic left right) s = Changed kind.EdgeRouterPolicy (named kind.EdgeRouterPolicy s name)
touched_by (command.DeleteEdgeRouterPolicy name) s = Changed kind.EdgeRouterPolicy (named kind.EdgeRouterPolicy s name)
touched_by (command.CreateServiceEdgeRouterPolicy name semantic left right) s = Added kind.ServiceEdgeRouterPolicy
touched_by (command.UpdateServiceEdgeRouterPolicy name semantic left right) s = Changed kind.ServiceEdgeRouterPolicy (named kind.ServiceEdgeRouterPolicy s name)
touched_by (command.DeleteServiceEdgeRouterPolicy name) s = Changed kind.ServiceEdgeRouterPolicy (named kind.ServiceEdgeRouterPolicy s name)
touched_by (command.CreateLink name a b cost latency_a latency_b) s = Added kind.Link
touched_by (command.SetLinkCost link cost) s = Changed kind.Link (named kind.Link s link)
touched_by (command.ReportLatency link router latency) s = Changed kind.Link (named kind.Link s link)
touched_by (command.ReportState link router up) s = Changed kind.Link (named kind.Link s link)
touched_by (command.DeleteLink link) s = Changed kind.Link (named kind.Link s link)
touched_by (command.SetLeastRouterCost cost) s = Setting
touched_by (command.CreateTerminator service router instance host cost precedence) s = Added kind.Terminator
touched_by (command.UpdateTerminator n cost precedence) s = Changed kind.Terminator (Some n)
touched_by (command.DeleteTerminator n) s = Changed kind.Terminator (Some n)
touched_by (command.CreateCircuit identity service ingress instance) s = Added kind.Circuit
touched_by (command.DeleteCircuit n) s = Changed kind.Circuit (Some n)
touched_by (command.Explain identity service ingress instance) s = Nothing
touched_by (command.VerifyRoute identity service ingress instance chosen links potentials routers terminator total) s = Nothing
touched_by (command.ShowGrants identity) s = Nothing
touched_by (command.ListServices identity) s = Nothing
touched_by command.ShowCounts s = Nothing
touched_by (command.ShowCircuit n) s = Nothing
touched_by command.Compact s = Nothing
touched_by (command.SetIntercept service intercept) s = OneIntercept (named kind.Service s service)
touched_by (command.ClearIntercept service) s = OneIntercept (named kind.Service s service)
touched_by (command.Pick identity udp address port) s = Nothing
touched_by (command.ListClashes identity service) s = Nothing

-- A state with the records of one kind as they were.
abbrev pub records_back : Kind → State → State → State
records_back k old new = with_table k (record (table k new) { rows = (table k old).rows }) new

-- A state with what may be changed put back as it was.
abbrev pub put_back : Touched → State → State → State
put_back (Added k) old new = with_table k (table k old) new
put_back (Changed k n) old new = records_back k old new
put_back (Deleted k name n) old new = records_back k old new
put_back Setting old new = record new { least_router_cost = old.least_router_cost }
put_back (OneIntercept n) old new = record new { intercepts = old.intercepts }
put_back Nothing old new = new

-- What becomes of the policies and the intercepts: deleting an entity takes its name out of the `@` names of every side that could name
-- it, and a service's intercept with it, and no other command changes them but those on the policy or the intercept itself.
abbrev pub forgetting : Touched → State → State
forgetting (Deleted k name n) s = forgotten k name (at_number n s (λ m. without_intercept k m s))
forgetting touched s = s

-- A table is another with one record more: at its end, under the next number, which rises by one.
pub record IsAdded (k : Kind) (old new : State) : Type 0 where
  pub made : Record k
  pub added : table k new ≡ with_new made (table k old)

-- The same records of a kind stand at every number but one, if there is one.
abbrev pub StayBut : Kind → Option ℕ → State → State → Type 0
StayBut k number old new = (m : ℕ) → (number ≡ Some m → ⊥) → at (table k new).rows m ≡ at (table k old).rows m

-- Where no record of a kind stood, none stands.
abbrev pub MakesNone : Kind → State → State → Type 0
MakesNone k old new = (m : ℕ) → at (table k old).rows m ≡ None → at (table k new).rows m ≡ None

-- The intercepts of all services but one, if there is one, stay.
abbrev pub InterceptsStayBut : Option ℕ → State → State → Type 0
InterceptsStayBut number old new = (m : ℕ) → (number ≡ Some m → ⊥) → at new.intercepts m ≡ at old.intercepts m

-- No record of a kind stands at a number, if there is one.
abbrev pub IsGone : Kind → Option ℕ → State → Type 0
IsGone k number new = (m : ℕ) → number ≡ Some m → at (table k new).rows m ≡ None

-- Of the table that may be changed, the same records stand at every number but that of the record which is added, changed or
-- removed. Adding makes exactly one record, under the next number; a change makes none; and what is deleted is gone.
abbrev pub OthersStay : Touched → State → State → Type 0
OthersStay (Added k) old new = IsAdded k old new
OthersStay (Changed k n) old new = StayBut k n old new × MakesNone k old new
OthersStay (Deleted k name n) old new = StayBut k n old new × IsGone k n new
OthersStay Setting old new = ⊤
OthersStay (OneIntercept n) old new = InterceptsStayBut n old new
OthersStay Nothing old new = ⊤

-- What a table says of numbers after a change: the next number does not fall, and where no record stood, none stands, unless it is
-- the next number, which has risen by one. So a number is given once.
pub record GivesNext {R : Type 0} (old new : Table R) : Type 0 where
  pub rises : old.next ≤ new.next
  pub given : (m : ℕ) → at old.rows m ≡ None → (at new.rows m ≡ None) ⊎ ((m ≡ old.next) × (new.next ≡ old.next + 1))

-- An effect changes one record at most: with what may be changed put back it is the old state, in which a deleted entity is named
-- no more; and of that table all other numbers stay.
pub record ChangesOne (touched : Touched) (old effect : State) : Type 0 where
  pub all_else_stays : put_back touched old effect ≡ forgetting touched old
  pub others_stay : OthersStay touched old effect

-- The next state is such an effect, settled.
pub record ChangesOnly (touched : Touched) (old next : State) : Type 0 where
  pub effect : State
  pub changes : ChangesOne touched old effect
  pub is_next : next ≡ settle effect
