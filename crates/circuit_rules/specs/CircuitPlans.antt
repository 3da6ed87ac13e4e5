-- What a plan of a command on circuits is. Only private functions and proofs of this crate cite this file.
use Rattle.std.specs.Prelude.{◌≡◌, ⊤, Bool, true, false, ◌||◌}
use Rattle.ctrl_model.specs.declared.commands.Command.{Command}
use Rattle.ctrl_model.specs.declared.commands.Command.TheVariants as command
use Rattle.ctrl_model.specs.declared.replies.Reply.{Reply}
use Rattle.ctrl_model.specs.Settling.{granted_in, stays_in}
use Rattle.ctrl_model.specs.State.{State}
use Rattle.model_laws.specs.declared.plans.Plan.{Plan}
use Rattle.model_laws.specs.Plans.{Plans}
use Rattle.circuits.specs.declared.changes.CircuitChange.{CircuitChange}
use Rattle.circuits.specs.declared.changes.CircuitChange.TheVariants as change
use Rattle.circuits.specs.CircuitChanges.{circuits_of, after_circuit_change, CanChangeCircuits}
use Rattle.circuit_rules.specs.CircuitParts.{with_circuits}

-- The commands on circuits that claim no route.
abbrev pub is_unclaimed : Command → Bool
is_unclaimed (command.CreateCircuit identity service ingress instance) = true
is_unclaimed (command.DeleteCircuit n) = true
is_unclaimed (command.Explain identity service ingress instance) = true
is_unclaimed (command.ShowCircuit n) = true
is_unclaimed _ = false

-- The commands that claim a route.
abbrev pub is_claim : Command → Bool
is_claim (command.VerifyRoute identity service ingress instance chosen links potentials routers terminator total) = true
is_claim _ = false

-- The commands on circuits, and those that explain, verify and show them.
abbrev pub is_circuit_command : Command → Bool
is_circuit_command c = is_unclaimed c || is_claim c

-- The state after a change of its circuits, not yet settled.
abbrev pub routed : CircuitChange → State → State
routed c s = with_circuits (after_circuit_change c (circuits_of s)) s

-- What a change needs of a state.
abbrev pub CanRoute : CircuitChange → State → Type 0
CanRoute c s = CanChangeCircuits c (circuits_of s)

-- A circuit that a change adds stands in a state: its identity, its service and its terminator are granted to it there, and its links
-- are a path.
abbrev pub StandsIn : CircuitChange → State → Type 0
StandsIn (change.Add c) s = (granted_in s (0, c) ≡ true) × (stays_in s (0, c) ≡ true)
StandsIn (change.Remove n) s = ⊤

-- What a planned change has of a state: it can be made there, and a circuit that it adds stands there.
abbrev pub CanGrant : CircuitChange → State → Type 0
CanGrant c s = CanRoute c s × StandsIn c s

-- The plan of an answer by a change of circuits.
abbrev pub PlansCircuits : Plan CircuitChange → Reply × State → State → Type 0
PlansCircuits p answered s = Plans routed CanGrant p answered s
