-- A circuit of a state, its ends once the state is repaired, and what granted it (docs/RULES.md, "Settling").
use Rattle.std.specs.Prelude.{◌≡◌, ℕ, true, Some}
use Rattle.ctrl_model.specs.declared.kinds.Relation.TheVariants.{Dial}
use Rattle.ctrl_model.specs.Grants.{is_granted}
use Rattle.ctrl_model.specs.Membership.{Among}
use Rattle.ctrl_model.specs.Networks.{network_of, is_shared}
use Rattle.ctrl_model.specs.Numbered.{at, numbers, Between}
use Rattle.ctrl_model.specs.Settling.{repair, admits, granted_in}
use Rattle.ctrl_model.specs.State.{State, Circuit, Terminator}
use Rattle.ctrl_model.specs.Walks.{is_among}

-- A circuit stands at a number of a state whose circuits ascend.
pub record CircuitAt (s : State) (n : ℕ) (c : Circuit) : Type 0 where
  pub ascend : Between 1 s.circuits.next s.circuits.rows
  pub is_there : at s.circuits.rows n ≡ Some c

-- The identity and the service of a circuit are present, and its terminator once the state is repaired.
pub record HasEnds (s : State) (c : Circuit) (e : Terminator) : Type 0 where
  pub identity : is_among c.identity (numbers s.identities.rows) ≡ true
  pub service : is_among c.service (numbers s.services.rows) ≡ true
  pub terminator : at (repair s).terminators.rows c.terminator ≡ Some e

-- What granted a circuit to a terminator still stands: the identity and the service are present, the one is granted Dial on the other, both
-- share the ingress, and the terminator is present and admissible for the service and its own instance.
pub record IsStillGranted (s : State) (c : Circuit) (e : Terminator) : Type 0 where
  pub identity : is_among c.identity (numbers s.identities.rows) ≡ true
  pub service : is_among c.service (numbers s.services.rows) ≡ true
  pub dials : is_granted Dial s c.identity c.service ≡ true
  pub shares : is_shared (network_of s) c.identity c.service c.ingress ≡ true
  pub terminator : at s.terminators.rows c.terminator ≡ Some e
  pub admitted : admits (network_of s) c.service c.terminator e ≡ true

-- What granted each circuit of a state stands.
abbrev pub AreGranted : State → Type 0
AreGranted s = (row : ℕ × Circuit) → Among row s.circuits.rows → granted_in s row ≡ true
