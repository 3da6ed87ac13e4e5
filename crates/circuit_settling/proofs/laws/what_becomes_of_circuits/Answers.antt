use Rattle.std.proofs.Common.{refl}
use Rattle.circuit_settling.proofs.GrantedCircuits.{granted-before}
use Rattle.circuit_settling.proofs.JudgedCircuits.{circuits_settled}
use Rattle.circuit_settling.proofs.laws.what_becomes_of_circuits.Goals as goal

pub returns : goal.returns
returns c = record { settled = circuits_settled; parts = λ s d. refl; granted = granted-before }
