use Rattle.record_tables.proofs.GoneLaws.{gone_climb}
use Rattle.circuits.proofs.JudgedMoves.{ended_among, moved_among}
use Rattle.circuit_settling.specs.OtherLinks.{keeps_in}
use Rattle.circuit_settling.proofs.laws.where_circuits_differ.Goals as goal

pub returns : goal.returns
returns c = record {
  ended = ended_among;
  moved = moved_among;
  climb = λ s b. gone_climb (keeps_in s) s.circuits s.circuits.next b;
}
