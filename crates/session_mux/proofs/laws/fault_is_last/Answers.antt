use Rattle.session_mux.proofs.FaultLaws.{given_fault}
use Rattle.session_mux.proofs.laws.fault_is_last.Goals as goal

pub returns-clause-met : goal.returns-clause-met
returns-clause-met c = λ used mid given goes told. (given_fault used mid given goes told).1

pub returns-clause-last : goal.returns-clause-last
returns-clause-last c = λ used mid given goes told. (given_fault used mid given goes told).0
