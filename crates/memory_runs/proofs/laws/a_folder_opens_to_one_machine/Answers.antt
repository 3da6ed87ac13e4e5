use Rattle.memory_runs.proofs.OneMachines.{machine_opens, new_opens, one_machine, some_machine}
use Rattle.memory_runs.proofs.laws.a_folder_opens_to_one_machine.Goals as goal

pub returns-clause-some : goal.returns-clause-some
returns-clause-some c = some_machine

pub returns-clause-state : goal.returns-clause-state
returns-clause-state c = machine_opens

pub returns-clause-one : goal.returns-clause-one
returns-clause-one c = one_machine

pub returns-clause-empty : goal.returns-clause-empty
returns-clause-empty c = new_opens
