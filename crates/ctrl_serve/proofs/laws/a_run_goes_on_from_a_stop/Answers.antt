use Rattle.row_store.proofs.OneStates.{stateless_opens}
use Rattle.ctrl_serve.proofs.OpenedMachines.{one_machine_state}
use Rattle.ctrl_serve.proofs.laws.a_run_goes_on_from_a_stop.Goals as goal

pub returns-clause-state : goal.returns-clause-state
returns-clause-state c = one_machine_state

pub returns-clause-undamaged : goal.returns-clause-undamaged
returns-clause-undamaged c = λ image s part at opens none. stateless_opens image part at s none opens
