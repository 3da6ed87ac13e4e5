use Rattle.row_laws.proofs.KeyOrders.{bytes_order}
use Rattle.row_laws.proofs.SameStates.{key_same}
use Rattle.row_laws.proofs.key_laws.bytes_keep_the_order.Goals as goal

pub returns-clause-order : goal.returns-clause-order
returns-clause-order c = bytes_order

pub returns-clause-apart : goal.returns-clause-apart
returns-clause-apart c = key_same
