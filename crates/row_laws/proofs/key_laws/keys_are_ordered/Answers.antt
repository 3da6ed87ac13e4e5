use Rattle.std.proofs.lemmas.Cmp.{nat_list_cmp_total}
use Rattle.row_laws.proofs.BatchForms.{bytes_exact}
use Rattle.row_laws.proofs.KeyOrders.{key_total, key_exact}
use Rattle.row_laws.proofs.key_laws.keys_are_ordered.Goals as goal

pub returns-clause-keys : goal.returns-clause-keys
returns-clause-keys c = key_total

pub returns-clause-keys_apart : goal.returns-clause-keys_apart
returns-clause-keys_apart c = key_exact

pub returns-clause-bytes : goal.returns-clause-bytes
returns-clause-bytes c = nat_list_cmp_total

pub returns-clause-bytes_apart : goal.returns-clause-bytes_apart
returns-clause-bytes_apart c = bytes_exact
