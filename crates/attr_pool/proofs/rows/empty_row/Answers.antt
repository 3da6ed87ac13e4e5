use Rattle.attr_pool.proofs.BitRows.{bit_of-none}
use Rattle.attr_pool.proofs.rows.empty_row.Goals as goal

pub returns : goal.returns
returns c = bit_of-none
