use Rattle.std.proofs.Common.{codes, inl, refl, arith}
use Rattle.std.proofs.lemmas.Bool.{both_ways}
use Rattle.attr_pool.proofs.WorkedRows.{rows_of_two_lists}
use Rattle.attr_pool.proofs.worked.worked_attribute_rows.Goals as goal

pub returns-clause-rows : goal.returns-clause-rows
returns-clause-rows c = rows_of_two_lists

pub returns-clause-not_held : goal.returns-clause-not_held
returns-clause-not_held c = λ r. both_ways _ refl (r.held 0 (omega arith) (codes "green") (inl refl))
