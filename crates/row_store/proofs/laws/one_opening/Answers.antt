use Rattle.row_store.proofs.OpeningLaws.{one_opens, damaged_opens, one_damage}
use Rattle.row_store.proofs.laws.one_opening.Goals as goal

pub returns-clause-rows : goal.returns-clause-rows
returns-clause-rows c = one_opens

pub returns-clause-damaged : goal.returns-clause-damaged
returns-clause-damaged c = damaged_opens

pub returns-clause-place : goal.returns-clause-place
returns-clause-place c = one_damage
