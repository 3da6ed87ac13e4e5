use Rattle.row_store.proofs.WorkedLaws.{ann_opens, counted_opens, other_format}
use Rattle.row_store.proofs.worked.worked_folders.Goals as goal

pub returns-clause-of_ann : goal.returns-clause-of_ann
returns-clause-of_ann c = ann_opens

pub returns-clause-counted : goal.returns-clause-counted
returns-clause-counted c = counted_opens

pub returns-clause-not_of_the_second : goal.returns-clause-not_of_the_second
returns-clause-not_of_the_second c = other_format
