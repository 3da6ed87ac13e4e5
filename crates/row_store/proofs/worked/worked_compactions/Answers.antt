use Rattle.row_store.proofs.WorkedLaws.{ann_compacted, old_compacted, none_compacted, second_opens, ann_migrated, migrated_opens}
use Rattle.row_store.proofs.worked.worked_compactions.Goals as goal

pub returns-clause-of_ann : goal.returns-clause-of_ann
returns-clause-of_ann c = ann_compacted

pub returns-clause-over_old_bytes : goal.returns-clause-over_old_bytes
returns-clause-over_old_bytes c = old_compacted

pub returns-clause-of_none : goal.returns-clause-of_none
returns-clause-of_none c = none_compacted

pub returns-clause-opens : goal.returns-clause-opens
returns-clause-opens c = second_opens

pub returns-clause-migrated : goal.returns-clause-migrated
returns-clause-migrated c = ann_migrated

pub returns-clause-opens_migrated : goal.returns-clause-opens_migrated
returns-clause-opens_migrated c = migrated_opens
