use Rattle.row_laws.proofs.SpelledChanges.{change_at-next, change_at-setting, change_at-record, change_at-count}
use Rattle.row_laws.proofs.cover_laws.changes_at_keys.Goals as goal

pub returns-clause-next : goal.returns-clause-next
returns-clause-next c = change_at-next

pub returns-clause-setting : goal.returns-clause-setting
returns-clause-setting c = change_at-setting

pub returns-clause-records : goal.returns-clause-records
returns-clause-records c = change_at-record

pub returns-clause-counts : goal.returns-clause-counts
returns-clause-counts c = change_at-count
