use Rattle.row_laws.proofs.Covers.{Covers-same, Covers-same_next, Covers-same_setting, Covers-same_records, Covers-same_counts}
use Rattle.row_laws.proofs.cover_laws.same_tables_need_no_change.Goals as goal

pub returns-clause-range : goal.returns-clause-range
returns-clause-range c = Covers-same

pub returns-clause-next : goal.returns-clause-next
returns-clause-next c = Covers-same_next

pub returns-clause-setting : goal.returns-clause-setting
returns-clause-setting c = Covers-same_setting

pub returns-clause-records : goal.returns-clause-records
returns-clause-records c = Covers-same_records

pub returns-clause-counts : goal.returns-clause-counts
returns-clause-counts c = Covers-same_counts
