use Rattle.row_laws.proofs.TouchedKeys.{Covers-with_new, Covers-with_edit, Covers-with_removed}
use Rattle.row_laws.proofs.touched_keys.one_record_is_touched.Goals as goal

pub returns-clause-added : goal.returns-clause-added
returns-clause-added c = Covers-with_new

pub returns-clause-changed : goal.returns-clause-changed
returns-clause-changed c = Covers-with_edit

pub returns-clause-removed : goal.returns-clause-removed
returns-clause-removed c = Covers-with_removed
