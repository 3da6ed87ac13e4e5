use Rattle.row_store.proofs.WorkedLaws.{ann_added, added_beside, added_marked, added_behind, none_added, again_added, migrated_beside}
use Rattle.row_store.proofs.worked.worked_commits.Goals as goal

pub returns-clause-added : goal.returns-clause-added
returns-clause-added c = ann_added

pub returns-clause-not_added : goal.returns-clause-not_added
returns-clause-not_added c = none_added

pub returns-clause-added_again : goal.returns-clause-added_again
returns-clause-added_again c = again_added

pub returns-clause-added_with_the_second_slot : goal.returns-clause-added_with_the_second_slot
returns-clause-added_with_the_second_slot c = added_beside

pub returns-clause-added_with_the_mark : goal.returns-clause-added_with_the_mark
returns-clause-added_with_the_mark c = added_marked

pub returns-clause-added_with_a_byte_behind : goal.returns-clause-added_with_a_byte_behind
returns-clause-added_with_a_byte_behind c = added_behind

pub returns-clause-added_in_the_other_format : goal.returns-clause-added_in_the_other_format
returns-clause-added_in_the_other_format c = migrated_beside
