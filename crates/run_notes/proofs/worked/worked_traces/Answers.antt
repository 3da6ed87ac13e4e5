use Rattle.std.proofs.Common.{refl}
use Rattle.std.specs.Fmt.{digits}
use Rattle.run_notes.proofs.worked.worked_traces.Goals as goal

pub returns-clause-faulty_note : goal.returns-clause-faulty_note
unfolding digits
returns-clause-faulty_note c = refl

pub returns-clause-unread_note : goal.returns-clause-unread_note
unfolding digits
returns-clause-unread_note c = refl

pub returns-clause-unsaid_note : goal.returns-clause-unsaid_note
unfolding digits
returns-clause-unsaid_note c = refl

pub returns-clause-bad_note : goal.returns-clause-bad_note
unfolding digits
returns-clause-bad_note c = refl

pub returns-clause-cut_note : goal.returns-clause-cut_note
unfolding digits
returns-clause-cut_note c = refl

pub returns-clause-closed_note : goal.returns-clause-closed_note
unfolding digits
returns-clause-closed_note c = refl

pub returns-clause-cut_twice : goal.returns-clause-cut_twice
unfolding digits
returns-clause-cut_twice c = refl

pub returns-clause-no_memory_note : goal.returns-clause-no_memory_note
unfolding digits
returns-clause-no_memory_note c = refl

pub returns-clause-disk_note : goal.returns-clause-disk_note
unfolding digits
returns-clause-disk_note c = refl
