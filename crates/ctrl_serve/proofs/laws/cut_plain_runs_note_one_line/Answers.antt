use Rattle.ctrl_serve.specs.FrameAnswer.{controller}
use Rattle.serve_loop.proofs.CutLaws.{unsaid_notes, disk_notes, memory_notes}
use Rattle.ctrl_serve.proofs.laws.cut_plain_runs_note_one_line.Goals as goal

pub returns-clause-unsaid : goal.returns-clause-unsaid
returns-clause-unsaid c bounds m most left left_after before now s = unsaid_notes (controller bounds) m most _ _ before now s

pub returns-clause-disk : goal.returns-clause-disk
returns-clause-disk c bounds m most left left_after before now s = disk_notes (controller bounds) m most _ _ before now s

pub returns-clause-memory : goal.returns-clause-memory
returns-clause-memory c bounds m most left left_after before now s = memory_notes (controller bounds) m most _ _ before now s
