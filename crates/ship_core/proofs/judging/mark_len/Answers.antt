use Rattle.ship_core.proofs.JudgeLaws.{len_reads, len_cause, len_failed}
use Rattle.ship_core.proofs.judging.mark_len.Goals as goal

pub returns-in-Ok-clause-cause : goal.returns-in-Ok-clause-cause
returns-in-Ok-clause-cause g c = len_cause _ _ _ c.in-Ok.ensures.cause

pub returns-in-Err-clause-cause : goal.returns-in-Err-clause-cause
returns-in-Err-clause-cause g c = len_failed _ _ _ _ c.in-Err.ensures.cause

pub returns-in-Ok-clause-reads : goal.returns-in-Ok-clause-reads
returns-in-Ok-clause-reads g c = len_reads c.len.ensures.parts c.len.ensures.others c.len.ensures.stops c.len.ensures.remembers

pub returns-in-Err-clause-reads : goal.returns-in-Err-clause-reads
returns-in-Err-clause-reads g c = len_reads c.len.ensures.parts c.len.ensures.others c.len.ensures.stops c.len.ensures.remembers
