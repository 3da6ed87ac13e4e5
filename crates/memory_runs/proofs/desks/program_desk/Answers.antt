use Rattle.std.proofs.Common.{Some, sym, ap, ◌∙◌}
use Rattle.memory_runs.proofs.desks.program_desk.Goals as goal

pub returns-clause-new : goal.returns-clause-new
returns-clause-new c = record {
  told = c.in_ok-drive.ensures.new.told;
  unsaid = ap (λ seen. seen.said) c.new-3.ensures.seen ∙ ap (λ w. Some w.items) c.new-replies.ensures.writer ∙ ap Some c.new.ensures.items;
  unnoted = ap (λ seen. seen.noted) c.new-3.ensures.seen ∙ ap (λ w. Some w.items) c.new-notes.ensures.writer ∙ ap Some c.new-2.ensures.items;
  calm = ap (λ seen. seen.note_faults) c.new-3.ensures.seen ∙ c.new-notes.ensures.failures;
  first = c.new-3.ensures.moment;
  still = λ image found. c.in_ok-drive.ensures.new.still image ((c.new-3.ensures.images image).0 found) ∙ sym (ap (λ seen. seen.reads) c.new-3.ensures.seen);
}

pub returns-clause-reads : goal.returns-clause-reads
returns-clause-reads c = ap (λ seen. seen.reads) c.new-3.ensures.seen ∙ c.in_ok-drive.ensures.reads
