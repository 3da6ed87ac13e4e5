use Rattle.std.proofs.Common.{Some, ap, ◌∙◌, arith}
use Rattle.memory_runs.proofs.replays.taken_from.Goals as goal

pub returns-clause-seen : goal.returns-clause-seen
returns-clause-seen c = record {
  said = ap Some (c.in_ok-from_slice.ensures.items ∙ c.as_slice.ensures.value ∙ ap (λ w. w.items) c.writer.ensures ∙ ap (λ o. o.writer.items) c.replies.ensures);
  noted = ap Some (c.in_ok-from_slice-2.ensures.items ∙ c.as_slice-2.ensures.value ∙ ap (λ w. w.items) c.writer-2.ensures ∙ ap (λ o. o.writer.items) c.notes-2.ensures);
  calm = omega (arith, c.if-failures-gt0.false, c.failures.ensures, ap (λ o. o.failures) c.notes.ensures);
  reads = c.in_ok-folder_of.ensures;
}
