use Rattle.std.proofs.Common.{◌+◌, cond, ap, ◌∙◌}
use Rattle.grant_rows.proofs.MovedEntries.{moved_by_step}
use Rattle.grant_rows.proofs.stepping.take_step.Goals as goal

pub returns : goal.returns
returns c =
    moved_by_step c.args.counted.now c.args.moved.now.entries c.insert.new.self.entries c.args.step.now.a c.args.step.now.b c.step_count.result c.args.step.now.up
    c.in_ok-insert.ensures.updates.0 (c.step_count.ensures ∙ ap (λ n. n + cond c.args.step.now.up 1 0) c.count_so_far-count.ensures)
