use Rattle.std.proofs.lemmas.Result.{err_from_is_err_and}
use Rattle.trace_lines.proofs.ReplyLaws.{whole_behind_tag}
use Rattle.trace_lines.proofs.fronts.behind_tag.Goals as goal

pub returns-in_err-front_of-clause-memory : goal.returns-in_err-front_of-clause-memory
returns-in_err-front_of-clause-memory c =
    rw (err_from_is_err_and c.from_residual.result c.from_residual.ensures.1).1 (whole_behind_tag c.args.session c.args.bytes.now c.in_err-front_of.ensures.memory)
