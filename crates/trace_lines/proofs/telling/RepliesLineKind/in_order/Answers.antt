use Rattle.trace_lines.proofs.ReplyLaws.{replies_in_order}
use Rattle.trace_lines.proofs.telling.RepliesLineKind.in_order.Goals as goal

pub returns : goal.returns
returns c = replies_in_order
