use Rattle.std.proofs.Common.{decimal, ◌∙◌}
use Rattle.std.proofs.lemmas.Result.{IfOk-weaker}
use Rattle.run_notes.proofs.NoteLaws.{fault_text}
use Rattle.run_notes.proofs.lines.fault_line.Goals as goal

pub returns : goal.returns
returns c = IfOk-weaker c.format.result _ _ (λ line h. h ∙ fault_text (decimal c.args.session) c.args.word.now (decimal c.args.at)) c.format.ensures.ok
