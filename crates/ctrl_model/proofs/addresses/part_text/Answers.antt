use Rattle.std.proofs.Common.{◌∙◌, decimal}
use Rattle.std.proofs.lemmas.Result.{IfOk-weaker}
use Rattle.ctrl_model.proofs.RangeTexts.{part_pieces}
use Rattle.ctrl_model.proofs.addresses.part_text.Goals as goal

pub returns : goal.returns
returns c = IfOk-weaker c.format.result _ _ (λ text h. h ∙ part_pieces _ _ _ _ (decimal c.args.bits)) c.format.ensures.ok
