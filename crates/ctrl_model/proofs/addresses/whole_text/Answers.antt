use Rattle.std.proofs.Common.{◌∙◌}
use Rattle.std.proofs.lemmas.Result.{IfOk-weaker}
use Rattle.ctrl_model.proofs.RangeTexts.{whole_pieces}
use Rattle.ctrl_model.proofs.addresses.whole_text.Goals as goal

pub returns : goal.returns
returns c = IfOk-weaker c.format.result _ _ (λ text h. h ∙ whole_pieces _ _ _ _) c.format.ensures.ok
