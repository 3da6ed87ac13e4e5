use Rattle.std.proofs.Common.{◌∙◌, sym, arith}
use Rattle.ctrl_model.proofs.NumberTexts.{padded_has_none}
use Rattle.ctrl_model.proofs.addresses.number_to.Goals as goal

pub returns-then-is_padded : goal.returns-then-is_padded
returns-then-is_padded c =
    padded_has_none c.args.most c.args.bytes.now (let fits = c.ranges.most.fits in omega (arith, fits)) (sym c.is_padded.ensures ∙ c.if-is_padded.true)
