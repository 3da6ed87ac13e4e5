use Rattle.std.proofs.Common.{◌∙◌}
use Rattle.std.proofs.lemmas.Result.{IfOk-weaker}
use Rattle.ctrl_model.specs.AddressForm.{ip_text}
use Rattle.ctrl_model.proofs.RangeTexts.{whole_end, part_end}
use Rattle.ctrl_model.proofs.addresses.range_text.Goals as goal

pub returns-then-bits-eq-MOST_BITS : goal.returns-then-bits-eq-MOST_BITS
returns-then-bits-eq-MOST_BITS c = IfOk-weaker c.whole_text.result _ _ (λ text h. h ∙ whole_end (ip_text c.args.ip) c.args.bits c.if-bits-eq-MOST_BITS.true) c.whole_text.ensures

pub returns-else-bits-eq-MOST_BITS : goal.returns-else-bits-eq-MOST_BITS
returns-else-bits-eq-MOST_BITS c = IfOk-weaker c.part_text.result _ _ (λ text h. h ∙ part_end (ip_text c.args.ip) c.args.bits c.if-bits-eq-MOST_BITS.false) c.part_text.ensures
