use Rattle.std.proofs.Common.{◌==◌, arith, rules, tests}
use Rattle.std.proofs.lemmas.Iterator.{items_from_drains}
use Rattle.std.proofs.lemmas.Iterator.Splits.{YieldsList-from_slice_split}
use Rattle.std.proofs.lemmas.List.Splits.{length-slice_split}
use Rattle.ctrl_model.specs.AddressForm.{parts_at}
use Rattle.ctrl_model.proofs.CutLaws.{last_given}
use Rattle.ctrl_model.proofs.addresses.last_label.Goals as goal

pub returns : goal.returns
returns c =
    let ran = c.last.ensures.ran in
    let parts =
    items_from_drains ran.0 (ran.1.1.0, ran.1.1.1, λ w. (ran.1.0, ran.1.1.2))
    (YieldsList-from_slice_split _ (λ b. b == 46) c.args.bytes.now c.split.ensures.rest c.split.ensures.done c.split.ensures.closure (λ x r q k. search (rules, tests))) in
    let some = length-slice_split (λ b. b == 46) c.args.bytes.now in
    last_given (λ x. x.now) c.args.bytes c.unwrap_or.result c.last.result ran.0 (parts_at 46 c.args.bytes.now) ran.2 c.unwrap_or.ensures parts (omega (arith, some))
