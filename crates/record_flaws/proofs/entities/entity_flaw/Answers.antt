use Rattle.std.proofs.Common.{◌∙◌, ap}
use Rattle.std.specs.Result.{is_ok}
use Rattle.record_flaws.proofs.EntityFlaws.{found_flaw}
use Rattle.record_flaws.proofs.entities.entity_flaw.Goals as goal

pub returns : goal.returns
returns c =
    c.flaw.ensures
    ∙ found_flaw c.args.kind c.args.coming c.args.name.now c.args.attributes.now c.args.entities.now c.is_out_of_order.result c.is_ok.result c.has_one_too_many.result
    (rw c.next.ensures.next at c.is_out_of_order.ensures) (c.is_ok.ensures.value ∙ ap is_ok c.find.ensures.found) c.has_one_too_many.ensures
