use Rattle.std.proofs.Common.{◌∙◌, ap, nat_le}
use Rattle.std.specs.Result.{is_ok}
use Rattle.record_flaws.proofs.LinkFlaws.{told_link}
use Rattle.record_flaws.proofs.links.link_flaw.Goals as goal

pub returns : goal.returns
returns c = λ l s name a b of_entities of_links few sound.
    c.flaw.ensures
    ∙ told_link c.args.entities.now c.args.fabric.now c.args.coming.number c.args.coming.end c.is_out_of_order.result c.args.coming.sound c.is_ok.result c.are_there.result
    (nat_le c.limit.result c.count.result) c.args.name.now c.args.a.0 c.args.b.0 l s (rw c.next.ensures.next at c.is_out_of_order.ensures) (c.is_ok.ensures.value ∙ ap is_ok c.find.ensures.found)
    c.are_there.ensures (λ i. nat_le (c.limit.ensures i) (c.count.ensures.count i)) name a b of_entities of_links few sound
