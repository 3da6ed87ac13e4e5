use Rattle.std.proofs.Common.{not, ◌∙◌, ap}
use Rattle.entity_store.specs.AttributeUses.{has_attribute_room}
use Rattle.record_flaws.proofs.EntityFlaws.{full_kind, open_kind}
use Rattle.record_flaws.proofs.entities.has_one_too_many.Goals as goal
use Rattle.record_flaws.proofs.entities.has_one_too_many.Goals.{then-count-limit, else-count-limit}

pub returns : goal.returns
returns c =
    let k = c.args.kind in
    let t = c.args.entities.now in
    let fresh = c.args.attributes.now in
    elim c.if-count-limit.branch [
      | then-count-limit w ↦ w.result-is ∙ full_kind k fresh t c.limit.result c.count.result c.limit.ensures c.count.ensures.count w.if-count-limit.true
      | else-count-limit w ↦
          w.result-is ∙ ap not (w.has_room.ensures ∙ ap (λ gone. has_attribute_room t gone fresh) (c.of-none.ensures ∙ c.new.ensures.items))
          ∙ open_kind k fresh t c.limit.result c.count.result c.limit.ensures c.count.ensures.count w.if-count-limit.false
    ]
