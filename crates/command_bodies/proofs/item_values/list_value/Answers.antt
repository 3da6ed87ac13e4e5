use Rattle.std.proofs.Common.{◌≡◌, true, refl, sym, ap, ◌∙◌, subst}
use Rattle.serde_json.specs.View.{view}
use Rattle.command_bodies.proofs.ListedValues.{each_passes, pushed}
use Rattle.command_bodies.proofs.item_values.list_value.Goals as goal

pub value-requires : goal.value-requires
value-requires g c = subst (λ x. g.T.ItemValue.fits x ≡ true) (sym c.item-item.is) (each_passes g.T.ItemValue.fits c.args.items.now c.items.item-index c.item-item.result c.items-test.true c.requires)

pub items-preserved : goal.items-preserved
items-preserved g c =
    pushed view g.T.ItemValue.spelled c.items.values.items _ _ c.args.items.now c.args.items.now c.items.item-index c.item-item.result refl c.items-test.true c.in_ok-push.ensures.items
    (c.in_ok-value.ensures ∙ ap g.T.ItemValue.spelled c.item-item.is) c.items.invariant
