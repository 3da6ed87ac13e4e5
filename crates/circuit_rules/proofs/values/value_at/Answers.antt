use Rattle.std.proofs.Common.{◌∙◌}
use Rattle.circuit_rules.proofs.ValueLaws.{value_there, value_absent}
use Rattle.circuit_rules.proofs.values.value_at.Goals as goal

pub returns-then-place-view : goal.returns-then-place-view
returns-then-place-view c =
    c.value_in.ensures
    ∙ value_there c.args.router.0 c.args.view.now.routers.now c.args.values.now c.place_in-place.result c.place_in-place.ensures.place c.if-place-view.true

pub returns-else-place-view : goal.returns-else-place-view
returns-else-place-view c = value_absent c.args.router.0 c.args.view.now.routers.now c.args.values.now c.place_in-place.result c.place_in-place.ensures.place c.if-place-view.false
