use Rattle.std.proofs.Common.{◌≡◌, ◌<◌, false, true, length, sym, arith}
use Rattle.std.specs.Prelude.{is_some}
use Rattle.serde_json.specs.View.{view}
use Rattle.body_fields.proofs.ItemLaws.{unsaid_at, said_to}
use Rattle.body_fields.proofs.item_lists.are_said.Goals as goal

pub returns-then-not-is_said : goal.returns-then-not-is_said
returns-then-not-is_said g c =
    let below : c.values.value-index < length c.args.values.now = omega arith in
    let no : is_some (g.K.ItemKind.kind (view c.value-item.result)) ≡ false = cc in
    sym (unsaid_at g.K.ItemKind.kind c.args.values.now c.values.value-index c.value-item.result below c.value-item.is no)

pub values-preserved : goal.values-preserved
values-preserved g c =
    let below : c.values.value-index < length c.args.values.now = omega arith in
    let so : is_some (g.K.ItemKind.kind (view c.value-item.result)) ≡ true = cc in
    said_to g.K.ItemKind.kind c.args.values.now c.values.value-index c.value-item.result below c.value-item.is so c.values.invariant
