use Rattle.std.proofs.Common.{arith}
use Rattle.serde_json.specs.View.{view}
use Rattle.json_body.proofs.ListLaws.{list-within, list-beyond}
use Rattle.json_body.proofs.value_kinds.as_list_of.Goals as goal

pub returns-then-len-most : goal.returns-then-len-most
returns-then-len-most c =
    rw c.as_slice.ensures.value (list-within c.args.most (view c.args.value.now) c.in_ok-items.items.now.items c.in_ok-items.ensures (omega arith))

pub returns-else-len-most : goal.returns-else-len-most
returns-else-len-most c = list-beyond c.args.most (view c.args.value.now) c.in_ok-items.items.now.items c.in_ok-items.ensures (omega arith)
