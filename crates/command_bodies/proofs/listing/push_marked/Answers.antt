use Rattle.std.proofs.Common.{◌++◌, ap, ◌∙◌}
use Rattle.serde_json.specs.Data.{string}
use Rattle.serde_json.specs.View.{view}
use Rattle.command_bodies.proofs.ListedValues.{pushed_behind}
use Rattle.command_bodies.proofs.listing.push_marked.Goals as goal

pub names-preserved : goal.names-preserved
names-preserved c =
    pushed_behind view (λ n. string (c.args.mark.now ++ n)) _ c.names.values.items _ _ c.args.names.now c.as_slice-name-items.result.now c.names.name-index c.name-item.result c.as_slice-name-items.ensures c.names-test.true
    c.in_ok-push.ensures.items (c.in_ok-marked_value.ensures ∙ ap (λ n. string (c.args.mark.now ++ n)) c.name-item.is) c.names.invariant
