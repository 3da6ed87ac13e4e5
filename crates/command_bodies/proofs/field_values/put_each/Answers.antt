use Rattle.std.proofs.Common.{◌∙◌}
use Rattle.serde_json.specs.View.{members_view}
use Rattle.command_bodies.proofs.PutLaws.{put_step}
use Rattle.command_bodies.proofs.field_values.put_each.Goals as goal

pub values-preserved : goal.values-preserved
values-preserved c =
    let at = c.in-Some.ensures.lookup in
    put_step c.args.fields.now c.args.values.now c.values.place c.in-Some.field.now c.index-values-place.result (members_view c.values.members.entries)
    (members_view c.put_given.new.members.entries) at.3.0 c.values-test.true at.1 c.index-values-place.is c.in_ok-put_given.ensures ∙ c.values.invariant
