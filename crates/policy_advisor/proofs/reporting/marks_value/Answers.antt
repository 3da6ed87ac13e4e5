use Rattle.std.proofs.Common.{ap, ◌∙◌}
use Rattle.serde_json.specs.View.{view}
use Rattle.policy_advisor.specs.Reports.{mark_array}
use Rattle.reply_codec.proofs.BuiltLists.{pushed}
use Rattle.policy_advisor.proofs.reporting.marks_value.Goals as goal

pub marks-preserved : goal.marks-preserved
marks-preserved c =
    pushed view mark_array c.marks.values.items _ _ c.args.marks.now c.as_slice-mark-items.result.now c.marks.mark-index c.mark-item.result c.as_slice-mark-items.ensures c.marks-test.true c.in_ok-push.ensures.items
    (c.in_ok-mark_value.ensures ∙ ap mark_array c.mark-item.is) c.marks.invariant
