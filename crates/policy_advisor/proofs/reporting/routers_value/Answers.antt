use Rattle.serde_json.specs.Data.{string}
use Rattle.serde_json.specs.View.{view}
use Rattle.ctrl_model.specs.Numbered.{is_present}
use Rattle.policy_advisor.specs.Reports.{router_name}
use Rattle.reply_codec.proofs.BuiltLists.{each_passes, pushed}
use Rattle.policy_advisor.proofs.reporting.routers_value.Goals as goal

pub router_value-requires : goal.router_value-requires
router_value-requires c =
    each_passes (is_present c.args.entities.now.routers.rows) c.args.numbers.now c.as_slice-number-items.result.now c.numbers.number-index 0 c.as_slice-number-items.ensures c.numbers-test.true c.requires

pub numbers-preserved : goal.numbers-preserved
numbers-preserved c =
    pushed view (λ n. string (router_name c.args.entities.now.routers.rows n)) c.numbers.values.items _ _ c.args.numbers.now c.as_slice-number-items.result.now c.numbers.number-index 0 c.as_slice-number-items.ensures c.numbers-test.true c.in_ok-push.ensures.items
    c.in_ok-router_value.ensures c.numbers.invariant
