use Rattle.std.specs.Prelude.{IfOk}
use Rattle.std.proofs.Common.{◌≤◌, length, sym, subst}
use Rattle.serde_json.specs.Written.{compact_text}
use Rattle.follow_core.specs.declared.taken.Taken.{Taken}
use Rattle.follow_core.specs.TakenReplies.{taken_object}
use Rattle.follow_core.proofs.replies.told_value.Goals as goal

pub returns-in-BadShip-clause-few : goal.returns-in-BadShip-clause-few
returns-in-BadShip-clause-few c =
    subst (λ (t : Taken). IfOk c.plain_value-in-BadShip.result (λ x. length (compact_text (taken_object c.args.own t)) ≤ 1000)) (sym c.in-BadShip.is) c.plain_value-in-BadShip.ensures.few

pub returns-in-Full-clause-few : goal.returns-in-Full-clause-few
returns-in-Full-clause-few c =
    subst (λ (t : Taken). IfOk c.plain_value-in-Full.result (λ x. length (compact_text (taken_object c.args.own t)) ≤ 1000)) (sym c.in-Full.is) c.plain_value-in-Full.ensures.few

pub returns-in-MarkFull-clause-few : goal.returns-in-MarkFull-clause-few
returns-in-MarkFull-clause-few c =
    subst (λ (t : Taken). IfOk c.plain_value-in-MarkFull.result (λ x. length (compact_text (taken_object c.args.own t)) ≤ 1000)) (sym c.in-MarkFull.is) c.plain_value-in-MarkFull.ensures.few
