use Rattle.std.proofs.Common.{nat_lt, ap, ◌∙◌}
use Rattle.ctrl_model.specs.Hits.{picked}
use Rattle.grant_denorm.specs.PairCounts.{count_of}
use Rattle.intercept_commands.proofs.PlanLaws.{dialled_there, picked_there}
use Rattle.intercept_commands.proofs.planning.plan_pick.Goals as goal

pub picked_reply-requires : goal.picked_reply-requires
picked_reply-requires c =
    let rows = c.args.stores.now.entities.now.services.rows in
    let there = dialled_there rows (λ n. nat_lt 0 (count_of c.args.stores.now.dial.now c.in-Some.number n)) c.in_ok-dialled.dialled.items c.in_ok-dialled.ensures in
    picked_there rows c.args.stores.now.intercepts.now c.in_ok-dialled.dialled.items c.args.udp c.args.address.now c.args.port c.in-Some-pick.hit there
    (c.in-Some-pick.ensures ∙ ap (λ ds. picked c.args.stores.now.intercepts.now ds c.args.udp c.args.address.now c.args.port) c.as_slice.ensures.value)
