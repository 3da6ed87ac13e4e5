use Rattle.link_commands.proofs.PlanLaws.{delete_planned}
use Rattle.link_commands.proofs.planning.plan_delete_link.Goals as goal

pub returns-in-Some : goal.returns-in-Some
returns-in-Some c = delete_planned c.args.link.now c.args.fabric.now c.in-Some.no c.in-Some._row.now c.changed.result c.in-Some.ensures c.changed.ensures
