use Rattle.entity_store.proofs.KeptLaws.{on_err}
use Rattle.link_commands.proofs.JoinLaws.{create_planned, create_told}
use Rattle.link_commands.proofs.planning.plan_create_link.Goals as goal

pub returns-clause-plan : goal.returns-clause-plan
returns-clause-plan c =
    create_planned c.args.name.now c.args.a.now c.args.b.now c.args.cost c.args.latency_a c.args.latency_b c.args.entities.now c.args.fabric.now
    c.in-Ok.ends.0 c.in-Ok.ends.1 c.in_ok-name.name c.next-number.result c.changed.result c.requires.cost c.requires.latency_a c.requires.latency_b
    c.in-Ok.ensures.joins c.in_ok-name.ensures c.next-number.ensures.next c.changed.ensures

pub returns-in_err-name-clause-memory : goal.returns-in_err-name-clause-memory
returns-in_err-name-clause-memory c = on_err _ _ (create_told c.args.name.now c.args.a.now c.args.b.now c.args.cost c.args.latency_a c.args.latency_b c.args.entities.now c.args.fabric.now
    c.in-Ok.ends.0 c.in-Ok.ends.1 c.requires.cost c.requires.latency_a c.requires.latency_b c.in-Ok.ensures.joins)
