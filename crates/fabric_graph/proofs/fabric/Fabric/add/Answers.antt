use Rattle.fabric_graph.proofs.KeptLaws.{may_parts, fit_add}
use Rattle.fabric_graph.proofs.fabric.Fabric.add.Goals as goal

pub add-requires-clause-free : goal.add-requires-clause-free
add-requires-clause-free c =
    let may = rw (← c.self.view_is) at c.requires.may in
    (may_parts c.args.link.name c.args.link.a c.args.link.b (record { links = c.self.inside.links; least = c.self.inside.least }) may).free

pub add-requires-clause-room : goal.add-requires-clause-room
add-requires-clause-room c =
    let may = rw (← c.self.view_is) at c.requires.may in
    (may_parts c.args.link.name c.args.link.a c.args.link.b (record { links = c.self.inside.links; least = c.self.inside.least }) may).room.1

pub invariant_of-self-2 : goal.invariant_of-self-2
invariant_of-self-2 c =
    let may = rw (← c.self.view_is) at c.requires.may in
    rw c.in_ok-number.ensures.ok (fit_add c.self.inside.links c.self.inside.least c.args.link c.self.invariant may c.requires.cost c.requires.latency_a c.requires.latency_b)
