use Rattle.std.proofs.Common.{rules}
use Rattle.fabric_graph.proofs.KeptLaws.{set_to, fit_set}
use Rattle.fabric_graph.proofs.fabric.Fabric.set.Goals as goal

pub invariant_of-self : goal.invariant_of-self
invariant_of-self c =
    rw (c.edit.ensures.by (set_to c.args.cost c.args.latency_a c.args.latency_b c.args.up) (λ old new h. search rules))
    (fit_set c.self.inside.links c.self.inside.least c.args.no.0 c.args.cost c.args.latency_a c.args.latency_b c.args.up c.self.invariant c.requires.cost c.requires.latency_a c.requires.latency_b)
