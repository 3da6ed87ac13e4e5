use Rattle.fabric_graph.proofs.fabric.Fabric.links_at.Goals as goal

pub returns : goal.returns
returns c = rw (← c.self.view_is) c.links_at.ensures
