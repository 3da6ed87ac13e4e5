use Rattle.circuits.proofs.store.Circuits.lost.Goals as goal

pub returns : goal.returns
returns c = rw (← c.self.view_is) c.lost_in.ensures
