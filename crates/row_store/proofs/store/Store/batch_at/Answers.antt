use Rattle.std.proofs.Common.{rules, ◌<◌, ◌^◌, sym, subst}
use Rattle.row_store.specs.declared.faults.StoreFault.{StoreFault}
use Rattle.row_store.specs.GateBatches.{GateFails}
use Rattle.row_store.proofs.GateReadings.{gate_has, gate_fails}
use Rattle.row_store.proofs.store.Store.batch_at.Goals as goal

pub returns-in-Ok-clause-found : goal.returns-in-Ok-clause-found
returns-in-Ok-clause-found g c = λ told.
    let range : c.self.inside.end < 2 ^ 64 = search rules in
    gate_has _ _ (g.D.Desk.seen c.args.desk.now).reads c.args.at c.in-Ok.found c.self.view_is range (c.requires.gate told) (c.in-Ok.ensures.found told)

pub returns-in-Err-clause-fault : goal.returns-in-Err-clause-fault
returns-in-Err-clause-fault g c =
    subst (λ (f : StoreFault). GateFails g.D.Desk.tells f) (sym c.in_part.ensures)
    (gate_fails g.D.Desk.tells _ _ (g.D.Desk.seen c.args.desk.now).reads c.args.at c.self.inside.part c.in-Err.fault c.self.view_is c.requires.gate c.in-Err.ensures.fault)
