use Rattle.std.proofs.lemmas.Result.{IfErr-weaker}
use Rattle.ctrl_keep.proofs.OpenedFolders.{peek_opens, peek_fails}
use Rattle.ctrl_keep.proofs.loading.peek.Goals as goal

pub returns-in-Ok-clause-fault : goal.returns-in-Ok-clause-fault
returns-in-Ok-clause-fault g c =
    IfErr-weaker c.core_of.result _ _
    (λ fault f. peek_fails g.D.Desk.tells (g.D.Desk.seen c.args.desk.now).reads c.in-Ok.store fault c.in-Ok.ensures.opens f)
    c.core_of.ensures.fault

pub returns-in-Ok-clause-opens : goal.returns-in-Ok-clause-opens
returns-in-Ok-clause-opens g c =
    peek_opens (λ core. core.state) g.D.Desk.tells (g.D.Desk.seen c.args.desk.now).reads c.in-Ok.store c.core_of.result c.in-Ok.ensures.opens c.core_of.ensures.state
