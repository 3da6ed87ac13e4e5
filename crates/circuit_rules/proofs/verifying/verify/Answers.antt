use Rattle.circuit_rules.specs.Views.{asked}
use Rattle.circuit_rules.proofs.BestClaimLaws.{found_best}
use Rattle.circuit_rules.proofs.verifying.verify.Goals as goal

pub returns-clause-best : goal.returns-clause-best
returns-clause-best c = λ are.
    found_best c.args.view.now (asked c.args.ask.now) c.args.claim.now c.judge.result
    (record { links = c.next-next_link.ensures.numbers; routers = are; terminators = c.next-next.ensures.keeps }) c.judge.ensures
