use Rattle.circuit_rules.specs.Views.{network, asked}
use Rattle.circuit_rules.proofs.EntryLaws.{granted_wants}
use Rattle.circuit_rules.proofs.explaining.explain.Goals as goal

pub returns-in_err-explanation-clause-memory : goal.returns-in_err-explanation-clause-memory
returns-in_err-explanation-clause-memory c = λ wants. granted_wants (network c.args.view.now) (asked c.args.ask.now) c.in_ok-found.found.route c.in_ok-found.ensures.decides
