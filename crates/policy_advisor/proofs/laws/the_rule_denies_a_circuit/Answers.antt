use Rattle.std.proofs.Common.{refl}
use Rattle.policy_advisor.proofs.RuleOrder.{advised-first, advised-denied, advised-none}
use Rattle.policy_advisor.proofs.laws.the_rule_denies_a_circuit.Goals as goal

pub returns-clause-rules : goal.returns-clause-rules
returns-clause-rules c = λ w ask i s. refl

pub returns-clause-first : goal.returns-clause-first
returns-clause-first c = advised-first

pub returns-clause-denied : goal.returns-clause-denied
returns-clause-denied c = advised-denied

pub returns-clause-none : goal.returns-clause-none
returns-clause-none c = advised-none
