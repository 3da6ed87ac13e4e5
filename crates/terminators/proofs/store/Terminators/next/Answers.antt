use Rattle.std.proofs.Common.{subst}
use Rattle.terminators.specs.TermTables.{KeepsTerms}
use Rattle.terminators.proofs.KeptLaws.{keeps}
use Rattle.terminators.proofs.store.Terminators.next.Goals as goal

pub returns-clause-keeps : goal.returns-clause-keeps
returns-clause-keeps c = subst KeepsTerms c.self.view_is (keeps c.self.inside.terms c.next.ensures.order.first c.next.ensures.order.last c.next.ensures.order.ordered c.self.invariant)
