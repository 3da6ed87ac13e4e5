use Rattle.std.proofs.Common.{inl, refl}
use Rattle.std.proofs.lemmas.Bool.{false≢true}
use Rattle.core_laws.proofs.worked_settling.granted_circuits.Goals as goal

pub returns-clause-not_granted : goal.returns-clause-not_granted
returns-clause-not_granted c all = false≢true (all _ (inl refl))
