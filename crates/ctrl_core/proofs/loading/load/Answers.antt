use Rattle.std.proofs.Common.{sym, ap, subst, refl}
use Rattle.row_loading.specs.declared.faults.CoreFault.TheVariants.{NotAState}
use Rattle.row_loading.proofs.ReadRows.{handed_on}
use Rattle.core_stores.specs.StoredState.{state_of}
use Rattle.ctrl_core.specs.KeptState.{Keeps}
use Rattle.ctrl_core.proofs.LoadedLaws.{keeps_start}
use Rattle.ctrl_core.proofs.loading.load.Goals as goal

pub load_into-requires-clause-kept : goal.load_into-requires-clause-kept
load_into-requires-clause-kept c = subst Keeps (sym c.in_ok-stores.ensures) keeps_start

pub load_into-requires-clause-empty : goal.load_into-requires-clause-empty
load_into-requires-clause-empty c = ap state_of c.in_ok-stores.ensures

pub returns-in-Err-clause-refused : goal.returns-in-Err-clause-refused
returns-in-Err-clause-refused c = λ place flaw told. c.in-Err.ensures.refused place flaw (handed_on _ c.in-Err.fault (NotAState place flaw) refl told)
