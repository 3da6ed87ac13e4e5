use Rattle.std.proofs.Common.{true, refl, sym, subst}
use Rattle.core_stores.specs.StoredState.{state_of}
use Rattle.ctrl_core.specs.KeptState.{Keeps, IsGranted}
use Rattle.ctrl_core.proofs.LoadedLaws.{keeps_start}
use Rattle.ctrl_core.proofs.core_state.Core.empty.Goals as goal

pub invariant_of-result : goal.invariant_of-result
invariant_of-result c = λ live. subst (λ st. Keeps st × IsGranted true (state_of st)) (sym c.in_ok-stores.ensures) (keeps_start, λ e. refl)
