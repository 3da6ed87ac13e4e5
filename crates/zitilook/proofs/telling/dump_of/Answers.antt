use Rattle.std.proofs.Common.{List, sym, subst}
use Rattle.ctrl_model.specs.State.{State}
use Rattle.ctrl_model.specs.ValidState.{ValidState}
use Rattle.row_codec.specs.declared.rows.Row.{Row}
use Rattle.state_building.specs.BuiltStates.{state_in}
use Rattle.zitilook.proofs.telling.dump_of.Goals as goal

pub dump-requires : goal.dump-requires
dump-requires c =
    subst (λ (rows : List Row). ValidState (state_in rows)) (sym c.as_slice.ensures.value)
    (subst (λ (s : State). ValidState s) (sym c.in_ok-rows.ensures.state) c.requires.those.valid)
