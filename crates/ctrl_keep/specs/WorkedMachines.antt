-- Machines and commands of the worked examples.
use Rattle.std.specs.Prelude.{ℕ, [], ◌∷◌, codes, Some}
use Rattle.ctrl_model.specs.declared.commands.Command.{Command}
use Rattle.ctrl_model.specs.declared.commands.Command.TheVariants.{CreateIdentity}
use Rattle.ctrl_model.specs.Limits.{last_serial}
use Rattle.ctrl_model.specs.State.{State, start}
use Rattle.ctrl_model.specs.WorkedStates.{after, counted_after}
use Rattle.row_store.specs.declared.bounds.StoreBounds.{StoreBounds}
use Rattle.ctrl_keep.specs.KeptMachine.{Machine}

-- A machine whose journal goes on at a place, behind a mark of one byte.
abbrev pub machine_at : State → ℕ → Machine
machine_at s end = record { state = s; place = Some (record { end = end; mark = 1 }) }

-- The command that creates the identity ann.
abbrev pub creates_ann : Command
creates_ann = CreateIdentity (codes "ann") []

-- The state that it makes of the start, counted.
abbrev pub made_by_ann : State
made_by_ann = counted_after (creates_ann ∷ []) start

-- The same, not counted, as the first format has it.
abbrev pub bare_ann : State
bare_ann = after (creates_ann ∷ []) start

-- A state with the last serial.
abbrev pub at_last_serial : State → State
at_last_serial s = record s { serial = last_serial }

-- A machine whose journal goes on at a place, behind a mark of so many bytes.
abbrev pub marked : State → (end mark : ℕ) → Machine
marked s end mark = record { state = s; place = Some (record { end = end; mark = mark }) }

-- Bounds of a slot of so many bytes, and of a mark of two.
abbrev pub at_most : ℕ → StoreBounds
at_most slot = record { slot = slot; mark = 2 }
