use Rattle.change_lines.proofs.EqualStates.{nothing_said, same_from_nothing}
use Rattle.change_lines.proofs.laws.nothing_is_said_of_equal_states.Goals as goal

pub returns : goal.returns
returns c = record { same = nothing_said; back = same_from_nothing }
