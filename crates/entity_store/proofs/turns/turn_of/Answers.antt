use Rattle.std.proofs.Common.{rules}
use Rattle.entity_store.proofs.turns.turn_of.Goals as goal

pub returns-in-Some-Remove : goal.returns-in-Some-Remove
returns-in-Some-Remove c = search rules
