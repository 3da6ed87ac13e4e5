-- Identities for worked examples.
use Rattle.std.specs.Prelude.{ℕ, List}
use Rattle.ctrl_model.specs.State.{Entity}
use Rattle.entity_store.specs.WorkedTables.{ann_and_bob}

-- Ann with red, and bob with red and blue, under the numbers 1 and 2.
abbrev pub two_identities : List (ℕ × Entity)
two_identities = ann_and_bob.identities.rows
