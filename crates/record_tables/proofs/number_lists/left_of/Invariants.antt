use Rattle.std.proofs.Common.{◌≡◌, ◌++◌, drop}
use Rattle.record_tables.specs.Turns.{left_of}
use Rattle.record_tables.proofs.number_lists.left_of.Given as goal

abbrev pub invariant-numbers : goal.invariant-numbers
invariant-numbers l = l.left.items ++ left_of l.gone (drop l.number-index l.number-items) ≡ left_of l.gone l.number-items
