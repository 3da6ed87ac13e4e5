use Rattle.std.proofs.Common.{◌≡◌, ◌++◌}
use Rattle.ctrl_model.specs.Numbered.{numbers}
use Rattle.record_tables.specs.Entries.{numbered_records}
use Rattle.record_tables.proofs.entries.numbers_in.Given as goal

abbrev pub invariant-rows : goal.invariant-rows
invariant-rows g l = l.found.items ++ numbers l.number-iterator ≡ numbers (numbered_records l.entries.entries)
