use Rattle.std.proofs.Common.{◌≡◌, drop}
use Rattle.ctrl_model.specs.Walks.{is_among}
use Rattle.record_tables.proofs.number_lists.is_among.Given as goal

abbrev pub invariant-numbers : goal.invariant-numbers
invariant-numbers l = is_among l.number (drop l.other-index l.numbers) ≡ is_among l.number l.numbers
