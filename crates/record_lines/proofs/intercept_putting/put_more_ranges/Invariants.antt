use Rattle.std.proofs.Common.{◌≡◌, ◌++◌, take}
use Rattle.record_lines.specs.RecordWords.{behind_commas, range_word}
use Rattle.record_lines.proofs.intercept_putting.put_more_ranges.Given as goal

-- the ranges so far
abbrev pub invariant-pairs : goal.invariant-pairs
invariant-pairs l = l.text.items ≡ l.fn.text.items ++ behind_commas range_word (take l.range-index l.ranges)
