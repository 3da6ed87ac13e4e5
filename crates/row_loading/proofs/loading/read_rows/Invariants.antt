use Rattle.std.proofs.Common.{take}
use Rattle.std.specs.Option.{option_map}
use Rattle.row_loading.proofs.ReadRows.{AreRead}
use Rattle.row_loading.proofs.loading.read_rows.Given as goal

-- the changes so far put these rows
abbrev pub invariant-ops : goal.invariant-ops
invariant-ops l = AreRead l.format (take l.op-index l.ops) (option_map (λ k. k.now) l.last) l.rows.items
