use Rattle.std.proofs.Common.{◌≡◌, take}
use Rattle.grant_denorm.proofs.counts.copy_of.Given as goal

-- the rows so far are copied
abbrev pub invariant-rows : goal.invariant-rows
invariant-rows l = l.copied.items ≡ take l.row-index l.rows
