use Rattle.std.proofs.Common.{◌≡◌, ◌++◌, map, take}
use Rattle.policy_commands.specs.PolicyRows.{forgotten_at}
use Rattle.policy_store.specs.PolicyTables.{policies}
use Rattle.policy_commands.proofs.rows.push_forgotten.Given as goal

-- the changes of the policies that were passed stand behind the others
abbrev pub invariant-numbers : goal.invariant-numbers
invariant-numbers l = l.changes.items ≡ l.fn.changes.items ++ map (forgotten_at l.kind l.hand l.name (policies l.kind l.kept)) (take l.number-index l.number-items)
