use Rattle.std.proofs.Common.{◌≡◌, ◌++◌, take}
use Rattle.policy_store.proofs.naming.push_names.Given as goal

-- behind what stood there are the names before the index
abbrev pub invariant-names : goal.invariant-names
invariant-names l = l.kept.items ≡ l.fn.kept.items ++ take l.name-index l.names
