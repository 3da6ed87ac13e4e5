use Rattle.std.proofs.Common.{◌≡◌, ◌++◌, take}
use Rattle.std.specs.List.{flat_map}
use Rattle.record_lines.proofs.word_putting.put_marked.Given as goal

-- the names so far
abbrev pub invariant-names : goal.invariant-names
invariant-names l = l.text.items ≡ l.fn.text.items ++ flat_map (λ name. l.mark ++ name) (take l.name-index l.names)
