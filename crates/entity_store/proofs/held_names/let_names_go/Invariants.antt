use Rattle.std.proofs.Common.{◌≡◌, ◌+◌, ℕ, List, take}
use Rattle.entity_store.specs.AttributeUses.{times}
use Rattle.entity_store.proofs.held_names.let_names_go.Given as goal

abbrev pub invariant-names : goal.invariant-names
invariant-names l = (q : List ℕ) → times q l.held.items + times q (take l.name-index l.names) ≡ times q l.fn.held.items
