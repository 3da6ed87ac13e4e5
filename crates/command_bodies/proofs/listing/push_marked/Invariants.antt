use Rattle.std.proofs.Common.{◌≡◌, ◌++◌, map, take}
use Rattle.serde_json.specs.Data.{string}
use Rattle.serde_json.specs.View.{view}
use Rattle.command_bodies.proofs.listing.push_marked.Given as goal

-- behind the values that were there stand those of the names before the index
abbrev pub invariant-names : goal.invariant-names
invariant-names l = map view l.values.items ≡ map view l.fn.values.items ++ map (λ n. string (l.mark ++ n)) (take l.name-index l.names)
