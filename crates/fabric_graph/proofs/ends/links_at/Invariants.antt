use Rattle.std.proofs.Common.{◌≡◌, ◌++◌}
use Rattle.std.specs.List.{filter}
use Rattle.ctrl_model.specs.Numbered.{numbers}
use Rattle.fabric_graph.specs.LinkEnds.{is_at}
use Rattle.fabric_graph.proofs.ends.links_at.Given as goal

-- the numbers so far and those among the links that are left are all
abbrev pub invariant-links : goal.invariant-links
invariant-links l =
    l.found.items ++ numbers (filter (λ row. is_at l.router.0 row.1) l.number-iterator)
    ≡ numbers (filter (λ row. is_at l.router.0 row.1) l.links.rows)
