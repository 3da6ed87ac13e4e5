use Rattle.std.proofs.Common.{◌≡◌, ◌++◌, ◌||◌}
use Rattle.std.specs.List.{filter}
use Rattle.ctrl_model.specs.Numbered.{numbers}
use Rattle.ctrl_model.specs.Walks.{is_among}
use Rattle.circuit_settling.specs.LookedCircuits.{needs}
use Rattle.circuit_settling.proofs.looking.looked_among.Given as goal

-- the numbers so far and those among the circuits that are left are all
abbrev pub invariant-circuits : goal.invariant-circuits
invariant-circuits l =
    l.looked.items ++ numbers (filter (λ row. needs l.pairs l.terminators.terminators.rows row.1 || is_among row.0 l.pathless) l.number-iterator)
    ≡ numbers (filter (λ row. needs l.pairs l.terminators.terminators.rows row.1 || is_among row.0 l.pathless) l.circuits.circuits.rows)
