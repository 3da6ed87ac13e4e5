use Rattle.std.proofs.Common.{◌≡◌, ◌++◌}
use Rattle.std.specs.List.{filter}
use Rattle.ctrl_model.specs.Numbered.{numbers}
use Rattle.circuits.specs.LostCircuits.{is_lost}
use Rattle.circuits.proofs.losses.lost_in.Given as goal

-- the numbers so far and those among the circuits that are left are all
abbrev pub invariant-circuits : goal.invariant-circuits
invariant-circuits l =
    l.lost.items ++ numbers (filter (λ row. is_lost l.loss row.1) l.number-iterator)
    ≡ numbers (filter (λ row. is_lost l.loss row.1) l.granted.rows)
