use Rattle.std.proofs.Common.{◌≡◌, ◌++◌, not, drop}
use Rattle.std.specs.List.{filter}
use Rattle.circuit_settling.specs.OtherLinks.{keeps_at}
use Rattle.circuit_settling.proofs.settling.going_among.Given as goal

abbrev pub invariant-circuits : goal.invariant-circuits
invariant-circuits l =
    l.going.items ++ filter (λ n. not (keeps_at l.present l.grants l.circuits.circuits.rows n)) (drop l.number-index l.numbers)
    ≡ filter (λ n. not (keeps_at l.present l.grants l.circuits.circuits.rows n)) l.numbers
