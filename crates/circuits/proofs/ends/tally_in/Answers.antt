use Rattle.std.proofs.Common.{◌≡◌, ◌+◌, cond, ap, subst}
use Rattle.grant_denorm.specs.PairCounts.{count_of, same_pair}
use Rattle.circuits.proofs.EndLaws.{one_counted}
use Rattle.circuits.proofs.ends.tally_in.Goals as goal

pub circuits-preserved : goal.circuits-preserved
circuits-preserved c = λ n.
    one_counted c.circuits.circuit-iterator c.next.new.self c.in-Some.field-0-0.now c.in-Some.circuit.now n (count_of c.circuits.ends n 0) (count_of c.raise.new.self n 0) _
    c.in-Some.ensures.steps (c.circuits.invariant n)
    (subst (λ t. count_of c.raise.new.self n 0 ≡ count_of c.circuits.ends n 0 + cond (same_pair (n, 0) (t, 0)) 1 0) (ap (λ k. k.terminator) c.circuit.view_is) (c.in_ok-raise.ensures.ok n 0))
