use Rattle.std.proofs.Common.{ℕ, Bool, not, sym, ◌∙◌, ap}
use Rattle.circuit_settling.specs.OtherLinks.{keeps_at}
use Rattle.circuit_settling.proofs.SiftedNumbers.{passed, left}
use Rattle.circuit_settling.proofs.settling.going_among.Goals.{then-not-branch+in_ok-push, else-not-branch}
use Rattle.circuit_settling.proofs.settling.going_among.Goals as goal

pub circuits-preserved : goal.circuits-preserved
circuits-preserved c =
    let p : ℕ → Bool = λ n. not (keeps_at c.args.present.now c.args.grants.now c.args.circuits.now.circuits.rows n) in
    let seen = c.as_slice-number-items.result.now in
    elim c.if-not-branch.branch [
      | then-not-branch+in_ok-push w ↦ rw w.going-is
          (passed p seen c.args.numbers.now c.as_slice-number-items.ensures c.circuits.number-index c.circuits-test.true c.circuits.going.items w.push.new.self.items
          (ap not (sym c.in_ok-will_stay.ensures ∙ w.if-not-branch.true)) w.in_ok-push.ensures.items c.circuits.invariant)
      | else-not-branch w ↦ rw w.going-is
          (left p seen c.args.numbers.now c.as_slice-number-items.ensures c.circuits.number-index c.circuits-test.true c.circuits.going.items (ap not (sym c.in_ok-will_stay.ensures ∙ w.if-not-branch.false)) c.circuits.invariant)
    ]
