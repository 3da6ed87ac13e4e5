use Rattle.std.proofs.Common.{ℕ, Bool, not, sym, ◌∙◌, ap}
use Rattle.circuit_settling.specs.OtherLinks.{granted_at}
use Rattle.circuit_settling.proofs.SiftedNumbers.{passed, left}
use Rattle.circuit_settling.proofs.settling.revoked_among.Goals.{then-not-will_be_granted+in_ok-push, else-not-will_be_granted}
use Rattle.circuit_settling.proofs.settling.revoked_among.Goals as goal

pub circuits-preserved : goal.circuits-preserved
circuits-preserved c =
    let p : ℕ → Bool = λ n. not (granted_at c.args.present.now c.args.grants.now c.args.circuits.now.circuits.rows n) in
    let seen = c.as_slice-number-items.result.now in
    elim c.if-not-will_be_granted.branch [
      | then-not-will_be_granted+in_ok-push w ↦ rw w.revoked-is
          (passed p seen c.args.numbers.now c.as_slice-number-items.ensures c.circuits.number-index c.circuits-test.true c.circuits.revoked.items w.push.new.self.items
          (ap not (sym c.will_be_granted.ensures ∙ w.if-not-will_be_granted.true)) w.in_ok-push.ensures.items c.circuits.invariant)
      | else-not-will_be_granted w ↦ rw w.revoked-is
          (left p seen c.args.numbers.now c.as_slice-number-items.ensures c.circuits.number-index c.circuits-test.true c.circuits.revoked.items (ap not (sym c.will_be_granted.ensures ∙ w.if-not-will_be_granted.false)) c.circuits.invariant)
    ]
