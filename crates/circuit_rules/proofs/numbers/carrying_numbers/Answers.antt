use Rattle.std.proofs.Common.{sym, ◌∙◌}
use Rattle.circuit_rules.specs.Offers.{is_carried}
use Rattle.circuit_rules.proofs.RouterNumbers.{passes, fails}
use Rattle.circuit_rules.proofs.numbers.carrying_numbers.Goals.{then-is_carried+in_ok-push, else-is_carried}
use Rattle.circuit_rules.proofs.numbers.carrying_numbers.Goals as goal

pub routers-preserved : goal.routers-preserved
routers-preserved c =
    let p = is_carried c.args.offers.now c.args.place in
    elim c.if-is_carried.branch [
      | then-is_carried+in_ok-push w ↦ rw w.carrying-is
          (passes p c.args.routers.now c.routers.router-index _ c.routers-test.true _ c.routers.carrying.items w.push.new.self.items (sym c.is_carried.ensures ∙ w.if-is_carried.true) w.in_ok-push.ensures.items
          c.routers.invariant)
      | else-is_carried w ↦ rw w.carrying-is
          (fails p c.args.routers.now c.routers.router-index _ c.routers-test.true _ c.routers.carrying.items (sym c.is_carried.ensures ∙ w.if-is_carried.false) c.routers.invariant)
    ]
