use Rattle.std.proofs.Common.{ℕ, Bool, List, Option, not, get_or, sym, ◌∙◌, ap}
use Rattle.std.specs.Prelude.{is_some}
use Rattle.circuits.specs.MovedCircuits.{move_to}
use Rattle.circuits.specs.declared.moves.Move.{Move}
use Rattle.circuit_settling.specs.OtherLinks.{way_at}
use Rattle.circuit_settling.proofs.SiftedNumbers.{passed, left, taken, skipped}
use Rattle.circuit_settling.proofs.judging.judge.Goals.{in-Some+in_ok-push-in-Some, in-None+in_ok-push-in-None}
use Rattle.circuit_settling.proofs.judging.judge.Goals as goal

pub lost-preserved : goal.lost-preserved
lost-preserved c =
    let way : ℕ → Option (List ℕ) = way_at c.args.present.now c.args.grants.now c.args.circuits.now.circuits.rows in
    let ends : ℕ → Bool = λ n. not (is_some (way n)) in
    let moves : ℕ → Option Move = λ n. move_to n (way n) in
    let seen = c.as_slice-number-items.result.now in
    let lost = c.args.lost.now in
    let same = c.as_slice-number-items.ensures in
    let i = c.lost.number-index in
    let n = get_or seen i 0 in
    elim c.match-branch-2.branch [
      | in-Some+in_ok-push-in-Some w ↦
          let is = sym c.in_ok-links.ensures.links ∙ w.in-Some.is in
          rw w.ended-is (rw w.moves-is (
            c.way_at.ensures.graph ∙ c.lost.invariant.0,
            left ends seen lost same i c.lost-test.true c.lost.ended.items (ap (λ o. not (is_some o)) is) c.lost.invariant.1,
            taken moves seen lost same i c.lost-test.true c.lost.moves.items w.push.new.self.items _ (ap (move_to n) is) w.in_ok-push-in-Some.ensures.items c.lost.invariant.2,
          ))
      | in-None+in_ok-push-in-None w ↦
          let is = sym c.in_ok-links.ensures.links ∙ w.in-None.is in
          rw w.ended-is (rw w.moves-is (
            c.way_at.ensures.graph ∙ c.lost.invariant.0,
            passed ends seen lost same i c.lost-test.true c.lost.ended.items w.push-in-None.new.self.items (ap (λ o. not (is_some o)) is) w.in_ok-push-in-None.ensures.items c.lost.invariant.1,
            skipped moves seen lost same i c.lost-test.true c.lost.moves.items (ap (move_to n) is) c.lost.invariant.2,
          ))
    ]
