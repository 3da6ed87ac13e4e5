use Rattle.std.proofs.Common.{◌≡◌, ℕ, length, drop, take, ap, arith, subst}
use Rattle.desk_base.specs.MemEvents.{image_of, events, logged}
use Rattle.desk_base.specs.StopPoints.{Reached}
use Rattle.desk_base.specs.KeptSteps.{KeptSoFar}
use Rattle.desk_base.proofs.StopLaws.{log_within, log_last}
use Rattle.desk_base.proofs.KeptLaws.{chosen_none, log_chosen, log_chosen_within, log_chosen_last}
use Rattle.desk_base.proofs.stopping.stop_at.Goals as goal
use Rattle.desk_base.proofs.stopping.stop_at.Goals.{then-moment-calls+in_ok-say_within, else-moment-calls}

pub calls-init : goal.calls-init
calls-init c = rw c.as_slice-written.ensures.value (chosen_none _ _ _ _ _ _ c.in_ok-stop.ensures.reads c.in_ok-stop.ensures.image c.in_ok-stop.ensures.taken)

pub calls-preserved : goal.calls-preserved
calls-preserved c =
    let log = c.args.log.now in
    log_chosen c.args.first.now c.as_slice-calls.result.now log.calls.items c.calls.index _ (logged log c.args.said.now) c.calls.said.now c.calls.written.now c.behind.result.0.now c.behind.result.1.now
    c.args.keeping.now c.calls.keeping c.go_on.new.keeping
    (image_of c.calls.stop.reads) (image_of c.go_on.new.stop.reads) (image_of c.calls.stop.image) (image_of c.go_on.new.stop.image) c.calls.stop.taken.items c.go_on.new.stop.taken.items
    c.as_slice-calls.ensures.value (omega (arith, c.calls-test.true, c.requires)) c.behind.ensures.said c.behind.ensures.written c.calls.invariant c.in_ok-go_on.ensures.reads c.in_ok-go_on.ensures.image c.in_ok-go_on.ensures.taken
    c.in_ok-go_on.ensures.chosen c.go_on.ensures.stays

pub returns-clause-found : goal.returns-clause-found
returns-clause-found c =
    let log = c.args.log.now in
    let es = logged log c.args.said.now in
    let there : c.calls.index ≡ c.args.moment = omega (arith, c.calls.auto.index-end, c.calls-test.false) in
    let reached = subst (λ (n : ℕ). Reached (image_of c.args.first.now) es (events (drop n log.calls.items) c.calls.said.now c.calls.written.now) n (image_of c.calls.stop.reads) (image_of c.calls.stop.image) c.calls.stop.taken.items) there c.calls.invariant.0 in
    elim c.if-moment-calls.branch [
      | then-moment-calls+in_ok-say_within w ↦ rw w.stop-is
          (log_within c.args.first.now c.as_slice-calls.result.now log.calls.items c.args.moment _ es c.calls.said.now c.calls.written.now (image_of c.calls.stop.reads) (image_of c.calls.stop.image) c.calls.stop.taken.items w.say_within.new.taken.items
          c.as_slice-calls.ensures.value w.if-moment-calls.true reached w.in_ok-say_within.ensures.within)
      | else-moment-calls w ↦ rw w.stop-is
          (log_last c.args.first.now log.calls.items c.args.moment es c.calls.said.now c.calls.written.now (image_of c.calls.stop.reads) (image_of c.calls.stop.image) c.calls.stop.taken.items
          (omega (arith, w.if-moment-calls.false, ap length c.as_slice-calls.ensures.value)) reached)
    ]

pub returns-clause-chosen : goal.returns-clause-chosen
returns-clause-chosen c =
    let log = c.args.log.now in
    let es = logged log c.args.said.now in
    let there : c.calls.index ≡ c.args.moment = omega (arith, c.calls.auto.index-end, c.calls-test.false) in
    let first = image_of c.args.first.now in
    let image = image_of c.calls.stop.image in
    let reached = subst (λ (n : ℕ). Reached first es (events (drop n log.calls.items) c.calls.said.now c.calls.written.now) n (image_of c.calls.stop.reads) image c.calls.stop.taken.items × KeptSoFar first (take n es) c.args.keeping.now c.calls.keeping image) there c.calls.invariant in
    elim c.if-moment-calls.branch [
      | then-moment-calls+in_ok-say_within w ↦ rw w.stop-is
          (log_chosen_within c.args.first.now c.as_slice-calls.result.now log.calls.items c.args.moment _ es c.calls.said.now c.calls.written.now c.args.keeping.now c.calls.keeping (image_of c.calls.stop.reads) (image_of c.calls.stop.image) c.calls.stop.taken.items w.say_within.new.taken.items
          c.as_slice-calls.ensures.value w.if-moment-calls.true reached w.in_ok-say_within.ensures.chosen)
      | else-moment-calls w ↦ rw w.stop-is
          (log_chosen_last c.args.first.now log.calls.items c.args.moment es c.calls.said.now c.calls.written.now c.args.keeping.now c.calls.keeping (image_of c.calls.stop.reads) (image_of c.calls.stop.image) c.calls.stop.taken.items
          (omega (arith, w.if-moment-calls.false, ap length c.as_slice-calls.ensures.value)) reached)
    ]
