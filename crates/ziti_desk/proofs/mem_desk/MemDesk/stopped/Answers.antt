use Rattle.std.proofs.Common.{◌≡◌, List, [], ℕ, subst, arith}
use Rattle.desk_base.specs.MemEvents.{image_of, logged}
use Rattle.desk_base.specs.StopPoints.{PairsAt, KeepsNothing, KeepsAll}
use Rattle.desk_base.proofs.MemLaws.{events_count}
use Rattle.desk_base.proofs.StopLaws.{at_since}
use Rattle.ziti_desk.proofs.mem_desk.MemDesk.stopped.Goals as goal

pub stop_at-requires : goal.stop_at-requires
stop_at-requires c = let log = c.args.self.now.log in omega (arith, c.requires, events_count log.calls.items c.args.self.now.said.items log.written.items)

pub returns-clause-since : goal.returns-clause-since
returns-clause-since c = λ early le.
    let desk = c.args.self.now in
    let first = image_of desk.first in
    at_since first (λ i. i ≡ first) [] (logged desk.log desk.said.items) early c.args.moment (image_of c.in_ok-stop.stop.image) c.in_ok-stop.stop.taken.items le
    (subst (λ (l : List ℕ). PairsAt first (λ i. i ≡ first) [] (logged desk.log l) c.args.moment (image_of c.in_ok-stop.stop.image) c.in_ok-stop.stop.taken.items) c.as_slice-said.ensures.value c.in_ok-stop.ensures.found)

pub returns-clause-nothing : goal.returns-clause-nothing
returns-clause-nothing c = λ none.
    let desk = c.args.self.now in
    subst (λ (l : List ℕ). KeepsNothing (image_of desk.first) (logged desk.log l) c.args.moment (image_of c.in_ok-stop.stop.image) c.in_ok-stop.stop.taken.items) c.as_slice-said.ensures.value
    (c.in_ok-stop.ensures.chosen.nothing (c.chosen-keeping.ensures.nothing none))

pub returns-clause-all : goal.returns-clause-all
returns-clause-all c = λ all.
    let desk = c.args.self.now in
    subst (λ (l : List ℕ). KeepsAll (image_of desk.first) (logged desk.log l) c.args.moment (image_of c.in_ok-stop.stop.image) c.in_ok-stop.stop.taken.items) c.as_slice-said.ensures.value
    (c.in_ok-stop.ensures.chosen.all (c.chosen-keeping.ensures.all all))
