use Rattle.std.proofs.Common.{List, length, sym, ◌∙◌, ap, refl, subst, arith}
use Rattle.desk_base.specs.declared.mem_log.Call.{Call}
use Rattle.desk_base.specs.MemEvents.{events, image_of, Leaving}
use Rattle.ziti_desk.proofs.MemSteps.{replayed_none}
use Rattle.ziti_desk.proofs.RoomSteps.{same_limits}
use Rattle.ziti_desk.proofs.mem_desk.MemDesk.new.Goals as goal

pub invariant_of-result : goal.invariant_of-result
invariant_of-result c = record {
  replayed = replayed_none _ _ _ _ _ (c.in_ok-grow.ensures.parts ∙ sym c.in_ok-first.ensures) c.in_ok-new.ensures.calls c.in_ok-with_capacity.ensures.items c.in_ok-new.ensures.written;
  parts_fit = c.in_ok-grow.ensures.fits;
  said_fit = omega (arith, c.in_ok-with_capacity.ensures.exact);
  noted_fit = omega (arith, c.in_ok-with_capacity-2.ensures.exact);
}

pub returns-clause-reads : goal.returns-clause-reads
returns-clause-reads c = c.in_ok-grow.ensures.parts

pub returns-clause-first : goal.returns-clause-first
returns-clause-first c = c.in_ok-first.ensures

pub returns-clause-calls : goal.returns-clause-calls
returns-clause-calls c = ap (λ (calls : List Call). events calls c.in_ok-with_capacity.field-0.items c.in_ok-new.field-0.written.items) c.in_ok-new.ensures.calls

pub returns-clause-limits : goal.returns-clause-limits
returns-clause-limits c =
    let said = ap length c.in_ok-with_capacity.ensures.items in
    let noted = ap length c.in_ok-with_capacity-2.ensures.items in
    same_limits refl refl refl (omega (arith, said)) (omega (arith, noted)) c.in_ok-new.ensures.room

pub returns-clause-nothing_pending : goal.returns-clause-nothing_pending
returns-clause-nothing_pending c = λ image leaves.
    subst (λ (calls : List Call). Leaving (image_of c.in_ok-first.first) (events calls c.in_ok-with_capacity.field-0.items c.in_ok-new.field-0.written.items) image) c.in_ok-new.ensures.calls leaves ∙ c.in_ok-first.ensures

pub returns-clause-moment : goal.returns-clause-moment
returns-clause-moment c = ap (λ (calls : List Call). length (events calls c.in_ok-with_capacity.field-0.items c.in_ok-new.field-0.written.items)) c.in_ok-new.ensures.calls
