use Rattle.circuit_settling.proofs.EmptiedLaws.{emptied_by_relation}
use Rattle.circuit_settling.proofs.emptying.emptied_pairs.Goals as goal

pub returns : goal.returns
returns c =
    emptied_by_relation c.args.after.now c.args.steps.now (record { dial = c.in_ok-emptied.field-0; bind = c.in_ok-emptied-2.field-0; identity_router = c.in_ok-emptied-3.field-0; service_router = c.in_ok-emptied-4.field-0 })
    (rw c.as_slice.ensures.value at c.in_ok-emptied.ensures)
    (rw c.as_slice-2.ensures.value at c.in_ok-emptied-2.ensures)
    (rw c.as_slice-3.ensures.value at c.in_ok-emptied-3.ensures)
    (rw c.as_slice-4.ensures.value at c.in_ok-emptied-4.ensures)
