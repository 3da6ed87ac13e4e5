use Rattle.std.proofs.Common.{◌≤◌, ◌<◌, subst}
use Rattle.std.proofs.lemmas.Result.{err_from_is_err_and}
use Rattle.slot_reading.specs.BatchRows.{ByteRows, rows_in}
use Rattle.row_store.specs.RewrittenStores.{compacted_size, RoomFails}
use Rattle.row_store.specs.WrittenRows.{IsSlotOf}
use Rattle.row_store.proofs.CompactLaws.{small_enough}
use Rattle.row_store.proofs.NarrowLaws.{as_each, rises_as, puttable_as}
use Rattle.row_store.proofs.compacting.written_slot.Goals as goal

pub returns-in_err-find_room-clause-fault : goal.returns-in_err-find_room-clause-fault
returns-in_err-find_room-clause-fault c =
    let p = err_from_is_err_and c.from_residual.result c.from_residual.ensures.1 in
    rw (p.1, p.2) (subst (λ (l : ByteRows). RoomFails (compacted_size l) c.args.mark c.args.bounds.slot c.args.bounds.mark c.in_err-find_room.field-0.0)
    (as_each c.args.writing (rows_in c.args.rows.now.entries)) c.in_err-find_room.ensures.fault)

pub returns-in_err-slot-clause-fault : goal.returns-in_err-slot-clause-fault
returns-in_err-slot-clause-fault c =
    let p = err_from_is_err_and c.from_residual-in_err-slot.result c.from_residual-in_err-slot.ensures.1 in
    rw (p.1, p.2) (subst (λ (l : ByteRows). (compacted_size l ≤ c.args.bounds.slot) × (c.args.mark < c.args.bounds.mark))
    (as_each c.args.writing (rows_in c.args.rows.now.entries)) c.in_ok-find_room.ensures.room)

pub returns-clause-room : goal.returns-clause-room
returns-clause-room c =
    subst (λ (l : ByteRows). (compacted_size l ≤ c.args.bounds.slot) × (c.args.mark < c.args.bounds.mark)) (as_each c.args.writing (rows_in c.args.rows.now.entries))
    c.in_ok-find_room.ensures.room

pub returns-clause-slot : goal.returns-clause-slot
returns-clause-slot c =
    subst (λ (l : ByteRows). IsSlotOf c.args.format l c.in_ok-slot.slot.items) (as_each c.args.writing (rows_in c.args.rows.now.entries))
    (record {
      rises = rises_as c.args.writing _ c.requires.rises;
      puttable = puttable_as c.args.writing _ c.requires.puttable;
      small = small_enough _ _ _ c.in_ok-find_room.ensures.room.0 c.requires.bound;
      written = c.in_ok-slot.ensures;
    })
