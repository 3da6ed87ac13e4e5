use Rattle.ziti_outside.proofs.MomentLaws.{Leaves-weaker, Leaves-then}
use Rattle.row_store.proofs.MoveLaws.{images_written, written_ready, images_moved, moved_slots, on_three}
use Rattle.row_store.proofs.moving.move_to.Goals as goal

pub returns-in_err-put_down-clause-stops : goal.returns-in_err-put_down-clause-stops
returns-in_err-put_down-clause-stops g c = λ told.
    let other = c.other_of.ensures c.args.standing.mark c.requires.named.some c.requires.named.part in
    Leaves-weaker _ c.put_down.ensures.stops (images_written c.args.standing c.other_of.result c.args.slot.now _ _ c.requires.named (c.requires.opened told) other)

pub stand_alone-requires-clause-ready : goal.stand_alone-requires-clause-ready
stand_alone-requires-clause-ready g c = λ told.
    let other = c.other_of.ensures c.args.standing.mark c.requires.named.some c.requires.named.part in
    written_ready c.args.standing c.other_of.result c.args.format c.args.slot.now _ _ _ _ c.requires.named (c.requires.opened told) c.requires.whole other (c.in_ok-put_down.ensures.written told)
    c.put_down.ensures.elsewhere c.in_ok-put_down.ensures.stable c.put_down.ensures.stops.found

pub returns-clause-moved : goal.returns-clause-moved
returns-clause-moved g c =
    let other = c.other_of.ensures c.args.standing.mark c.requires.named.some c.requires.named.part in
    on_three c.stand_alone.result c.stand_alone.ensures.mark c.stand_alone.ensures.other c.stand_alone.ensures.cut
    (λ mark kept cut told. moved_slots c.args.standing c.other_of.result c.args.slot.now _ _ _ other (c.in_ok-put_down.ensures.written told) c.put_down.ensures.elsewhere
    (mark told) kept (cut told))

pub returns-clause-stops : goal.returns-clause-stops
returns-clause-stops g c = λ told.
    let other = c.other_of.ensures c.args.standing.mark c.requires.named.some c.requires.named.part in
    Leaves-then _ c.put_down.ensures.stops (c.stand_alone.ensures.alone.stops told)
    (images_written c.args.standing c.other_of.result c.args.slot.now _ _ c.requires.named (c.requires.opened told) other)
    (images_moved c.args.standing c.other_of.result c.args.slot.now _ _ _ _ c.requires.named (c.requires.opened told) other (c.in_ok-put_down.ensures.written told)
    c.put_down.ensures.stops.found)
