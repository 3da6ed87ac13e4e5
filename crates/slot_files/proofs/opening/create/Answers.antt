use Rattle.ziti_outside.proofs.MomentLaws.{Leaves-weaker, Leaves-then}
use Rattle.slot_files.proofs.StandLaws.{images_slot, images_mark, created_slot}
use Rattle.slot_files.proofs.opening.create.Goals as goal

pub returns-in_err-put_down-clause-stops : goal.returns-in_err-put_down-clause-stops
returns-in_err-put_down-clause-stops g c = λ told.
    Leaves-weaker _ c.put_down.ensures.stops (images_slot c.args.format (c.requires.empty told) c.requires.stable)

pub returns-in_err-put_down-2-clause-stops : goal.returns-in_err-put_down-2-clause-stops
returns-in_err-put_down-2-clause-stops g c = λ told.
    let empty = c.requires.empty told in
    let slot = created_slot c.args.format _ _ _ c.empty_slot.ensures (c.in_ok-put_down.ensures.written told) in
    Leaves-then _ c.put_down.ensures.stops c.put_down-2.ensures.stops (images_slot c.args.format empty c.requires.stable)
    (images_mark c.args.format empty c.requires.stable slot c.in_ok-put_down.ensures.stable c.put_down.ensures.stops.found)

pub returns-clause-stops : goal.returns-clause-stops
returns-clause-stops g c = λ told.
    let empty = c.requires.empty told in
    let slot = created_slot c.args.format _ _ _ c.empty_slot.ensures (c.in_ok-put_down.ensures.written told) in
    Leaves-then _ c.put_down.ensures.stops c.put_down-2.ensures.stops (images_slot c.args.format empty c.requires.stable)
    (images_mark c.args.format empty c.requires.stable slot c.in_ok-put_down.ensures.stable c.put_down.ensures.stops.found)
