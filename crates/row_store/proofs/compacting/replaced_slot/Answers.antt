use Rattle.std.proofs.Common.{ℕ, ◌≤◌, ◌<◌, List, [], ◌∷◌, sym, ap, ◌∙◌, subst}
use Rattle.std.proofs.lemmas.Result.{err_from_is_err_and}
use Rattle.ctrl_model.specs.declared.formats.Format.TheVariants.{Two}
use Rattle.journal_core.specs.Slots.{slot_bytes}
use Rattle.row_store.specs.RewrittenStores.{RoomFails}
use Rattle.row_store.proofs.CompactLaws.{small_enough}
use Rattle.row_store.proofs.ReplacedLaws.{replaced_slot, replaced_size}
use Rattle.row_store.proofs.compacting.replaced_slot.Goals as goal

pub returns-in_err-find_room_alone-clause-fault : goal.returns-in_err-find_room_alone-clause-fault
returns-in_err-find_room_alone-clause-fault c =
    let p = err_from_is_err_and c.from_residual.result c.from_residual.ensures.1 in
    rw (p.1, p.2) (subst (λ (n : ℕ). RoomFails n c.args.mark c.args.bounds.slot c.args.bounds.mark c.in_err-find_room_alone.field-0.0)
    (sym (replaced_size c.args.batch.now c.requires.changes)) c.in_err-find_room_alone.ensures.fault)

pub returns-in_err-payload-clause-fault : goal.returns-in_err-payload-clause-fault
returns-in_err-payload-clause-fault c =
    let p = err_from_is_err_and c.from_residual-in_err-payload.result c.from_residual-in_err-payload.ensures.1 in
    rw (p.1, p.2) (subst (λ (n : ℕ). (n ≤ c.args.bounds.slot) × (c.args.mark < c.args.bounds.mark)) (sym (replaced_size c.args.batch.now c.requires.changes))
    c.in_ok-find_room_alone.ensures.room)

pub returns-in_err-slot-clause-fault : goal.returns-in_err-slot-clause-fault
returns-in_err-slot-clause-fault c =
    let p = err_from_is_err_and c.from_residual-in_err-slot.result c.from_residual-in_err-slot.ensures.1 in
    rw (p.1, p.2) (subst (λ (n : ℕ). (n ≤ c.args.bounds.slot) × (c.args.mark < c.args.bounds.mark)) (sym (replaced_size c.args.batch.now c.requires.changes))
    c.in_ok-find_room_alone.ensures.room)

pub returns-clause-room : goal.returns-clause-room
returns-clause-room c =
    subst (λ (n : ℕ). (n ≤ c.args.bounds.slot) × (c.args.mark < c.args.bounds.mark)) (sym (replaced_size c.args.batch.now c.requires.changes)) c.in_ok-find_room_alone.ensures.room

pub returns-clause-slot : goal.returns-clause-slot
returns-clause-slot c =
    replaced_slot c.args.batch.now c.in_ok-slot.slot.items c.requires.batch c.requires.changes (small_enough _ _ _ c.in_ok-find_room_alone.ensures.room.0 c.requires.bound)
    (c.in_ok-slot.ensures ∙ ap (λ (l : List ℕ). slot_bytes Two (l ∷ [])) (c.as_slice.ensures ∙ c.in_ok-payload.ensures))
