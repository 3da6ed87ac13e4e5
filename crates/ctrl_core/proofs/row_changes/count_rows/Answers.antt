use Rattle.std.proofs.Common.{refl}
use Rattle.std.proofs.lemmas.Result.{IfOk-weaker}
use Rattle.ctrl_core.specs.ChangedStores.{next_state}
use Rattle.core_stores.specs.StoredState.{state_of}
use Rattle.ctrl_core.proofs.CountRows.{room_each, moves_each, counts_each, same_steps, same_counts}
use Rattle.ctrl_core.proofs.StepLaws.{steps_fit}
use Rattle.ctrl_core.proofs.row_changes.count_rows.Goals as goal

pub all_count_changes-requires : goal.all_count_changes-requires
all_count_changes-requires c =
    let st = c.args.stores.now in
    let steps = c.args.steps.now in
    room_each _ st steps (same_steps _ steps c.as_slice.ensures.value c.as_slice-2.ensures.value c.as_slice-3.ensures.value c.as_slice-4.ensures.value) (same_counts _ st refl refl refl refl)
    (steps_fit st (next_state st c.args.change.now) steps c.requires.kept c.requires.can.valid c.requires.counts)

pub returns : goal.returns
returns c =
    let st = c.args.stores.now in
    let steps = c.args.steps.now in
    IfOk-weaker c.all_count_changes.result _ _ (λ changes covers.
    covers (state_of st) (next_state st c.args.change.now) (counts_each _ st refl refl refl refl c.requires.kept)
    (moves_each _ steps c.as_slice.ensures.value c.as_slice-2.ensures.value c.as_slice-3.ensures.value c.as_slice-4.ensures.value (state_of st) (next_state st c.args.change.now) c.requires.counts)) c.all_count_changes.ensures.covers
