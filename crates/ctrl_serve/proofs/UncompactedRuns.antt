-- A run whose frames ask for no Compact carries none out, and so leaves the other slot and the mark.
use Rattle.std.specs.Prelude.{IsTrue}
use Rattle.std.proofs.Common.{◌≡◌, ◌⊎◌, inl, inr, ℕ, Bool, true, false, ◌&&◌, cond, List, [], ◌∷◌, take, None, Some, Ok, Err, refl, ap, ◌∙◌}
use Rattle.std.specs.declared.option.Option.{Option}
use Rattle.std.specs.declared.result.Result.{Result}
use Rattle.ziti_outside.specs.Views.{Outside}
use Rattle.channel_frame.specs.declared.frames.Frame.{Frame}
use Rattle.command_codec.specs.declared.reading.CodecFault.{CodecFault}
use Rattle.command_codec.specs.BodyMeaning.{meaning}
use Rattle.ctrl_model.specs.declared.commands.Command.{Command}
use Rattle.ctrl_model.specs.declared.kinds.Who.{Who}
use Rattle.ctrl_model.specs.declared.refusals.Refusal.TheVariants.{JournalFull}
use Rattle.ctrl_model.specs.declared.replies.Reply.{Reply}
use Rattle.ctrl_model.specs.declared.replies.Reply.TheVariants.{Refused}
use Rattle.ctrl_model.specs.Controller.{answer, counted}
use Rattle.ctrl_model.specs.Permitted.{is_permitted}
use Rattle.ctrl_model.specs.State.{State}
use Rattle.row_codec.specs.declared.changes.Op.{Op}
use Rattle.row_codec.specs.Batches.{batch_between}
use Rattle.row_store.specs.declared.bounds.StoreBounds.{StoreBounds}
use Rattle.ctrl_keep.specs.KeptMachine.{Place, Machine, answered, behind, has_no_room, is_compact, kept}
use Rattle.ctrl_keep.specs.KeptBatches.{mark_at}
use Rattle.ctrl_keep.specs.MigratedFolders.{OpensInFirst}
use Rattle.session_mux.specs.Completion.{completed}
use Rattle.session_mux.specs.declared.sessions.Form.{Form}
use Rattle.run_notes.specs.declared.status.Status.{Status}
use Rattle.run_notes.specs.declared.status.Status.TheVariants.{Done}
use Rattle.run_notes.specs.Endings.{is_kept}
use Rattle.ctrl_serve.specs.declared.bounds.Bounds.{Bounds}
use Rattle.ctrl_serve.specs.declared.command_line.Form.TheVariants.{Replay}
use Rattle.ctrl_serve.specs.FrameAnswer.{answer_to, controller, frame_answer, last_machine, machine_behind}
use Rattle.ctrl_serve.specs.Headline.{folder_bounds, taking_of, Refuses, Replays, Runs, Taking}
use Rattle.ctrl_serve.specs.UncompactedFolders.{ask_for_compact, spells_compact, CompactsNothing, LeavesOtherSlot}
use Rattle.serve_loop.proofs.EndingLaws.{done_used}
use Rattle.serve_loop.proofs.PieceLaws.{or_left, or_right}
use Rattle.ctrl_core.specs.KeptFormat.{kept_format}

-- ---- a machine

kept_mark : (most : ℕ) (reply : Reply) (s next : State) (batch : List Op) (place : Place) → mark_at (kept most reply s batch next place).1.place ≡ place.mark
kept_mark most reply s next [] place = refl
kept_mark most reply s next (op ∷ ops) place = by (has_no_room most s (op ∷ ops) place)
  where
    by : (full : Bool) → mark_at (cond {A = Reply × Machine} full (Refused JournalFull, record { state = s; place = Some place }) (reply, record { state = next; place = Some (behind (op ∷ ops) place) })).1.place ≡ place.mark
    by true = refl
    by false = refl

-- Only a Compact that its sender may send makes the mark longer.
answered_mark : (bounds : StoreBounds) (compacts : Bool) (a : Reply × State) (s : State) (place : Option Place) → compacts ≡ false → mark_at (answered bounds compacts a s place).1.place ≡ mark_at place
answered_mark bounds true a s place quiet = absurd (let e : true ≡ false = quiet in cc)
answered_mark bounds false a s None quiet = refl
answered_mark bounds false a s (Some place) quiet = kept_mark bounds.slot a.0 s (counted s a.1) (batch_between kept_format s (counted s a.1)) place

not_both : (p q : Bool) → p ≡ false → (p && q) ≡ false
not_both true q quiet = absurd (let e : true ≡ false = quiet in cc)
not_both false q quiet = refl

answer_mark : (bounds : StoreBounds) (who : Who) (m : Machine) (spelled : Result Command CodecFault) → spells_compact spelled ≡ false → CompactsNothing m (answer_to bounds who m spelled).1
answer_mark bounds who m (Ok c) quiet =
    answered_mark bounds (is_compact c && is_permitted who c) (answer who c m.state) m.state m.place (not_both (is_compact c) (is_permitted who c) quiet)
answer_mark bounds who m (Err e) quiet = refl

behind_mark : (bounds : StoreBounds) (m : Machine) (frames : List (ℕ × (Who × Frame))) → ask_for_compact frames ≡ false → CompactsNothing m (machine_behind bounds m frames)
behind_mark bounds m [] none = refl
behind_mark bounds m (x ∷ xs) none =
    let compacts : Bool = spells_compact (meaning x.1.1.content x.1.1.body) in
    behind_mark bounds (frame_answer bounds x.1.0 x.1.1 m).1 xs (or_right compacts (ask_for_compact xs) none)
    ∙ answer_mark bounds x.1.0 m (meaning x.1.1.content x.1.1.body) (or_left compacts (ask_for_compact xs) none)

pub last_mark : (form : Form) (bounds : StoreBounds) (m : Machine) (used : List ℕ) → ask_for_compact (completed form used) ≡ false → CompactsNothing m (last_machine form bounds m used)
last_mark form bounds m used none = behind_mark bounds m (completed form used) none

-- ---- a run

pub replay_leaves : {S D : Type 0} (o : Outside S D) (taking : Taking) (bounds : StoreBounds) (source source_now : S) (desk desk_now : D) (status : Status)
    → (r : Replays taking bounds o source source_now desk desk_now status) → is_kept status ≡ true → IsTrue o.tells → ((s : State) → OpensInFirst (o.seen desk).reads s → ⊥)
    → ask_for_compact (completed taking.form (take taking.most r.serves.taken)) ≡ false → LeavesOtherSlot (o.seen desk).reads (o.seen desk_now).reads
replay_leaves o taking bounds source source_now desk desk_now status r all told other none =
    r.elsewhere all told (λ migrated. other r.machine.state migrated.first) (last_mark taking.form bounds r.machine (take taking.most r.serves.taken) none)

-- Where it is done, all that the source had was used.
done_leaves_by : {S D : Type 0} (o : Outside S D) (form : Form) (bounds : StoreBounds) (most : ℕ) (source source_now : S) (desk desk_now : D) (bytes : List ℕ)
    → Refuses bounds o.tells o.seen o.stopped source source_now desk desk_now Done ⊎ Replays (taking_of form most) bounds o source source_now desk desk_now Done
    → o.left source ≡ Some bytes → IsTrue o.tells → ((s : State) → OpensInFirst (o.seen desk).reads s → ⊥) → ask_for_compact (completed form bytes) ≡ false → LeavesOtherSlot (o.seen desk).reads (o.seen desk_now).reads
done_leaves_by o form bounds most source source_now desk desk_now bytes (inl closed) left told other none = absurd closed.unopened.why
done_leaves_by o form bounds most source source_now desk desk_now bytes (inr r) left told other none =
    let used : take most r.serves.taken ≡ bytes = done_used (taking_of form most) (controller bounds) r.machine bytes (o.left source) (o.left source_now) (o.seen desk) (o.seen desk_now) left r.serves in
    r.elsewhere refl told (λ migrated. other r.machine.state migrated.first) (ap (λ (u : List ℕ). mark_at (last_machine form bounds r.machine u).place) used ∙ last_mark form bounds r.machine bytes none)

pub done_leaves : {S D : Type 0} (o : Outside S D) (bounds : Bounds) (words : List (List ℕ)) (form : Form) (source source_now : S) (desk desk_now : D) (bytes : List ℕ)
    → Runs o bounds words (Some (Replay form)) source source_now desk desk_now Done → o.left source ≡ Some bytes → IsTrue o.tells → ((s : State) → OpensInFirst (o.seen desk).reads s → ⊥) → ask_for_compact (completed form bytes) ≡ false
    → LeavesOtherSlot (o.seen desk).reads (o.seen desk_now).reads
done_leaves o bounds words form source source_now desk desk_now bytes runs left told other none =
    done_leaves_by o form (folder_bounds bounds) bounds.input source source_now desk desk_now bytes (runs.replay form refl) left told other none
