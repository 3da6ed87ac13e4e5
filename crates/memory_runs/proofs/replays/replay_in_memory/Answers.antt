use Rattle.std.proofs.Common.{sym, ap, ◌∙◌, subst}
use Rattle.std.proofs.lemmas.Result.{IfOk-weaker}
use Rattle.ziti_outside.specs.Images.{Image}
use Rattle.ziti_desk.specs.MemEvents.{image_of}
use Rattle.row_store.specs.OpenedStates.{IsStateless}
use Rattle.ctrl_serve.specs.MigratedRuns.{HasRoomToOpen, LacksRoom}
use Rattle.memory_runs.specs.WholeReplays.{bounds}
use Rattle.run_notes.specs.Endings.{is_cut}
use Rattle.ctrl_serve.specs.OpenedFolders.{OpensTo}
use Rattle.memory_runs.specs.Replays.{seen_of}
use Rattle.memory_runs.proofs.SeenReplays.{both, full_so, whole_so, refused_so, decided_so}
use Rattle.memory_runs.proofs.replays.replay_in_memory.Goals as goal

pub returns-clause-whole : goal.returns-clause-whole
returns-clause-whole c machine opens roomy =
    let at = c.in_ok-desk.ensures.reads in
    let kept = c.in_ok-status.ensures in
    let whole = c.in_ok-replay_on.ensures.whole machine (subst (λ (i : Image). OpensTo i machine) (sym at) opens) (subst (λ (i : Image). HasRoomToOpen bounds i) (sym at) roomy) (ap is_cut (sym kept.same) ∙ kept.on) in
    both c.taken_from.result _ _ _
    (λ r same seen. whole_so c.args.form machine c.args.input.now (image_of c.args.folder) _ _ (seen_of r) c.in_ok-replay_on.field-0 r.status at whole seen (same ∙ kept.same))
    c.taken_from.ensures.status c.taken_from.ensures.seen

pub returns-clause-refused : goal.returns-clause-refused
returns-clause-refused c part place none =
    let at = c.in_ok-desk.ensures.reads in
    let kept = c.in_ok-status.ensures in
    let refused = c.in_ok-replay_on.ensures.refused part place (subst (λ (i : Image). IsStateless i part place) (sym at) none) (ap is_cut (sym kept.same) ∙ kept.on) in
    both c.taken_from.result _ _ _
    (λ r same seen. refused_so part place (image_of c.args.folder) _ _ (seen_of r) c.in_ok-replay_on.field-0 r.status at refused seen (same ∙ kept.same))
    c.taken_from.ensures.status c.taken_from.ensures.seen

pub returns-clause-full : goal.returns-clause-full
returns-clause-full c part lacks =
    let at = c.in_ok-desk.ensures.reads in
    let kept = c.in_ok-status.ensures in
    let full = c.in_ok-replay_on.ensures.full part (subst (λ (i : Image). LacksRoom part bounds i) (sym at) lacks) (ap is_cut (sym kept.same) ∙ kept.on) in
    both c.taken_from.result _ _ _
    (λ r same seen. full_so part (image_of c.args.folder) _ _ (seen_of r) c.in_ok-replay_on.field-0 r.status at full seen (same ∙ kept.same))
    c.taken_from.ensures.status c.taken_from.ensures.seen

pub returns-clause-decided : goal.returns-clause-decided
returns-clause-decided c =
    let kept = c.in_ok-status.ensures in
    let decided = decided_so (image_of c.args.folder) _ c.in_ok-desk.ensures.reads (c.in_ok-replay_on.ensures.decided (ap is_cut (sym kept.same) ∙ kept.on)) in
    IfOk-weaker c.taken_from.result _ _ (λ r same. decided) c.taken_from.ensures.status
