use Rattle.std.proofs.Common.{sym, ap, ◌∙◌, subst, arith}
use Rattle.std.proofs.lemmas.Result.{IfOk-weaker}
use Rattle.ziti_outside.specs.Images.{Image}
use Rattle.ziti_desk.specs.MemEvents.{image_of}
use Rattle.run_notes.specs.Endings.{is_cut}
use Rattle.ctrl_serve.specs.OpenedFolders.{OpensTo}
use Rattle.memory_runs.proofs.replays.stop_in_memory.Goals as goal

pub returns-clause-finds : goal.returns-clause-finds
returns-clause-finds c machine opens =
    let kept = c.in_ok-_whole.ensures in
    let safe = c.in_ok-replay_on.ensures.safe machine (subst (λ (i : Image). OpensTo i machine) (sym c.in_ok-desk.ensures.reads) opens) (ap is_cut (sym kept.same) ∙ kept.on) in
    IfOk-weaker c.stopped.result _ _ (λ stop since. safe.finds (image_of stop.0) stop.1.items (since 0 (omega arith))) c.stopped.ensures.since

pub returns-clause-holds : goal.returns-clause-holds
returns-clause-holds c machine count opens few =
    let kept = c.in_ok-_whole.ensures in
    let safe = c.in_ok-replay_on.ensures.safe machine (subst (λ (i : Image). OpensTo i machine) (sym c.in_ok-desk.ensures.reads) opens) (ap is_cut (sym kept.same) ∙ kept.on) in
    IfOk-weaker c.stopped.result _ _ (λ stop since. safe.holds (image_of stop.0) stop.1.items count (since 0 (omega arith)) few) c.stopped.ensures.since
