use Rattle.std.proofs.Common.{◌⊎◌, ℕ, List, inl, inr, ◌∙◌, subst}
use Rattle.run_notes.specs.NotedLines.{NotesLines}
use Rattle.zitilook.specs.Looks.{FindsNone}
use Rattle.zitilook.specs.Notes.{notes_of}
use Rattle.zitilook.specs.Plans.{PlansOpened}
use Rattle.zitilook.specs.declared.status.Status.{Status}
use Rattle.zitilook.proofs.PlanningLaws.{cut_calm, cut_ends, cut_rose, cut_short}
use Rattle.zitilook.proofs.planning.run_plan.Goals as goal

pub returns-in-Ok : goal.returns-in-Ok
returns-in-Ok g c =
    let tells = g.D.Desk.tells in
    let seen = g.D.Desk.seen in
    let p = c.plan_input in
    record {
      input = c.in-Ok.input.items;
      gave = c.in-Ok.ensures.taken.gave;
      finds = inr (
        c.in-Ok.ensures.taken.end,
        subst (λ (bytes : List ℕ). FindsNone tells (seen c.args.desk.now) (seen p.new.desk) p.result ⊎ PlansOpened tells bytes (seen c.args.desk.now) (seen p.new.desk) p.result)
            c.as_slice.ensures.value p.ensures.finds,
      );
      read_fault = λ e. absurd (p.ensures.read e);
      no_read_fault = λ _. c.in-Ok.ensures.faults;
      causes = p.ensures.ends.causes;
      folder = p.ensures.ends.folder;
    }

pub returns-in-Err : goal.returns-in-Err
returns-in-Err g c =
    let seen = g.D.Desk.seen in
    let e = c.end_with.ensures in
    let cut = c.in-Err.cut in
    let is = e.status ∙ c.status.ensures in
    let noted = subst (λ (s : Status). NotesLines (notes_of s) (seen c.args.desk.now) (seen c.end_with.new.desk)) c.status.ensures e.noted in
    let before = g.S.Source.faults c.args.source.now in
    let now = g.S.Source.faults c.take_all.new.source in
    let ends = cut_ends cut seen g.D.Desk.stopped c.args.desk.now c.end_with.new.desk c.end_with.result is e.others e.stops in
    record {
      input = c.in-Err.ensures.cut.bytes;
      gave = c.in-Err.ensures.cut.gave;
      finds = inl (cut_short cut c.end_with.result (seen c.args.desk.now) (seen c.end_with.new.desk) is e.others.replies noted);
      read_fault = cut_rose cut before now c.end_with.result is c.in-Err.ensures.faults;
      no_read_fault = cut_calm cut before now c.end_with.result is c.in-Err.ensures.faults;
      causes = ends.causes;
      folder = ends.folder;
    }
