use Rattle.std.proofs.Common.{◌≡◌, sym, ◌∙◌}
use Rattle.frame_lines.specs.TextReading.{fault_said}
use Rattle.zitilook.specs.Notes.{line_note}
use Rattle.zitilook.specs.declared.status.Status.TheVariants.{ReadFault, WriteFault, DiskFault, NoMemory}
use Rattle.zitilook.proofs.FolderLaws.{noted_ends}
use Rattle.zitilook.proofs.PlanningLaws.{refused_read, told_fault, told_plan, unplanned}
use Rattle.zitilook.proofs.planning.tell_planned.Goals as goal

pub returns-in-Ok-Ok-clause-says : goal.returns-in-Ok-Ok-clause-says
returns-in-Ok-Ok-clause-says g c = λ s input is.
    let whole = rw c.in-Ok-Ok.is at is in
    let are = rw c.in-Ok-Ok.field-0-is at whole in
    told_plan (fault_said input) s input (g.D.Desk.seen c.args.desk.now) (g.D.Desk.seen c.say_plan.new.desk) c.say_plan.result are.0 (c.say_plan.ensures.says s input are.1)

pub returns-in-Ok-Err-clause-says : goal.returns-in-Ok-Err-clause-says
returns-in-Ok-Err-clause-says g c = λ s input is.
    let fault = c.in-Ok-Err.fault in
    let whole = rw c.in-Ok-Err.is at is in
    let are = rw c.in-Ok-Err.field-0-is at whole in
    told_fault (fault_said input) fault s input (g.D.Desk.seen c.args.desk.now) (g.D.Desk.seen c.tell_refused.new.desk) c.tell_refused.result are
    (c.tell_refused.ensures.told (line_note fault) c.line_note.ensures)

pub returns-in-Ok-Err-clause-read : goal.returns-in-Ok-Err-clause-read
returns-in-Ok-Err-clause-read g c =
    let note = line_note c.in-Ok-Err.fault in
    refused_read note c.tell_refused.result (g.D.Desk.seen c.args.desk.now) (g.D.Desk.seen c.tell_refused.new.desk) (c.tell_refused.ensures.told note c.line_note.ensures)

pub returns-in-Err-clause-says : goal.returns-in-Err-clause-says
returns-in-Err-clause-says g c = λ s input is.
    let e = c.end_with.ensures in
    unplanned (fault_said input) s input c.end_with.result (g.D.Desk.seen c.args.desk.now) (g.D.Desk.seen c.end_with.new.desk) e.status e.others.replies e.noted

pub returns-in-Err-clause-ends : goal.returns-in-Err-clause-ends
returns-in-Err-clause-ends g c =
    let e = c.end_with.ensures in
    let is : c.end_with.result ≡ NoMemory = e.status in
    noted_ends g.D.Desk.seen g.D.Desk.stopped c.args.desk.now c.end_with.new.desk c.end_with.result
    (λ (w : c.end_with.result ≡ WriteFault). absurd cc) (λ (d : c.end_with.result ≡ DiskFault). absurd cc) e.others e.stops

pub returns-in-Err-clause-read : goal.returns-in-Err-clause-read
returns-in-Err-clause-read g c = λ r. let no : NoMemory ≡ ReadFault = sym c.end_with.ensures.status ∙ r in absurd cc
