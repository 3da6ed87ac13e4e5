use Rattle.std.proofs.Common.{◌≡◌, ℕ, List, Result, IfOk, ◌∙◌, subst}
use Rattle.std.specs.declared.alloc.AllocError.{AllocError}
use Rattle.zitilook.specs.Comparisons.{SaysChanges}
use Rattle.zitilook.specs.declared.status.Status.TheVariants.{WriteFault, DiskFault, NoMemory}
use Rattle.zitilook.proofs.ComparingLaws.{lines_unmade}
use Rattle.zitilook.proofs.FolderLaws.{noted_ends}
use Rattle.zitilook.proofs.comparing.say_changes.Goals as goal

pub returns-in-Ok-clause-says : goal.returns-in-Ok-clause-says
returns-in-Ok-clause-says g c = λ wanted is.
    let same : c.in-Ok.lines ≡ wanted = subst (λ (r : Result (List ℕ) AllocError). IfOk r (λ t. t ≡ wanted)) c.in-Ok.is is in
    subst (λ (t : List ℕ). SaysChanges t (g.D.Desk.seen c.args.desk.now) (g.D.Desk.seen c.say_lines.new.desk) c.say_lines.result) (c.as_slice.ensures ∙ same) c.say_lines.ensures.says

pub returns-in-Err-clause-says : goal.returns-in-Err-clause-says
returns-in-Err-clause-says g c = λ wanted is.
    let e = c.end_with.ensures in
    lines_unmade wanted c.end_with.result (g.D.Desk.seen c.args.desk.now) (g.D.Desk.seen c.end_with.new.desk) e.status e.others.replies e.noted

pub returns-in-Err-clause-ends : goal.returns-in-Err-clause-ends
returns-in-Err-clause-ends g c =
    let e = c.end_with.ensures in
    let is : c.end_with.result ≡ NoMemory = e.status in
    noted_ends g.D.Desk.seen g.D.Desk.stopped c.args.desk.now c.end_with.new.desk c.end_with.result
    (λ (w : c.end_with.result ≡ WriteFault). absurd cc) (λ (d : c.end_with.result ≡ DiskFault). absurd cc) e.others e.stops
