use Rattle.std.proofs.Common.{◌≡◌, List, sym, subst}
use Rattle.row_codec.specs.declared.rows.Row.{Row}
use Rattle.change_lines.specs.ChangeLines.{change_lines}
use Rattle.change_lines.specs.RowChanges.{AreRowsOf}
use Rattle.zitilook.specs.declared.status.Status.TheVariants.{WriteFault, DiskFault, NoMemory}
use Rattle.zitilook.proofs.ComparingLaws.{lines_unmade}
use Rattle.zitilook.proofs.FolderLaws.{noted_ends}
use Rattle.zitilook.proofs.comparing.say_between.Goals as goal

pub changes-requires-clause-right : goal.changes-requires-clause-right
changes-requires-clause-right g c =
    let are = rw c.in-Ok.is at c.requires.right in
    (are.0, are.1, subst (λ (xs : List Row). AreRowsOf are.0 are.1 xs) (sym c.as_slice.ensures.value) are.2)

pub returns-in-Ok-clause-says : goal.returns-in-Ok-clause-says
returns-in-Ok-clause-says g c = λ e f s t left right.
    let are = rw c.in-Ok.is at right in
    c.say_changes.ensures.says (change_lines s t) (c.changes.ensures e f s t left (subst (λ (xs : List Row). AreRowsOf f t xs) (sym c.as_slice.ensures.value) are))

pub returns-in-Err-clause-says : goal.returns-in-Err-clause-says
returns-in-Err-clause-says g c = λ e f s t left right.
    let n = c.end_with.ensures in
    lines_unmade (change_lines s t) c.end_with.result (g.D.Desk.seen c.args.desk.now) (g.D.Desk.seen c.end_with.new.desk) n.status n.others.replies n.noted

pub returns-in-Err-clause-ends : goal.returns-in-Err-clause-ends
returns-in-Err-clause-ends g c =
    let e = c.end_with.ensures in
    let is : c.end_with.result ≡ NoMemory = e.status in
    noted_ends g.D.Desk.seen g.D.Desk.stopped c.args.desk.now c.end_with.new.desk c.end_with.result
    (λ (w : c.end_with.result ≡ WriteFault). absurd cc) (λ (d : c.end_with.result ≡ DiskFault). absurd cc) e.others e.stops
