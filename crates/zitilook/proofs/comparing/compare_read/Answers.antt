use Rattle.std.proofs.Common.{◌≡◌, List, inl, sym, subst}
use Rattle.row_codec.specs.declared.rows.Row.{Row}
use Rattle.change_lines.specs.RowChanges.{AreRowsOf}
use Rattle.zitilook.specs.declared.status.Status.TheVariants.{WriteFault, DiskFault, NoMemory}
use Rattle.zitilook.proofs.ComparingLaws.{alone_beside, other_unread}
use Rattle.zitilook.proofs.FolderLaws.{noted_ends}
use Rattle.zitilook.proofs.comparing.compare_read.Goals as goal

pub compare_from-requires : goal.compare_from-requires
compare_from-requires g c =
    let are = rw c.in-Ok.is at c.requires in
    (are.0, are.1, subst (λ (xs : List Row). AreRowsOf are.0 are.1 xs) (sym c.as_slice.ensures.value) are.2)

pub returns-in-Ok-clause-says : goal.returns-in-Ok-clause-says
returns-in-Ok-clause-says g c = λ f s left.
    let are = rw c.in-Ok.is at left in
    c.compare_from.ensures.says f s (subst (λ (xs : List Row). AreRowsOf f s xs) (sym c.as_slice.ensures.value) are)

pub returns-in-Err-clause-says : goal.returns-in-Err-clause-says
returns-in-Err-clause-says g c = λ f s left.
    let e = c.end_with.ensures in
    inl (other_unread g.E.Desk.tells c.end_with.result (g.E.Desk.seen c.args.other.now) (g.D.Desk.seen c.args.desk.now) (g.D.Desk.seen c.end_with.new.desk) e.status e.others.replies e.noted)

pub returns-in-Err-clause-ends : goal.returns-in-Err-clause-ends
returns-in-Err-clause-ends g c =
    let e = c.end_with.ensures in
    let is : c.end_with.result ≡ NoMemory = e.status in
    alone_beside g.D.Desk.seen g.D.Desk.stopped g.E.Desk.seen g.E.Desk.stopped c.args.other.now c.args.desk.now c.end_with.new.desk c.end_with.result
    (noted_ends g.D.Desk.seen g.D.Desk.stopped c.args.desk.now c.end_with.new.desk c.end_with.result
    (λ (w : c.end_with.result ≡ WriteFault). absurd cc) (λ (d : c.end_with.result ≡ DiskFault). absurd cc) e.others e.stops)
