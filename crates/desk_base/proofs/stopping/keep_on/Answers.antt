use Rattle.std.proofs.Common.{◌-◌, length, take, ap, arith, ◌∙◌}
use Rattle.desk_base.specs.MemEvents.{image_of}
use Rattle.desk_base.proofs.StopLaws.{ok_then, write_kept, cut_kept}
use Rattle.desk_base.proofs.KeptLaws.{write_chosen, cut_chosen, sync_chosen}
use Rattle.desk_base.proofs.stopping.keep_on.Goals as goal

pub returns-in_ok-text-in-Wrote-clause-kept : goal.returns-in_ok-text-in-Wrote-clause-kept
returns-in_ok-text-in-Wrote-clause-kept c =
    rw c.in-Wrote.is (ok_then c.put.result c.put.ensures (λ e.
    write_kept c.in-Wrote.part c.in-Wrote.at c.as_slice.result.now (take c.in-Wrote.count c.args.written.now) (image_of c.args.image.now) (image_of c.put.new.self)
    (omega (arith, c.in_ok-text-in-Wrote.ensures.few, ap length c.as_slice.ensures.value, ap length c.parted.ensures.first)) e))

pub returns-in-Cut-clause-kept : goal.returns-in-Cut-clause-kept
returns-in-Cut-clause-kept c =
    rw c.in-Cut.is (cut_kept c.in-Cut.part c.in-Cut.len (c.len-long.result - c.count-gone.result) (image_of c.args.image.now) (image_of c.cut.new.self)
    (omega (arith, c.len-long.ensures, c.part.result.now.ok.0, ap length c.part.ensures, c.saturating_sub.ensures, c.count-gone.ensures.within)) c.cut.ensures)

pub returns-in_ok-text-in-Wrote-clause-chosen : goal.returns-in_ok-text-in-Wrote-clause-chosen
returns-in_ok-text-in-Wrote-clause-chosen c =
    rw c.in-Wrote.is (ok_then c.put.result c.put.ensures (λ e.
    write_chosen c.args.keeping.now c.in-Wrote.part c.in-Wrote.at c.as_slice.result.now (take c.in-Wrote.count c.args.written.now) c.in-Wrote.done (image_of c.args.reads.now) c.args.image.now (image_of c.put.new.self)
    (λ is. c.as_slice.ensures.value ∙ c.in_ok-text-in-Wrote.ensures.nothing is) (λ is. c.as_slice.ensures.value ∙ c.in_ok-text-in-Wrote.ensures.all is ∙ c.parted.ensures.first) e))

pub returns-in-Cut-clause-chosen : goal.returns-in-Cut-clause-chosen
returns-in-Cut-clause-chosen c =
    rw c.in-Cut.is (cut_chosen c.args.keeping.now c.in-Cut.part c.in-Cut.len c.len-long.result c.count-gone.result c.in-Cut.done (image_of c.args.reads.now) c.args.image.now (image_of c.cut.new.self)
    (omega (arith, c.len-long.ensures, c.part.result.now.ok.0, ap length c.part.ensures)) c.count-gone.ensures.nothing (λ is. c.count-gone.ensures.all is ∙ c.saturating_sub.ensures) c.cut.ensures)

pub returns-in-Synced-clause-chosen : goal.returns-in-Synced-clause-chosen
returns-in-Synced-clause-chosen c =
    rw c.in-Synced.is (ok_then c.set.result c.set.ensures (λ e.
    sync_chosen c.args.keeping.now c.in-Synced.part c.as_slice-in-Synced.result.now (image_of c.args.reads.now) (image_of c.args.image.now) (image_of c.set.new.self)
    (c.as_slice-in-Synced.ensures.value ∙ c.part-in-Synced.ensures) e))
