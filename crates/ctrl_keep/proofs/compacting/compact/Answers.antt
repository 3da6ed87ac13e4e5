use Rattle.std.proofs.Common.{sym, ◌∙◌}
use Rattle.std.specs.Prelude.{IsTrue}
use Rattle.ziti_outside.proofs.MomentLaws.{Leaves-weaker}
use Rattle.row_store.specs.RewrittenStores.{IsRewritten}
use Rattle.ctrl_core.specs.KeptFormat.{kept_format}
use Rattle.ctrl_keep.proofs.CompactedStates.{came_of, came_step, came_unspent, came_done, came_keeps, came_fault, came_fits, came_memory, came_cause, folder_kept, opens_kept}
use Rattle.ctrl_keep.proofs.FollowedSteps.{came_still, came_follows}
use Rattle.ctrl_keep.proofs.compacting.compact.Goals as goal

pub returns-clause-step : goal.returns-clause-step
returns-clause-step g c =
    rw c.reply_of.ensures (came_step c.args.core.now c.args.store.now c.compact-compacted.new.self c.args.desk.now c.compact-compacted.new.desk c.compact-compacted.result (came_of c.requires.keeps c.compact-compacted.ensures.compacted c.compact-compacted.ensures.fault))

pub returns-clause-unspent : goal.returns-clause-unspent
returns-clause-unspent g c =
    rw c.reply_of.ensures (rw c.is_spent.ensures (came_unspent c.args.core.now c.args.store.now c.compact-compacted.new.self c.args.desk.now c.compact-compacted.new.desk c.compact-compacted.result (came_of c.requires.keeps c.compact-compacted.ensures.compacted c.compact-compacted.ensures.fault)))

pub returns-clause-still : goal.returns-clause-still
returns-clause-still g c =
    rw c.reply_of.ensures (came_still c.args.core.now c.args.store.now c.compact-compacted.new.self c.args.desk.now c.compact-compacted.new.desk c.compact-compacted.result (came_of c.requires.keeps c.compact-compacted.ensures.compacted c.compact-compacted.ensures.fault))

pub returns-clause-follows : goal.returns-clause-follows
returns-clause-follows g c =
    rw c.reply_of.ensures (came_follows g.D.Desk.seen (IsTrue g.D.Desk.tells) c.args.core.now c.args.store.now c.compact-compacted.new.self c.args.desk.now c.compact-compacted.new.desk c.compact-compacted.result (came_of c.requires.keeps c.compact-compacted.ensures.compacted c.compact-compacted.ensures.fault)
    (folder_kept (IsTrue g.D.Desk.tells) c.compact-compacted.result c.args.store.now _ _ c.requires.keeps.format c.compact-compacted.ensures.folder))

pub returns-clause-folder : goal.returns-clause-folder
returns-clause-folder g c =
    rw c.reply_of.ensures (came_done (IsTrue g.D.Desk.tells → IsRewritten kept_format c.args.store.now.rows c.args.store.now (g.D.Desk.seen c.args.desk.now).reads (g.D.Desk.seen c.compact-compacted.new.desk).reads)
    c.compact-compacted.result (folder_kept (IsTrue g.D.Desk.tells) c.compact-compacted.result c.args.store.now _ _ c.requires.keeps.format c.compact-compacted.ensures.folder))

pub returns-clause-keeps : goal.returns-clause-keeps
returns-clause-keeps g c = λ fresh.
    came_keeps c.args.core.now c.args.store.now c.compact-compacted.new.self c.args.desk.now c.compact-compacted.new.desk c.compact-compacted.result (came_of c.requires.keeps c.compact-compacted.ensures.compacted c.compact-compacted.ensures.fault) (sym c.is_spent.ensures ∙ fresh)

pub returns-clause-fault : goal.returns-clause-fault
returns-clause-fault g c =
    rw c.reply_of.ensures (rw c.is_spent.ensures (came_fault c.args.core.now c.args.store.now c.compact-compacted.new.self c.args.desk.now c.compact-compacted.new.desk c.compact-compacted.result (came_of c.requires.keeps c.compact-compacted.ensures.compacted c.compact-compacted.ensures.fault)))

pub returns-clause-fits : goal.returns-clause-fits
returns-clause-fits g c =
    rw c.reply_of.ensures (came_fits c.args.core.now c.args.store.now c.compact-compacted.new.self c.args.desk.now c.compact-compacted.new.desk c.compact-compacted.result (came_of c.requires.keeps c.compact-compacted.ensures.compacted c.compact-compacted.ensures.fault))

pub returns-clause-memory : goal.returns-clause-memory
returns-clause-memory g c =
    rw c.reply_of.ensures (rw c.is_spent.ensures (came_memory c.args.core.now c.args.store.now c.compact-compacted.new.self c.args.desk.now c.compact-compacted.new.desk c.compact-compacted.result (came_of c.requires.keeps c.compact-compacted.ensures.compacted c.compact-compacted.ensures.fault)))

pub returns-clause-cause : goal.returns-clause-cause
returns-clause-cause g c =
    rw c.reply_of.ensures (came_cause _ _ c.compact-compacted.result c.compact-compacted.ensures.cause)

pub returns-clause-stops : goal.returns-clause-stops
returns-clause-stops g c = λ told.
    Leaves-weaker _ (c.compact-compacted.ensures.stops c.requires.keeps.unspent told) (opens_kept c.args.core.now c.args.store.now c.requires.keeps)
