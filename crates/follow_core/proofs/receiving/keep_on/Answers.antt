use Rattle.std.proofs.Common.{List, ℕ, Bool, Option, None, cond, sym, ap, subst, ◌∙◌}
use Rattle.std.proofs.lemmas.Result.{IfOk-weaker, IfErr-weaker}
use Rattle.ziti_outside.proofs.MomentLaws.{Leaves-weaker}
use Rattle.ctrl_model.specs.declared.formats.Format.TheVariants.{Two}
use Rattle.slot_files.specs.FolderImage.{Stands}
use Rattle.follow_core.specs.declared.sought.Sought.{Sought}
use Rattle.follow_core.specs.FollowedCopies.{AreSoughtIn, serial_in_store}
use Rattle.follow_core.proofs.LeadingBatches.{on_changes, on_leads, either_opens}
use Rattle.follow_core.proofs.ReceivedBatches.{copy_told, kept_received, not_taken}
use Rattle.follow_core.proofs.KeptOn.{ends_holds, ends_unspent, keep_failed, both_ok, alone_reads, ends_stops, ends_sought}
use Rattle.follow_core.proofs.receiving.keep_on.Goals as goal

pub keep-requires-clause-changes : goal.keep-requires-clause-changes
keep-requires-clause-changes g c = on_changes c.args.shipment.now c.args.batch.now c.args.store.now c.requires.holds c.requires.spells c.requires.leads

pub keep-requires-clause-leads : goal.keep-requires-clause-leads
keep-requires-clause-leads g c = λ e. on_leads c.args.shipment.now c.args.batch.now c.args.store.now c.requires.holds c.requires.late c.requires.early c.requires.leads e

pub keep-requires-clause-format : goal.keep-requires-clause-format
keep-requires-clause-format g c = c.requires.holds.format

pub keep-requires-clause-batch : goal.keep-requires-clause-batch
keep-requires-clause-batch g c = c.requires.spells.batch

pub returns-clause-received : goal.returns-clause-received
returns-clause-received g c =
    both_ok _ _ _ c.keep.result
    (λ t k folder told records parts stands.
    kept_received c.args.shipment.now c.args.batch.now records parts c.args.store.now c.keep.new.store c.args.desk.now c.keep.new.desk (g.D.Desk.seen c.keep.new.desk).reads t
    (copy_told (g.D.Desk.seen c.args.desk.now).reads c.args.store.now records c.requires.holds.format (c.requires.stands told).kept stands) c.requires.holds c.requires.spells c.requires.whole
    c.requires.late c.requires.early c.requires.leads k (λ e. folder e told records stands) (λ same. subst (λ d. Stands Two (g.D.Desk.seen d).reads records) (sym same) stands))
    c.keep.ensures.kept c.keep.ensures.folder

pub returns-clause-still : goal.returns-clause-still
returns-clause-still g c =
    IfOk-weaker c.keep.result _ _
    (λ t k other.
    let n = not_taken c.args.shipment.now c.args.batch.now c.args.store.now c.keep.new.store c.args.desk.now c.keep.new.desk t k other in
    (n.0, alone_reads c.args.desk.now c.keep.new.desk n.1))
    c.keep.ensures.kept

pub returns-clause-unspent : goal.returns-clause-unspent
returns-clause-unspent g c =
    ends_unspent c.args.shipment.now c.args.batch.now c.args.store.now c.keep.new.store c.args.desk.now c.keep.new.desk c.keep.result (record {
      unspent = c.requires.unspent;
      opened = c.requires.opened;
      holds = c.requires.holds;
      spells = c.requires.spells;
      good = c.requires.whole;
      now = c.requires.late;
      due = c.requires.early;
      on = c.requires.leads;
    }) c.keep.ensures.kept

pub returns-clause-opened : goal.returns-clause-opened
returns-clause-opened g c = λ fresh.
    (ends_holds c.args.shipment.now c.args.batch.now c.args.store.now c.keep.new.store c.args.desk.now c.keep.new.desk c.keep.result (record {
      unspent = c.requires.unspent;
      opened = c.requires.opened;
      holds = c.requires.holds;
      spells = c.requires.spells;
      good = c.requires.whole;
      now = c.requires.late;
      due = c.requires.early;
      on = c.requires.leads;
    })
    (record { kept = c.keep.ensures.kept; failed = c.keep.ensures.fault }) fresh).0

pub returns-clause-holds : goal.returns-clause-holds
returns-clause-holds g c = λ fresh.
    (ends_holds c.args.shipment.now c.args.batch.now c.args.store.now c.keep.new.store c.args.desk.now c.keep.new.desk c.keep.result (record {
      unspent = c.requires.unspent;
      opened = c.requires.opened;
      holds = c.requires.holds;
      spells = c.requires.spells;
      good = c.requires.whole;
      now = c.requires.late;
      due = c.requires.early;
      on = c.requires.leads;
    })
    (record { kept = c.keep.ensures.kept; failed = c.keep.ensures.fault }) fresh).1

pub returns-clause-fault : goal.returns-clause-fault
returns-clause-fault g c =
    IfErr-weaker c.keep.result _ _ (λ fault f. keep_failed c.args.shipment.now c.args.batch.now c.args.store.now c.keep.new.store c.args.desk.now c.keep.new.desk fault f) c.keep.ensures.fault

pub returns-clause-sought : goal.returns-clause-sought
returns-clause-sought g c = λ fresh told records stands.
    let set = c.still_sought.ensures ∙ ap (λ (b : Bool). cond b None c.args.sought.now) c.is_replaced.ensures in
    subst (λ (o : Option Sought). AreSoughtIn records (serial_in_store c.keep.new.store) o) (sym set)
    (ends_sought g.D.Desk.seen c.args.shipment.now c.args.batch.now c.args.store.now c.keep.new.store c.args.desk.now c.keep.new.desk c.keep.result c.args.sought.now (record {
      unspent = c.requires.unspent;
      opened = c.requires.opened;
      holds = c.requires.holds;
      spells = c.requires.spells;
      good = c.requires.whole;
      now = c.requires.late;
      due = c.requires.early;
      on = c.requires.leads;
    })
    (c.requires.stands told).kept c.keep.ensures.kept c.keep.ensures.fault (IfOk-weaker c.keep.result _ _ (λ t f e these those. f e told these those) c.keep.ensures.folder)
    (λ these those. c.requires.sought told these those) fresh records stands)

pub returns-clause-stops : goal.returns-clause-stops
returns-clause-stops g c = λ told records parts stands.
    ends_stops c.args.shipment.now c.args.batch.now c.args.store.now c.keep.new.store c.args.desk.now c.keep.new.desk c.keep.result records parts (record {
      unspent = c.requires.unspent;
      opened = c.requires.opened;
      holds = c.requires.holds;
      spells = c.requires.spells;
      good = c.requires.whole;
      now = c.requires.late;
      due = c.requires.early;
      on = c.requires.leads;
    })
    (record { kept = c.keep.ensures.kept; failed = c.keep.ensures.fault }) (c.requires.stands told) stands (c.keep.ensures.stops told)

pub returns-clause-opens : goal.returns-clause-opens
returns-clause-opens g c = λ told.
    Leaves-weaker _ (c.keep.ensures.stops told) (λ image p. either_opens c.args.shipment.now c.args.batch.now c.args.store.now c.requires.holds c.requires.leads image p)
