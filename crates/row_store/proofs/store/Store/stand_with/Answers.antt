use Rattle.std.proofs.Common.{sym, subst}
use Rattle.ctrl_model.specs.declared.formats.Format.TheVariants.{Two}
use Rattle.slot_reading.specs.BatchRows.{rows_in}
use Rattle.row_store.specs.StoredRows.{Stored, ReadsAs}
use Rattle.row_store.proofs.CompactLaws.{rows_taken}
use Rattle.row_store.proofs.store.Store.stand_with.Goals as goal

pub rewrite-requires-clause-slot : goal.rewrite-requires-clause-slot
rewrite-requires-clause-slot g c = (rows_in c.args.rows.entries, c.requires.slot)

pub returns-in_err-rewrite-clause-stops : goal.returns-in_err-rewrite-clause-stops
returns-in_err-rewrite-clause-stops g c = λ told. c.rewrite.ensures.stops told (rows_in c.args.rows.entries) c.requires.slot

pub returns-clause-stops : goal.returns-clause-stops
returns-clause-stops g c = λ told. c.rewrite.ensures.stops told (rows_in c.args.rows.entries) c.requires.slot

pub returns-clause-rewritten : goal.returns-clause-rewritten
returns-clause-rewritten g c =
    rows_taken Two (rows_in c.args.rows.entries) _ _ c.args.self.now c.self.view_is (c.in_ok-rewrite.ensures.rewritten (rows_in c.args.rows.entries) c.requires.slot)

pub returns-clause-folder : goal.returns-clause-folder
returns-clause-folder g c = λ told. c.in_ok-rewrite.ensures.folder told (rows_in c.args.rows.entries) c.requires.slot

pub returns-clause-stands : goal.returns-clause-stands
returns-clause-stands g c = λ told.
    subst (λ (s : Stored). ReadsAs s (g.D.Desk.seen c.rewrite.new.desk).reads (g.D.Desk.stopped c.rewrite.new.desk).images)
    (sym (rows_taken Two (rows_in c.args.rows.entries) _ _ c.args.self.now c.self.view_is (c.in_ok-rewrite.ensures.rewritten (rows_in c.args.rows.entries) c.requires.slot)))
    (c.in_ok-rewrite.ensures.stands told (rows_in c.args.rows.entries) c.requires.slot)

pub invariant_of-self : goal.invariant_of-self
invariant_of-self g c = (c.requires.slot.rises, c.self.invariant.1, λ fresh. c.requires.slot.puttable, c.self.invariant.3)
