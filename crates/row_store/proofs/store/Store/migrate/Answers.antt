use Rattle.std.proofs.Common.{◌≡◌, ◌⊎◌, false, map, sym, ap, ◌∙◌, subst}
use Rattle.std.proofs.lemmas.Result.{on_ok_weaker, IfErr-weaker}
use Rattle.ziti_outside.proofs.MomentLaws.{Leaves-weaker}
use Rattle.ctrl_model.specs.declared.formats.Format.{Format}
use Rattle.ctrl_model.specs.declared.formats.Format.TheVariants.{Two}
use Rattle.row_codec.specs.NarrowedRows.{narrowed}
use Rattle.slot_reading.specs.BatchRows.{ByteRows, rows_in}
use Rattle.row_store.specs.OpenedRows.{OpensTo}
use Rattle.row_store.specs.RewrittenStores.{compacted_size, HasRoom, IsRewritten, rewritten_of}
use Rattle.row_store.specs.StoredRows.{Stored}
use Rattle.row_store.specs.WrittenRows.{IsSlotOf}
use Rattle.row_store.proofs.CompactLaws.{seen_slot, seen_room, slot_fits, disk_fails, reads_unspent}
use Rattle.row_store.proofs.store.Store.migrate.Goals as goal

pub stand_with-requires-clause-slot : goal.stand_with-requires-clause-slot
stand_with-requires-clause-slot g c =
    let w : IsSlotOf Two (map narrowed c.args.self.now.rows) c.as_slice.result.now = seen_slot Two (map narrowed) _ _ _ _ c.self.view_is c.as_slice.ensures.value c.in_ok-slot.ensures.slot in
    let same : rows_in c.in_ok-rows.rows.entries ≡ map narrowed c.args.self.now.rows = c.in_ok-rows.ensures ∙ ap (λ (s : Stored). map narrowed s.rows) c.self.view_is in
    subst (λ (l : ByteRows). IsSlotOf Two l c.as_slice.result.now) (sym same) w

pub stand_with-requires-clause-room : goal.stand_with-requires-clause-room
stand_with-requires-clause-room g c =
    let w : IsSlotOf Two (map narrowed c.args.self.now.rows) c.as_slice.result.now = seen_slot Two (map narrowed) _ _ _ _ c.self.view_is c.as_slice.ensures.value c.in_ok-slot.ensures.slot in
    let room : HasRoom (compacted_size (map narrowed c.args.self.now.rows)) c.args.self.now = seen_room (map narrowed) _ _ c.self.view_is c.in_ok-slot.ensures.room in
    slot_fits Two (map narrowed c.args.self.now.rows) c.args.self.now c.as_slice.result.now w room

pub returns-clause-migrated : goal.returns-clause-migrated
returns-clause-migrated g c =
    let fresh : c.args.self.now.spent ≡ false = sym (ap (λ (s : Stored). s.spent) c.self.view_is) ∙ c.if-self.false in
    let room : HasRoom (compacted_size (map narrowed c.args.self.now.rows)) c.args.self.now = seen_room (map narrowed) _ _ c.self.view_is c.in_ok-slot.ensures.room in
    let same : rows_in c.in_ok-rows.rows.entries ≡ map narrowed c.args.self.now.rows = c.in_ok-rows.ensures ∙ ap (λ (s : Stored). map narrowed s.rows) c.self.view_is in
    on_ok_weaker c.stand_with.result (λ made. ((fresh, room), made ∙ ap (λ (r : ByteRows). rewritten_of Two r c.args.self.now) same)) c.stand_with.ensures.rewritten

pub returns-clause-folder : goal.returns-clause-folder
returns-clause-folder g c =
    let same : rows_in c.in_ok-rows.rows.entries ≡ map narrowed c.args.self.now.rows = c.in_ok-rows.ensures ∙ ap (λ (s : Stored). map narrowed s.rows) c.self.view_is in
    on_ok_weaker c.stand_with.result
    (λ made told. subst (λ (r : ByteRows). IsRewritten Two r c.args.self.now (g.D.Desk.seen c.args.desk.now).reads (g.D.Desk.seen c.stand_with.new.desk).reads) same (made told))
    c.stand_with.ensures.folder

pub returns-clause-fault : goal.returns-clause-fault
returns-clause-fault g c =
    let fresh : c.args.self.now.spent ≡ false = sym (ap (λ (s : Stored). s.spent) c.self.view_is) ∙ c.if-self.false in
    let room : HasRoom (compacted_size (map narrowed c.args.self.now.rows)) c.args.self.now = seen_room (map narrowed) _ _ c.self.view_is c.in_ok-slot.ensures.room in
    IfErr-weaker c.stand_with.result _ _ (λ fault a. disk_fails (compacted_size (map narrowed c.args.self.now.rows)) c.args.self.now c.stand_with.new.self _ _ fault fresh room a) c.stand_with.ensures.fault

pub returns-clause-stands : goal.returns-clause-stands
returns-clause-stands g c = λ unspent told.
    reads_unspent g.D.Desk.tells c.stand_with.result c.args.self.now c.stand_with.new.self (g.D.Desk.seen c.stand_with.new.desk).reads (g.D.Desk.stopped c.stand_with.new.desk).images
    c.stand_with.ensures.stands c.stand_with.ensures.fault unspent told

pub returns-clause-stops : goal.returns-clause-stops
returns-clause-stops g c = λ fresh told.
    let same : rows_in c.in_ok-rows.rows.entries ≡ map narrowed c.args.self.now.rows = c.in_ok-rows.ensures ∙ ap (λ (s : Stored). map narrowed s.rows) c.self.view_is in
    Leaves-weaker _ (c.stand_with.ensures.stops told) (λ image p. subst (λ (f : Format). OpensTo f image c.args.self.now.rows ⊎ OpensTo Two image (map narrowed c.args.self.now.rows)) c.requires.first
    (subst (λ (r : ByteRows). OpensTo c.args.self.now.format image c.args.self.now.rows ⊎ OpensTo Two image r) same p))
