use Rattle.std.proofs.Common.{◌≡◌, false, sym, ap, ◌∙◌, subst}
use Rattle.std.proofs.lemmas.Result.{on_ok_weaker, IfErr-weaker}
use Rattle.ziti_outside.proofs.MomentLaws.{Leaves-weaker}
use Rattle.ctrl_model.specs.declared.formats.Format.{Format}
use Rattle.slot_reading.specs.BatchRows.{ByteRows}
use Rattle.row_store.specs.RewrittenStores.{compacted_size, HasRoom, IsRewritten}
use Rattle.row_store.specs.StoredRows.{Stored}
use Rattle.row_store.specs.WrittenRows.{IsSlotOf}
use Rattle.row_store.proofs.CompactLaws.{seen_slot, seen_room, slot_fits, kept_rows, kept_reads, disk_fails, reads_unspent, either_same}
use Rattle.row_store.proofs.store.Store.compact.Goals as goal

pub rewrite-requires-clause-slot : goal.rewrite-requires-clause-slot
rewrite-requires-clause-slot g c =
    (c.args.self.now.rows, seen_slot c.self.inside.format (λ (rows : ByteRows). rows) _ _ _ _ c.self.view_is c.as_slice.ensures.value c.in_ok-slot.ensures.slot)

pub rewrite-requires-clause-room : goal.rewrite-requires-clause-room
rewrite-requires-clause-room g c =
    let w : IsSlotOf c.self.inside.format c.args.self.now.rows c.as_slice.result.now =
    seen_slot c.self.inside.format (λ (rows : ByteRows). rows) _ _ _ _ c.self.view_is c.as_slice.ensures.value c.in_ok-slot.ensures.slot in
    slot_fits c.self.inside.format c.args.self.now.rows c.args.self.now c.as_slice.result.now w (seen_room (λ (rows : ByteRows). rows) _ _ c.self.view_is c.in_ok-slot.ensures.room)

pub returns-clause-compacted : goal.returns-clause-compacted
returns-clause-compacted g c =
    let fresh : c.args.self.now.spent ≡ false = sym (ap (λ (s : Stored). s.spent) c.self.view_is) ∙ c.if-self.false in
    let room : HasRoom (compacted_size c.args.self.now.rows) c.args.self.now = seen_room (λ (rows : ByteRows). rows) _ _ c.self.view_is c.in_ok-slot.ensures.room in
    let w : IsSlotOf c.self.inside.format c.args.self.now.rows c.as_slice.result.now =
    seen_slot c.self.inside.format (λ (rows : ByteRows). rows) _ _ _ _ c.self.view_is c.as_slice.ensures.value c.in_ok-slot.ensures.slot in
    on_ok_weaker c.rewrite.result
    (λ made. ((fresh, room), kept_rows c.self.inside.format c.args.self.now c.rewrite.new.self c.as_slice.result.now (ap (λ (s : Stored). s.format) c.self.view_is) w made))
    c.rewrite.ensures.rewritten

pub returns-clause-folder : goal.returns-clause-folder
returns-clause-folder g c =
    let w : IsSlotOf c.self.inside.format c.args.self.now.rows c.as_slice.result.now =
    seen_slot c.self.inside.format (λ (rows : ByteRows). rows) _ _ _ _ c.self.view_is c.as_slice.ensures.value c.in_ok-slot.ensures.slot in
    on_ok_weaker c.rewrite.result
    (λ made told. subst (λ (f : Format). IsRewritten f c.args.self.now.rows c.args.self.now (g.D.Desk.seen c.args.desk.now).reads (g.D.Desk.seen c.rewrite.new.desk).reads)
    (ap (λ (s : Stored). s.format) c.self.view_is) (made told c.args.self.now.rows w))
    c.rewrite.ensures.folder

pub returns-clause-fault : goal.returns-clause-fault
returns-clause-fault g c =
    let fresh : c.args.self.now.spent ≡ false = sym (ap (λ (s : Stored). s.spent) c.self.view_is) ∙ c.if-self.false in
    let room : HasRoom (compacted_size c.args.self.now.rows) c.args.self.now = seen_room (λ (rows : ByteRows). rows) _ _ c.self.view_is c.in_ok-slot.ensures.room in
    IfErr-weaker c.rewrite.result _ _ (λ fault a. disk_fails (compacted_size c.args.self.now.rows) c.args.self.now c.rewrite.new.self _ _ fault fresh room a) c.rewrite.ensures.fault

pub returns-clause-stands : goal.returns-clause-stands
returns-clause-stands g c = λ unspent told.
    let w : IsSlotOf c.self.inside.format c.args.self.now.rows c.as_slice.result.now =
    seen_slot c.self.inside.format (λ (rows : ByteRows). rows) _ _ _ _ c.self.view_is c.as_slice.ensures.value c.in_ok-slot.ensures.slot in
    reads_unspent g.D.Desk.tells c.rewrite.result c.args.self.now c.rewrite.new.self (g.D.Desk.seen c.rewrite.new.desk).reads (g.D.Desk.stopped c.rewrite.new.desk).images
    (kept_reads g.D.Desk.tells c.rewrite.result c.self.inside.format c.args.self.now c.rewrite.new.self c.as_slice.result.now (g.D.Desk.seen c.rewrite.new.desk).reads
    (g.D.Desk.stopped c.rewrite.new.desk).images w c.rewrite.ensures.rewritten c.rewrite.ensures.stands)
    c.rewrite.ensures.fault unspent told

pub returns-clause-stops : goal.returns-clause-stops
returns-clause-stops g c = λ fresh told.
    let w : IsSlotOf c.self.inside.format c.args.self.now.rows c.as_slice.result.now =
    seen_slot c.self.inside.format (λ (rows : ByteRows). rows) _ _ _ _ c.self.view_is c.as_slice.ensures.value c.in_ok-slot.ensures.slot in
    Leaves-weaker _ (c.rewrite.ensures.stops told c.args.self.now.rows w)
    (λ image p. either_same c.self.inside.format c.args.self.now (ap (λ (s : Stored). s.format) c.self.view_is) image p)
