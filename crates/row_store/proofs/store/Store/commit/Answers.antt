use Rattle.std.proofs.Common.{◌≡◌, ℕ, ◌+◌, ◌≤◌, false, subst, sym, ap, ◌∙◌, refl, List, length}
use Rattle.std.proofs.lemmas.Result.{err_from_is_err_and}
use Rattle.ziti_outside.proofs.MomentLaws.{Leaves-weaker}
use Rattle.journal_core.specs.Slots.{IsPayload}
use Rattle.row_codec.specs.declared.changes.Op.{Op}
use Rattle.row_codec.specs.Batches.{batch_bytes}
use Rattle.slot_reading.specs.BatchRows.{ArePuttable, rows_after}
use Rattle.row_store.specs.StoredRows.{Stored}
use Rattle.slot_reading.proofs.PuttableRows.{puttable_after}
use Rattle.row_store.proofs.CommitLaws.{seen_gate, seen_stops, seen_stands, seen_adds, seen_behind, short_batch, kept_none, err_inside}
use Rattle.row_store.proofs.store.Store.commit.Goals as goal

pub keep-requires-clause-closed : goal.keep-requires-clause-closed
keep-requires-clause-closed g c = λ told.
    let fresh : c.args.self.now.spent ≡ false = sym (ap (λ (s : Stored). s.spent) c.self.view_is) ∙ c.if-self.false in
    seen_gate _ _ _ _ c.self.view_is (c.requires.stands fresh told)

pub returns-in_err-self-inside-clause-stops : goal.returns-in_err-self-inside-clause-stops
returns-in_err-self-inside-clause-stops g c = λ fresh told.
    let room = subst (λ (ops : List Op). c.self.inside.end + 6 + length (batch_bytes ops) ≤ c.self.inside.bounds.slot) c.as_slice.ensures (c.has_room.ensures.0 c.if-not-has_room.false) in
    let short : IsPayload (batch_bytes c.args.batch.now) = short_batch c.self.inside.end c.self.inside.bounds.slot (batch_bytes c.args.batch.now) room c.self.invariant.1 in
    Leaves-weaker _ (c.keep.ensures.alone.stops told)
    (seen_stops _ _ _ _ c.args.batch.now _ c.self.view_is (c.requires.stands fresh told) c.requires.batch (c.requires.changes fresh) (c.requires.leads fresh) c.in_ok-packed.ensures short)

pub returns-clause-stands : goal.returns-clause-stands
returns-clause-stands g c = λ unspent told.
    let fresh : c.args.self.now.spent ≡ false = sym (ap (λ (s : Stored). s.spent) c.self.view_is) ∙ c.if-self.false in
    let room = subst (λ (ops : List Op). c.self.inside.end + 6 + length (batch_bytes ops) ≤ c.self.inside.bounds.slot) c.as_slice.ensures (c.has_room.ensures.0 c.if-not-has_room.false) in
    let short : IsPayload (batch_bytes c.args.batch.now) = short_batch c.self.inside.end c.self.inside.bounds.slot (batch_bytes c.args.batch.now) room c.self.invariant.1 in
    seen_stands _ _ _ _ _ _ _ c.args.batch.now _ c.self.view_is (c.requires.stands fresh told) c.requires.batch (c.requires.changes fresh) (c.requires.leads fresh) c.in_ok-packed.ensures short
    refl (c.in_ok-self-inside.ensures.rows ∙ ap (rows_after _) c.as_slice-2.ensures) refl refl c.in_ok-self-inside.ensures.next (c.in_ok-self-inside.ensures.added tt told)
    c.keep.ensures.alone.elsewhere (c.in_ok-self-inside.ensures.stable tt) (c.keep.ensures.alone.stops told).found

pub returns-clause-added : goal.returns-clause-added
returns-clause-added g c = λ told.
    let fresh : c.args.self.now.spent ≡ false = sym (ap (λ (s : Stored). s.spent) c.self.view_is) ∙ c.if-self.false in
    let room = subst (λ (ops : List Op). c.self.inside.end + 6 + length (batch_bytes ops) ≤ c.self.inside.bounds.slot) c.as_slice.ensures (c.has_room.ensures.0 c.if-not-has_room.false) in
    let short : IsPayload (batch_bytes c.args.batch.now) = short_batch c.self.inside.end c.self.inside.bounds.slot (batch_bytes c.args.batch.now) room c.self.invariant.1 in
    seen_adds _ _ _ _ _ c.args.batch.now _ c.self.view_is (c.requires.stands fresh told) c.in_ok-packed.ensures short
    (c.in_ok-self-inside.ensures.added tt told) c.keep.ensures.alone.elsewhere

pub returns-clause-stops : goal.returns-clause-stops
returns-clause-stops g c = λ fresh told.
    let room = subst (λ (ops : List Op). c.self.inside.end + 6 + length (batch_bytes ops) ≤ c.self.inside.bounds.slot) c.as_slice.ensures (c.has_room.ensures.0 c.if-not-has_room.false) in
    let short : IsPayload (batch_bytes c.args.batch.now) = short_batch c.self.inside.end c.self.inside.bounds.slot (batch_bytes c.args.batch.now) room c.self.invariant.1 in
    Leaves-weaker _ (c.keep.ensures.alone.stops told)
    (seen_stops _ _ _ _ c.args.batch.now _ c.self.view_is (c.requires.stands fresh told) c.requires.batch (c.requires.changes fresh) (c.requires.leads fresh) c.in_ok-packed.ensures short)

pub returns-in_err-self-inside-clause-behind : goal.returns-in_err-self-inside-clause-behind
returns-in_err-self-inside-clause-behind g c = λ none fresh spent told.
    let p = err_from_is_err_and c.from_residual-in_err-self-inside.result c.from_residual-in_err-self-inside.ensures.1 in
    let wanting = err_inside c.from_residual-in_err-self-inside.result p.0 p.1 none in
    let room = subst (λ (ops : List Op). c.self.inside.end + 6 + length (batch_bytes ops) ≤ c.self.inside.bounds.slot) c.as_slice.ensures (c.has_room.ensures.0 c.if-not-has_room.false) in
    let short : IsPayload (batch_bytes c.args.batch.now) = short_batch c.self.inside.end c.self.inside.bounds.slot (batch_bytes c.args.batch.now) room c.self.invariant.1 in
    seen_behind _ _ _ _ _ _ c.args.batch.now _ c.self.view_is (c.requires.stands fresh told) c.requires.batch (c.requires.changes fresh) (c.requires.leads fresh) c.in_ok-packed.ensures short
    (c.in_err-self-inside.ensures.added (kept_none ℕ _ (sym p.2 ∙ wanting)) told) c.keep.ensures.alone.elsewhere
    (c.in_err-self-inside.ensures.stable (kept_none ℕ _ (sym p.2 ∙ wanting))) (c.keep.ensures.alone.stops told).found

pub invariant_of-self-2 : goal.invariant_of-self-2
invariant_of-self-2 g c = (
  c.keep.ensures.rises,
  c.self.invariant.1,
  λ unspent. subst ArePuttable (sym (c.in_ok-self-inside.ensures.rows ∙ ap (rows_after _) c.as_slice-2.ensures))
      (puttable_after _ c.args.batch.now (c.self.invariant.2 c.if-self.false) c.requires.batch.fits),
  c.self.invariant.3,
)
