-- An image opens to one state at most, and has none at one place at most; and what stands for the same opens to the same state.
use Rattle.std.proofs.Common.{◌≡◌, inl, inr, ℕ, zero, suc, ◌<◌, List, [], length, refl, sym, subst, ap, ◌∙◌, arith}
use Rattle.ziti_outside.specs.declared.desk.Part.{Part}
use Rattle.ziti_outside.specs.declared.desk.Part.TheVariants.{Mark}
use Rattle.ziti_outside.specs.Images.{Image}
use Rattle.ctrl_model.specs.declared.formats.Format.{Format}
use Rattle.ctrl_model.specs.State.{State, start}
use Rattle.journal_core.specs.Slots.{slot_end}
use Rattle.slot_files.specs.FolderImage.{StandsBy, StandsAsBefore}
use Rattle.slot_files.proofs.StandLaws.{one_stands}
use Rattle.row_codec.specs.StateRows.{HasRows}
use Rattle.row_laws.proofs.SameStates.{same_from_spelled}
use Rattle.slot_reading.specs.BatchRows.{ByteRows}
use Rattle.row_store.specs.OpenedRows.{OpensTo}
use Rattle.row_store.proofs.OpeningLaws.{one_opens, none_opens, damaged_opens, one_damage}
use Rattle.row_store.proofs.StateRows.{start_rows, start_has, start_valid, start_is_one}
use Rattle.row_store.specs.OpenedStates.{byte_rows_of, OpensToState, HasNoState, IsStateless}

-- Over an empty mark that is the state at the start.
start_opens : (image : Image) (s : State) → length (image Mark) ≡ 0 → OpensToState image s → s ≡ start
start_opens image s e p =
    let none = none_opens p.format image (byte_rows_of p.format s) e p.rows in
    same_from_spelled p.format s start p.valid start_valid p.has (start_has p.format) (none ∙ sym (start_rows p.format))

one_by : (mark : ℕ) (image : Image) (s t : State) → length (image Mark) ≡ mark → OpensToState image s → OpensToState image t → s ≡ t
one_by zero image s t e p q = start_opens image s e p ∙ sym (start_opens image t e q)
one_by (suc turn) image s t e p q =
    let same = one_opens p.format q.format image (byte_rows_of p.format s) (byte_rows_of q.format t) p.rows q.rows in
    let form = same.0 (omega (arith, e)) in
    let has : HasRows q.format s = subst (λ (f : Format). HasRows f s) form p.has in
    same_from_spelled q.format s t p.valid q.valid has q.has (ap (λ (f : Format). byte_rows_of f s) (sym form) ∙ same.1)

pub one_state : (image : Image) (s t : State) → OpensToState image s → OpensToState image t → s ≡ t
one_state image s t p q = one_by (length (image Mark)) image s t refl p q

-- What has no state opens to rows all the same.
opens_rows : (image : Image) (part : Part) (at : ℕ) (h : HasNoState image part at) → OpensTo h.format image h.rows
opens_rows image part at h = record { batches = h.batches; stands = h.stands; give = h.give }

pub stateless_opens : (image : Image) (part : Part) (at : ℕ) (s : State) → IsStateless image part at → OpensToState image s → ⊥
stateless_opens image part at s (inl d) p = damaged_opens p.format image part at (byte_rows_of p.format s) d p.rows
stateless_opens image part at s (inr h) p = by (length (image Mark)) refl
  where
    by : (mark : ℕ) → length (image Mark) ≡ mark → ⊥
    by zero e = start_is_one h.format h.rows (none_opens h.format image h.rows e (opens_rows image part at h)) h.none
    by (suc turn) e =
        let same = one_opens h.format p.format image h.rows (byte_rows_of p.format s) (opens_rows image part at h) p.rows in
        let form = same.0 (omega (arith, e)) in
        h.none s p.valid (subst (λ (f : Format). HasRows f s) (sym form) p.has) (same.1 ∙ ap (λ (f : Format). byte_rows_of f s) (sym form))

pub one_place : (image : Image) (part other : Part) (at place : ℕ) → IsStateless image part at → IsStateless image other place → (part ≡ other) × (at ≡ place)
one_place image part other at place (inl d) (inl e) = one_damage image part other at place d e
one_place image part other at place (inl d) (inr k) = absurd (damaged_opens k.format image part at k.rows d (opens_rows image other place k))
one_place image part other at place (inr h) (inl e) = absurd (damaged_opens h.format image other place h.rows e (opens_rows image part at h))
one_place image part other at place (inr h) (inr k) =
    (h.named ∙ sym k.named, h.place ∙ ap slot_end (one_stands h.format k.format image h.batches k.batches h.stands k.stands).1 ∙ sym k.place)

-- ---- images that stand for the same

still_by : (mark : ℕ) (f : Format) (old new : Image) (s : State) → length (old Mark) ≡ mark → StandsAsBefore f old new → OpensToState old s → OpensToState new s
still_by zero f old new s e a p =
    let first : s ≡ start = start_opens old s e p in
    let none : OpensTo f new [] = record { batches = []; stands = a.still [] (subst (λ (m : ℕ). StandsBy m f old []) (sym e) refl); give = refl } in
    record {
      format = f;
      has = subst (HasRows f) (sym first) (start_has f);
      valid = p.valid;
      rows = subst (OpensTo f new) (sym (ap (byte_rows_of f) first ∙ start_rows f)) none;
    }
still_by (suc turn) f old new s e a p = record {
  format = p.format;
  has = p.has;
  valid = p.valid;
  rows = record { batches = p.rows.batches; stands = a.own (omega (arith, e)) p.format p.rows.batches p.rows.stands; give = p.rows.give };
}

pub still_opens : (f : Format) (old new : Image) (s : State) → StandsAsBefore f old new → OpensToState old s → OpensToState new s
still_opens f old new s a p = still_by (length (old Mark)) f old new s refl a p
