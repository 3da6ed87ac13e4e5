-- A batch that leads on from a store may be kept by it, and what it leaves of the store holds a state again.
use Rattle.std.proofs.Common.{◌≡◌, ◌⊎◌, inl, inr, ℕ, ◌+◌, ◌==◌, ◌<◌, ◌≤◌, nat_lt, Bool, true, false, cond, not, ◌&&◌, ◌||◌, List, [], ◌∷◌, ◌++◌, length, Option, None, Some, refl, sym, ap, ◌∙◌, subst, append_assoc, length-append, true≢false, arith}
use Rattle.std.specs.Prelude.{nat_le}
use Rattle.std.specs.Option.{unwrap_or}
use Rattle.std.proofs.lemmas.Bool.{eqb-true, ltb-false, le-leb, lt-ltb, and_parts}
use Rattle.ziti_outside.specs.Images.{Image}
use Rattle.ctrl_model.specs.declared.formats.Format.{Format}
use Rattle.ctrl_model.specs.declared.formats.Format.TheVariants.{Two}
use Rattle.ctrl_model.specs.State.{State}
use Rattle.ship_frames.specs.declared.shipments.Shipment.{Shipment}
use Rattle.ship_frames.specs.declared.shipments.Sort.{Sort}
use Rattle.ship_frames.specs.declared.shipments.Sort.TheVariants.{Whole, Next}
use Rattle.journal_core.specs.Slots.{slot_end}
use Rattle.slot_files.specs.FolderImage.{Stands}
use Rattle.row_codec.specs.declared.changes.Op.{Op}
use Rattle.row_codec.specs.RowDifference.{Rises, IsTrueDifference}
use Rattle.row_codec.specs.Batches.{bytes_cmp, entries_of, batch_bytes, Spells}
use Rattle.row_laws.proofs.StateBatches.{spelled_rise}
use Rattle.row_codec.specs.StateRows.{HasRows}
use Rattle.slot_reading.specs.BatchRows.{ByteRows, GoesBy, MayLead, Raises, rows_after, serial_of}
use Rattle.row_store.specs.OpenedRows.{OpensTo}
use Rattle.row_store.specs.OpenedStates.{byte_rows_of, OpensToState}
use Rattle.row_store.specs.RewrittenStores.{rewritten_of}
use Rattle.row_store.specs.StoredRows.{Stored, with_ops}
use Rattle.row_judging.proofs.SerialRows.{serial_of_state}
use Rattle.follow_core.specs.declared.sought.Sought.{Sought}
use Rattle.follow_core.specs.BatchBytes.{is_true_difference}
use Rattle.follow_core.specs.Following.{is_whole}
use Rattle.follow_core.specs.FollowedCopies.{HoldsState, IsSoughtIn, AreSoughtIn, serial_in_store}
use Rattle.follow_core.specs.Steps.{is_begun, is_replaced, rows_under, comes_late, comes_early, AreOfSerial, LeadsOn, stored_behind, kept_behind}
use Rattle.follow_core.specs.TakenFrames.{OpensToSome}
use Rattle.follow_core.proofs.BatchWords.{passed_is_true}

-- ---- the rows of a store that holds a state

pub held_rise : (stored : Stored) → HoldsState stored → Rises bytes_cmp stored.rows
held_rise stored h = subst (λ (r : ByteRows). Rises bytes_cmp r) (sym h.rows) (spelled_rise Two h.state h.valid)

pub under_rise : (sort : Sort) (stored : Stored) → HoldsState stored → Rises bytes_cmp (rows_under sort stored)
under_rise sort stored h = by (is_replaced sort stored)
  where
    by : (b : Bool) → Rises bytes_cmp (cond b [] stored.rows)
    by true = tt
    by false = held_rise stored h

-- A batch that leads on is a true difference.
pub on_changes : (s : Shipment) (ops : List Op) (stored : Stored) → HoldsState stored → Spells s.bytes ops → LeadsOn s ops stored
    → IsTrueDifference bytes_cmp (rows_under s.sort stored) (entries_of ops)
on_changes s ops stored h spells on = passed_is_true (rows_under s.sort stored) ops (under_rise s.sort stored h) spells.batch on.changes

pub replaced_changes : (s : Shipment) (ops : List Op) (stored : Stored) → HoldsState stored → Spells s.bytes ops → LeadsOn s ops stored → is_replaced s.sort stored ≡ true
    → IsTrueDifference bytes_cmp [] (entries_of ops)
replaced_changes s ops stored h spells on e =
    subst (λ (b : Bool). IsTrueDifference bytes_cmp (cond b [] stored.rows) (entries_of ops)) e (on_changes s ops stored h spells on)

-- ---- the serial of a Next

own_is : (stored : Stored) (h : HoldsState stored) → serial_in_store stored ≡ h.state.serial
own_is stored h = ap (λ (r : ByteRows). unwrap_or (serial_of r) 0) h.rows ∙ ap (λ (o : Option ℕ). unwrap_or o 0) (serial_of_state h.state h.valid)

-- A Next that comes neither late nor early is that of the next serial, and there is a record.
pub next_serial : (serial own : ℕ) (begun : Bool) → begun && nat_le serial own ≡ false → not begun || nat_lt (own + 1) serial ≡ false → (begun ≡ true) × (serial ≡ own + 1)
next_serial serial own true late early = (refl, between (nat_le serial own) refl late)
  where
    between : (b : Bool) → nat_le serial own ≡ b → b ≡ false → serial ≡ own + 1
    between true e f = absurd (true≢false f)
    between false e f =
        let upto = ltb-false (own + 1) serial early in
        let past : (serial ≤ own → ⊥) = λ le. true≢false (sym (le-leb serial own le) ∙ e) in
        omega (arith, upto, past)
next_serial serial own false late early = absurd (true≢false early)

-- So it may lead on.
pub on_leads : (s : Shipment) (ops : List Op) (stored : Stored) → HoldsState stored → comes_late s stored ≡ false → comes_early s stored ≡ false → LeadsOn s ops stored
    → is_replaced s.sort stored ≡ false → MayLead stored.format stored.end stored.rows (rows_after stored.rows ops)
on_leads s ops stored h late early on e = by s.sort refl (is_begun stored) refl
  where
    behind : AreOfSerial s.serial (rows_after stored.rows ops)
    behind = subst (λ (b : Bool). AreOfSerial s.serial (rows_after (cond b [] stored.rows) ops)) e on.behind

    raises : s.serial ≡ serial_in_store stored + 1 → Raises stored.rows (rows_after stored.rows ops)
    raises next = (
      h.state.serial,
      ap serial_of h.rows ∙ serial_of_state h.state h.valid,
      ap serial_of behind.rows_are ∙ serial_of_state behind.state behind.valid ∙ ap (λ (n : ℕ). Some n) (behind.serial_is ∙ next ∙ ap (λ (n : ℕ). n + 1) (own_is stored h)),
    )

    by : (sort : Sort) → s.sort ≡ sort → (b : Bool) → is_begun stored ≡ b → MayLead stored.format stored.end stored.rows (rows_after stored.rows ops)
    by Whole same true f =
        let both : true ≡ false = sym (ap (λ (t : Sort). is_whole t && is_begun stored) same ∙ f) ∙ e in
        absurd (true≢false both)
    by Whole same false f = inl (first (stored.end == 8) refl f)
      where
        first : (t : Bool) → (stored.end == 8) ≡ t → not t ≡ false → stored.end ≡ 8
        first true g n = eqb-true stored.end 8 g
        first false g n = absurd (true≢false n)
    by Next same b f =
        let early_so : not (is_begun stored) || nat_lt (serial_in_store stored + 1) s.serial ≡ false =
        ap (λ (t : Sort). not (is_whole t) && (not (is_begun stored) || nat_lt (serial_in_store stored + 1) s.serial)) (sym same) ∙ early in
        inr (subst (λ (g : Format). goes g) (sym h.format) (raises (next_serial s.serial (serial_in_store stored) (is_begun stored) late early_so).1))
      where
        goes : Format → Type 0
        goes g = GoesBy g stored.rows (rows_after stored.rows ops)

-- ---- what it leaves

pub behind_holds : (s : Shipment) (ops : List Op) (stored new : Stored) → HoldsState stored → LeadsOn s ops stored → new ≡ stored_behind s.sort ops stored → HoldsState new
behind_holds s ops stored new h on is = subst HoldsState (sym is) (by (is_replaced s.sort stored) on.behind)
  where
    by : (b : Bool) → AreOfSerial s.serial (rows_after (cond b [] stored.rows) ops) → HoldsState (cond b (rewritten_of Two (rows_after [] ops) stored) (with_ops stored ops))
    by true a = record { format = refl; state = a.state; valid = a.valid; rows = a.rows_are }
    by false a = record { format = h.format; state = a.state; valid = a.valid; rows = a.rows_are }

pub behind_plain : (sort : Sort) (ops : List Op) (stored new : Stored) → new ≡ stored_behind sort ops stored → (new.spent ≡ stored.spent) × (new.bounds ≡ stored.bounds) × (new.opened ≡ stored.opened)
behind_plain sort ops stored new is =
    subst (λ (n : Stored). (n.spent ≡ stored.spent) × (n.bounds ≡ stored.bounds) × (n.opened ≡ stored.opened)) (sym is) (by (is_replaced sort stored))
  where
    by : (b : Bool) → let n = cond b (rewritten_of Two (rows_after [] ops) stored) (with_ops stored ops) in (n.spent ≡ stored.spent) × (n.bounds ≡ stored.bounds) × (n.opened ≡ stored.opened)
    by true = (refl, refl, refl)
    by false = (refl, refl, refl)

-- What opens to the rows before or after opens to a state.
pub either_opens : (s : Shipment) (ops : List Op) (stored : Stored) → HoldsState stored → LeadsOn s ops stored → (image : Image)
    → OpensTo Two image stored.rows ⊎ OpensTo Two image (rows_after (rows_under s.sort stored) ops) → OpensToSome image
either_opens s ops stored h on image (inl p) =
    record { state = h.state; opens = record { format = Two; has = tt; valid = h.valid; rows = subst (OpensTo Two image) h.rows p } }
either_opens s ops stored h on image (inr p) =
    record { state = on.behind.state; opens = record { format = Two; has = tt; valid = on.behind.valid; rows = subst (OpensTo Two image) on.behind.rows_are p } }

pub before_opens : (stored : Stored) → HoldsState stored → (image : Image) → OpensTo stored.format image stored.rows → OpensToSome image
before_opens stored h image p =
    record { state = h.state; opens = record { format = stored.format; has = subst (λ (f : Format). HasRows f h.state) (sym h.format) tt; valid = h.valid; rows = subst (OpensTo stored.format image) (h.rows ∙ ap (λ (f : Format). byte_rows_of f h.state) (sym h.format)) p } }
