-- What stands behind a gate of the slot of a store: nothing at the last one, and else a batch.
use Rattle.std.proofs.Common.{◌≡◌, ◌⊎◌, inl, inr, ℕ, ◌+◌, ◌-◌, ◌^◌, ◌<◌, ◌≤◌, min, Bool, IsTrue, List, [], ◌∷◌, ◌++◌, length, Option, None, Some, refl, sym, ap, ◌∙◌, subst, arith, length-append, append_assoc, append-nil}
use Rattle.ziti_outside.specs.declared.desk.Part.{Part}
use Rattle.ziti_outside.specs.declared.desk.Part.TheVariants.{Mark}
use Rattle.ziti_outside.specs.Images.{Image}
use Rattle.ctrl_model.specs.declared.formats.Format.{Format}
use Rattle.journal_core.specs.declared.faults.JournalFault.{JournalFault}
use Rattle.journal_core.specs.declared.faults.JournalFault.TheVariants as journal
use Rattle.journal_core.specs.Slots.{Slot, IsClosed, IsRecord, IsDamaged, records_of, slot_end}
use Rattle.journal_core.proofs.SlotLaws.{one_at, closed_or_open, slot_closed, end-push}
use Rattle.slot_files.specs.FolderImage.{slot_of}
use Rattle.slot_files.proofs.StandLaws.{one_stands}
use Rattle.row_codec.specs.declared.changes.Op.{Op}
use Rattle.row_codec.specs.Batches.{Spells}
use Rattle.slot_reading.specs.BatchRows.{ByteRows, Give}
use Rattle.slot_reading.specs.SlotReading.{Behind, BehindFails}
use Rattle.slot_reading.proofs.BatchLaws.{give_on}
use Rattle.slot_reading.proofs.SlotReadings.{records-append, next_stands, slot_front}
use Rattle.row_store.specs.Faults.{in_part}
use Rattle.row_store.specs.GateBatches.{IsGateOf, IsBatchAt, GateHas, GateFails}
use Rattle.row_store.specs.StoredRows.{Stored}
use Rattle.row_store.proofs.OpeningLaws.{of_slot}

-- ---- the slot

same_batches : (stored : Stored) (reads : Image) (at : ℕ) (h : IsGateOf stored reads at) → h.before ++ h.after ≡ h.kept.batches
same_batches stored reads at h = (one_stands stored.format stored.format reads (h.before ++ h.after) h.kept.batches h.stands h.kept.stands).1

gate_slot : (stored : Stored) (reads : Image) (at : ℕ) (h : IsGateOf stored reads at) → Slot stored.format (reads stored.part) (h.before ++ h.after)
gate_slot stored reads at h =
    let some : 0 < length (reads Mark) = subst (λ (m : ℕ). 0 < m) (sym h.kept.mark) h.some in
    let part : stored.part ≡ slot_of (length (reads Mark)) = h.kept.part ∙ ap slot_of (sym h.kept.mark) in
    subst (λ (q : Part). Slot stored.format (reads q) (h.before ++ h.after)) (sym part) (of_slot (length (reads Mark)) stored.format reads (h.before ++ h.after) some h.stands)

gate_end : (stored : Stored) (reads : Image) (at : ℕ) (h : IsGateOf stored reads at) → stored.end ≡ slot_end (h.before ++ h.after)
gate_end stored reads at h = h.kept.end ∙ ap slot_end (sym (same_batches stored reads at h))

gate_gives : (stored : Stored) (reads : Image) (at : ℕ) (h : IsGateOf stored reads at) → Give stored.format (h.before ++ h.after) stored.rows
gate_gives stored reads at h = subst (λ (l : List (List ℕ)). Give stored.format l stored.rows) (sym (same_batches stored reads at h)) h.kept.give

-- No gate lies behind the last one.
gate_within : (before after : List (List ℕ)) → slot_end before ≤ slot_end (before ++ after)
gate_within before after =
    let whole : length (records_of (before ++ after)) ≡ length (records_of before) + length (records_of after) =
    ap length (records-append before after) ∙ length-append (records_of before) (records_of after) in
    omega (arith, whole)

-- ---- what is behind a gate

-- Behind the last one the slot has no record.
last_closed : (f : Format) (bytes : List ℕ) (before : List (List ℕ)) → Slot f bytes (before ++ []) → IsClosed (slot_end before) bytes
last_closed f bytes before s = subst (λ (l : List (List ℕ)). IsClosed (slot_end l) bytes) (append-nil before) (slot_closed f bytes (before ++ []) s)

-- Behind another one it has the next.
next_record : (f : Format) (bytes : List ℕ) (before : List (List ℕ)) (payload : List ℕ) (more : List (List ℕ)) → Slot f bytes (before ++ payload ∷ more) → IsRecord (slot_end before) payload bytes
next_record f bytes before payload more s = next_stands f bytes before payload more (slot_front f bytes (before ++ payload ∷ more) s)

closed_end : (f : Format) (bytes : List ℕ) (before after : List (List ℕ)) (end : ℕ) → Slot f bytes (before ++ after) → end ≡ slot_end (before ++ after) → IsClosed (slot_end before) bytes
    → slot_end before ≡ end
closed_end f bytes before [] end s e closed = ap slot_end (sym (append-nil before)) ∙ sym e
closed_end f bytes before (payload ∷ more) end s e closed = absurd (closed_or_open (slot_end before) payload bytes closed (next_record f bytes before payload more s))

open_batch : (f : Format) (bytes : List ℕ) (before after : List (List ℕ)) (end : ℕ) (payload : List ℕ) (ops : List Op) (next : ℕ) → Slot f bytes (before ++ after) → end ≡ slot_end (before ++ after)
    → end < 2 ^ 64 → IsRecord (slot_end before) payload bytes → Spells payload ops → next ≡ min (slot_end before + 5 + length payload) (2 ^ 64 - 1) → IsBatchAt bytes (slot_end before) ops next
open_batch f bytes before [] end payload ops next s e small r spells place = absurd (closed_or_open (slot_end before) payload bytes (last_closed f bytes before s) r)
open_batch f bytes before (first ∷ more) end payload ops next s e small r spells place = record { payload = payload; stands = r; spells = spells; behind = exact }
  where
    same : payload ≡ first
    same = one_at (slot_end before) payload first bytes r (next_record f bytes before first more s)

    behind : slot_end before + 5 + length first ≤ end
    behind =
        let one = end-push first before in
        let within = gate_within (before ++ first ∷ []) more in
        let whole : slot_end ((before ++ first ∷ []) ++ more) ≡ slot_end (before ++ first ∷ more) = ap slot_end (append_assoc before (first ∷ []) more) in
        omega (arith, one, within, whole, e)

    exact : next ≡ slot_end before + 5 + length payload
    exact = let long = ap length same in omega (arith, long, behind, small, place)

gate_has_own : (stored : Stored) (reads : Image) (at : ℕ) (found : Option (List Op × ℕ)) → stored.end < 2 ^ 64 → (h : IsGateOf stored reads at) → Behind (reads stored.part) (slot_end h.before) found
    → GateHas stored reads (slot_end h.before) found
gate_has_own stored reads at None small h closed = closed_end stored.format (reads stored.part) h.before h.after stored.end (gate_slot stored reads at h) (gate_end stored reads at h) closed
gate_has_own stored reads at (Some found) small h b =
    open_batch stored.format (reads stored.part) h.before h.after stored.end b.0 found.0 found.1 (gate_slot stored reads at h) (gate_end stored reads at h) small b.1 b.2 b.3

pub gate_has : (stored seen : Stored) (reads : Image) (at : ℕ) (found : Option (List Op × ℕ)) → seen ≡ stored → seen.end < 2 ^ 64 → IsGateOf stored reads at → Behind (reads seen.part) at found
    → GateHas stored reads at found
gate_has stored seen reads at found e small h b =
    let own : IsGateOf seen reads at = subst (λ (s : Stored). IsGateOf s reads at) (sym e) h in
    let here : GateHas seen reads (slot_end own.before) found = gate_has_own seen reads at found small own (subst (λ (n : ℕ). Behind (reads seen.part) n found) own.place b) in
    subst (λ (s : Stored). GateHas s reads at found) e (subst (λ (n : ℕ). GateHas seen reads n found) (sym own.place) here)

-- ---- why nothing was read

-- What gives rows is not damaged at a gate, and its next payload spells a batch.
sound_gate : (f : Format) (bytes : List ℕ) (before after : List (List ℕ)) (rows : ByteRows) → Slot f bytes (before ++ after) → Give f (before ++ after) rows
    → IsDamaged (slot_end before) bytes ⊎ ((payload : List ℕ) × IsRecord (slot_end before) payload bytes × ((ops : List Op) → Spells payload ops → ⊥)) → ⊥
sound_gate f bytes before [] rows s give (inl d) = d.not_closed (last_closed f bytes before s)
sound_gate f bytes before [] rows s give (inr u) = closed_or_open (slot_end before) u.0 bytes (last_closed f bytes before s) u.1
sound_gate f bytes before (payload ∷ more) rows s give (inl d) = d.no_record payload (next_record f bytes before payload more s)
sound_gate f bytes before (payload ∷ more) rows s give (inr u) =
    let on = give_on f before payload more rows give in
    let same : u.0 ≡ payload = one_at (slot_end before) u.0 payload bytes u.1 (next_record f bytes before payload more s) in
    u.2 on.leads.ops (subst (λ (l : List ℕ). Spells l on.leads.ops) (sym same) on.leads.spelled)

fails_own : (tells : Bool) (stored : Stored) (reads : Image) (at : ℕ) (part : Part) (fault : JournalFault) → (IsTrue tells → IsGateOf stored reads at) → BehindFails tells at (reads stored.part) fault
    → GateFails tells (in_part part fault)
fails_own tells stored reads at part journal.Disk gate w = tt
fails_own tells stored reads at part journal.Full gate w = w
fails_own tells stored reads at part (journal.Damaged place) gate w = λ told.
    let h = gate told in
    let bytes = reads stored.part in
    sound_gate stored.format bytes h.before h.after stored.rows (gate_slot stored reads at h) (gate_gives stored reads at h)
    (subst (λ (n : ℕ). IsDamaged n bytes ⊎ ((payload : List ℕ) × IsRecord n payload bytes × ((ops : List Op) → Spells payload ops → ⊥))) h.place (w.1 told))
fails_own tells stored reads at part journal.NoMemory gate w = tt

pub gate_fails : (tells : Bool) (stored seen : Stored) (reads : Image) (at : ℕ) (part : Part) (fault : JournalFault) → seen ≡ stored → (IsTrue tells → IsGateOf stored reads at)
    → BehindFails tells at (reads seen.part) fault → GateFails tells (in_part part fault)
gate_fails tells stored seen reads at part fault e gate w = fails_own tells seen reads at part fault (λ told. subst (λ (s : Stored). IsGateOf s reads at) (sym e) (gate told)) w
