-- A byte 0 where a slot breaks off ends it there.
use Rattle.std.proofs.Common.{◌≡◌, inl, inr, ℕ, zero, suc, ◌+◌, ◌<◌, List, ◌∷◌, ◌++◌, length, take, drop, sym, ap, ◌∙◌, subst, arith, append_assoc, length-append}
use Rattle.std.proofs.lemmas.List.{take_at}
use Rattle.ziti_outside.specs.declared.desk.Part.{Part}
use Rattle.ziti_outside.specs.declared.desk.Part.TheVariants.{Mark}
use Rattle.ziti_outside.specs.Images.{Image}
use Rattle.ctrl_model.specs.declared.formats.Format.{Format}
use Rattle.journal_core.specs.Slots.{Slot, SlotFront, header, records_of, slot_end}
use Rattle.slot_files.specs.FolderImage.{StandsBy, slot_of}
use Rattle.slot_reading.specs.BatchRows.{ByteRows}
use Rattle.row_store.specs.OpenedRows.{IsBroken, IsDamagedAt, OpensTo}
use Rattle.folder_findings.specs.Spans.{with_byte}

-- The front of a slot is one with a closed gate behind it.
closed_front : (f : Format) (bytes : List ℕ) (payloads : List (List ℕ)) → SlotFront f bytes payloads → Slot f (with_byte (slot_end payloads) 0 bytes) payloads
closed_front f bytes payloads s =
    let end = slot_end payloads in
    let before = header f ++ records_of payloads in
    let more = drop (end + 1) bytes in
    let split : bytes ≡ before ++ s.more = s.split ∙ sym (append_assoc (header f) (records_of payloads) s.more) in
    let long : length before ≡ end = length-append (header f) (records_of payloads) in
    let front : take end bytes ≡ before = ap (λ (l : List ℕ). take end l) split ∙ take_at before s.more end long in
    record {
      gate = 0;
      more = more;
      split = ap (λ (l : List ℕ). l ++ 0 ∷ more) front ∙ append_assoc (header f) (records_of payloads) (0 ∷ more);
      closed = λ (e : 0 ≡ 1). omega arith;
      short = s.short;
    }

-- A slot that a mark names stands.
stands_named : (mark : ℕ) (f : Format) (image : Image) (payloads : List (List ℕ)) → 0 < mark → Slot f (image (slot_of mark)) payloads → StandsBy mark f image payloads
stands_named zero f image payloads some slot = absurd (omega arith)
stands_named (suc turn) f image payloads some slot = slot

pub leads_back : (old new : Image) (part : Part) (at : ℕ) → IsDamagedAt old part at → 0 < at → length (new Mark) ≡ length (old Mark) → new part ≡ with_byte at 0 (old part)
    → (format : Format) × ((rows : ByteRows) × OpensTo format new rows)
leads_back old new part at damaged behind mark same = by damaged.cause
  where
    by : IsBroken (old part) at → (format : Format) × ((rows : ByteRows) × OpensTo format new rows)
    by (inl header) = let none : at ≡ 0 = header.place in absurd (omega arith)
    by (inr (f, broken)) =
        let read = broken.read in
        let payloads = read.payloads in
        let ended : Slot f (with_byte at 0 (old part)) payloads = subst (λ (k : ℕ). Slot f (with_byte k 0 (old part)) payloads) (sym read.place) (closed_front f (old part) payloads read.front) in
        let here : Slot f (new part) payloads = subst (λ (l : List ℕ). Slot f l payloads) (sym same) ended in
        let named : Slot f (new (slot_of (length (new Mark)))) payloads = subst (λ (p : Part). Slot f (new p) payloads) (damaged.named ∙ ap slot_of (sym mark)) here in
        let some : 0 < length (new Mark) = subst (λ (k : ℕ). 0 < k) (sym mark) damaged.some in
        (f, (broken.rows, record { batches = payloads; stands = stands_named (length (new Mark)) f new payloads some named; give = read.give }))
