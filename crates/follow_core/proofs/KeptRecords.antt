-- Where the kept record of a serial stands, and what is read there.
use Rattle.std.proofs.Common.{◌≡◌, ℕ, ◌+◌, ◌==◌, ◌<◌, ◌≤◌, Bool, true, false, cond, List, [], ◌∷◌, ◌++◌, length, Option, None, Some, refl, sym, ap, ◌∙◌, subst, append_assoc, append-nil, length-append, arith}
use Rattle.std.specs.Option.{unwrap_or, option_map}
use Rattle.std.proofs.lemmas.Bool.{eq-eqb, eqb-true}
use Rattle.ziti_outside.specs.declared.desk.Part.{Part}
use Rattle.ziti_outside.specs.declared.desk.Part.TheVariants.{Mark}
use Rattle.ziti_outside.specs.Images.{Image}
use Rattle.ctrl_model.specs.declared.formats.Format.{Format}
use Rattle.ctrl_model.specs.declared.formats.Format.TheVariants.{Two}
use Rattle.ship_frames.specs.declared.shipments.Sort.TheVariants.{Whole, Next}
use Rattle.journal_core.specs.Slots.{Slot, IsClosed, IsRecord, records_of, slot_end}
use Rattle.journal_core.proofs.SlotLaws.{one_at, closed_or_open, slot_closed, end-push}
use Rattle.slot_files.specs.FolderImage.{slot_of, Stands}
use Rattle.slot_files.proofs.StandLaws.{one_stands}
use Rattle.row_codec.specs.declared.changes.Op.{Op}
use Rattle.row_codec.specs.Batches.{batch_bytes, Spells}
use Rattle.row_codec.proofs.BatchLaws.{one_batch}
use Rattle.slot_reading.specs.BatchRows.{ByteRows, Raises, LeadFrom, Give, Leads, rows_after, serial_of}
use Rattle.slot_reading.proofs.SlotReadings.{records-append, next_stands, slot_front}
use Rattle.row_store.specs.GateBatches.{IsGateOf, IsBatchAt, GateHas}
use Rattle.row_store.specs.StoredRows.{Stored, IsStoreOf}
use Rattle.row_store.proofs.OpeningLaws.{of_slot}
use Rattle.follow_core.specs.declared.sought.Sought.{Sought}
use Rattle.follow_core.specs.Following.{record_of, kept_of}
use Rattle.follow_core.specs.FollowedCopies.{IsSoughtIn, AreSoughtIn, serial_in_store}

-- ---- serials of records

abbrev serial_or : ByteRows → ℕ
serial_or rows = unwrap_or (serial_of rows) 0

raised : (rows next : ByteRows) → Raises rows next → serial_or rows + 1 ≡ serial_or next
raised rows next r =
    let old : serial_or rows ≡ r.0 = ap (λ (o : Option ℕ). unwrap_or o 0) r.1 in
    let new : serial_or next ≡ r.0 + 1 = ap (λ (o : Option ℕ). unwrap_or o 0) r.2 in
    omega (arith, old, new)

-- Each record behind rows raises the serial by one.
pub counts_on : (rows last : ByteRows) (records : List (List ℕ)) → LeadFrom Two rows records last → serial_or rows + length records ≡ serial_or last
counts_on rows last [] l =
    let same : serial_or last ≡ serial_or rows = ap serial_or l in
    omega (arith, same)
counts_on rows last (bytes ∷ more) l =
    let up = raised rows l.0 l.2 in
    let rest = counts_on l.0 last more l.3 in
    omega (arith, up, rest)

-- ---- the record of a serial

not_equal : (a b : ℕ) → (a ≡ b → ⊥) → (a == b) ≡ false
not_equal a b other = by (a == b) refl
  where
    by : (t : Bool) → (a == b) ≡ t → (a == b) ≡ false
    by true e = absurd (other (eqb-true a b e))
    by false e = e

-- One that is older than all is not among them.
pub record_none : (serial own : ℕ) (records : List (List ℕ)) → serial + length records ≤ own → record_of serial own records ≡ None
record_none serial own [] old = refl
record_none serial own (bytes ∷ more) old =
    ap (λ (t : Bool). cond t (Some bytes) (record_of serial own more)) (not_equal (serial + length more) own (λ e. omega (arith, e, old)))
    ∙ record_none serial own more (omega (arith, old))

-- One with so many behind it is found.
pub record_found : (serial own : ℕ) (before : List (List ℕ)) (bytes : List ℕ) (more : List (List ℕ)) → serial + length more ≡ own
    → record_of serial own (before ++ bytes ∷ more) ≡ Some bytes
record_found serial own [] bytes more e = ap (λ (t : Bool). cond t (Some bytes) (record_of serial own more)) (eq-eqb (serial + length more) own e)
record_found serial own (first ∷ before) bytes more e =
    let long : length (before ++ bytes ∷ more) ≡ length before + length (bytes ∷ more) = length-append before (bytes ∷ more) in
    ap (λ (t : Bool). cond t (Some first) (record_of serial own (before ++ bytes ∷ more))) (not_equal (serial + length (before ++ bytes ∷ more)) own (λ f. omega (arith, e, f, long)))
    ∙ record_found serial own before bytes more e

-- How many records stand behind the first one.
count_of : (own : ℕ) (records : List (List ℕ)) (sought : Sought) (s : IsSoughtIn records own sought) → sought.first + length (s.before ++ s.after) ≡ own
count_of own records sought s =
    let long = length-append s.before s.after in
    let serial = s.serial in
    let first = s.first in
    omega (arith, long, serial, first)

-- The Whole that is kept is the first record, where it has the serial.
pub whole_kept : (serial own : ℕ) (records : List (List ℕ)) (sought : Sought) (s : IsSoughtIn records own sought) → serial ≡ sought.first → kept_of Whole serial own records ≡ Some s.whole
whole_kept serial own records sought s e =
    let count = count_of own records sought s in
    ap (kept_of Whole serial own) s.split
    ∙ ap (λ (t : Bool). cond t (Some s.whole) None) (eq-eqb (serial + length (s.before ++ s.after)) own (omega (arith, e, count)))

pub whole_absent : (serial own : ℕ) (records : List (List ℕ)) (sought : Sought) → IsSoughtIn records own sought → (serial ≡ sought.first → ⊥) → kept_of Whole serial own records ≡ None
whole_absent serial own records sought s other =
    let count = count_of own records sought s in
    ap (kept_of Whole serial own) s.split
    ∙ ap (λ (t : Bool). cond t (Some s.whole) None) (not_equal (serial + length (s.before ++ s.after)) own (λ e. other (omega (arith, e, count))))

-- No Next is kept of a serial up to that of the first record.
pub next_absent : (serial own : ℕ) (records : List (List ℕ)) (sought : Sought) → IsSoughtIn records own sought → serial ≤ sought.first → kept_of Next serial own records ≡ None
next_absent serial own records sought s old =
    let count = count_of own records sought s in
    ap (kept_of Next serial own) s.split ∙ record_none serial own (s.before ++ s.after) (omega (arith, old, count))

-- Behind the first record any other one is sought.
pub from_second : (records : List (List ℕ)) (own : ℕ) (sought : Sought) → IsSoughtIn records own sought
    → IsSoughtIn records own (record { first = sought.first; second = sought.second; at = sought.second; serial = sought.first })
from_second records own sought s = record {
  whole = s.whole;
  before = [];
  after = s.before ++ s.after;
  split = s.split;
  second = s.second;
  place = s.second;
  serial = count_of own records sought s;
  first = omega arith;
}

-- ---- gates

-- The slot that stands.
stood_slot : (reads : Image) (stored : Stored) (records : List (List ℕ)) → 0 < stored.mark → IsStoreOf reads stored → Stands Two reads records → Slot Two (reads stored.part) records
stood_slot reads stored records some kept stands =
    let begun : 0 < length (reads Mark) = subst (λ (m : ℕ). 0 < m) (sym kept.mark) some in
    let part : stored.part ≡ slot_of (length (reads Mark)) = kept.part ∙ ap slot_of (sym kept.mark) in
    subst (λ (q : Part). Slot Two (reads q) records) (sym part) (of_slot (length (reads Mark)) Two reads records begun stands)

-- The records of the folder of a store are those by which it is its store.
own_records : (reads : Image) (stored : Stored) (records : List (List ℕ)) → stored.format ≡ Two → (kept : IsStoreOf reads stored) → Stands Two reads records → kept.batches ≡ records
own_records reads stored records format kept stands =
    (one_stands Two Two reads kept.batches records (subst (λ (f : Format). Stands f reads kept.batches) format kept.stands) stands).1

-- Its closed gate stands behind them, and they give its rows.
pub end_of : (reads : Image) (stored : Stored) (records : List (List ℕ)) → stored.format ≡ Two → IsStoreOf reads stored → Stands Two reads records → stored.end ≡ slot_end records
end_of reads stored records format kept stands = kept.end ∙ ap slot_end (own_records reads stored records format kept stands)

pub give_of : (reads : Image) (stored : Stored) (records : List (List ℕ)) → stored.format ≡ Two → IsStoreOf reads stored → Stands Two reads records → Give Two records stored.rows
give_of reads stored records format kept stands =
    subst (λ (l : List (List ℕ)). Give Two l stored.rows) (own_records reads stored records format kept stands)
    (subst (λ (f : Format). Give f kept.batches stored.rows) format kept.give)

-- The gate between some records and the others is one of the store.
pub gate_at : (reads : Image) (stored : Stored) (before after : List (List ℕ)) (at : ℕ) → stored.format ≡ Two → 0 < stored.mark → IsStoreOf reads stored → Stands Two reads (before ++ after)
    → at ≡ slot_end before → IsGateOf stored reads at
gate_at reads stored before after at format some kept stands place = record {
  some = some;
  kept = kept;
  before = before;
  after = after;
  stands = subst (λ (f : Format). Stands f reads (before ++ after)) (sym format) stands;
  place = place;
}

-- The first gate is one.
pub first_gate : (reads : Image) (stored : Stored) → stored.format ≡ Two → 0 < stored.mark → IsStoreOf reads stored → IsGateOf stored reads 8
first_gate reads stored format some kept =
    gate_at reads stored [] kept.batches 8 format some kept (subst (λ (f : Format). Stands f reads kept.batches) format kept.stands) refl

-- And so is that behind which a record is sought.
pub sought_gate : (reads : Image) (stored : Stored) (records : List (List ℕ)) (own : ℕ) (sought : Sought) → stored.format ≡ Two → 0 < stored.mark → IsStoreOf reads stored
    → Stands Two reads records → IsSoughtIn records own sought → IsGateOf stored reads sought.at
sought_gate reads stored records own sought format some kept stands s =
    gate_at reads stored (s.whole ∷ s.before) s.after sought.at format some kept (subst (Stands Two reads) s.split stands) s.place

-- What is read at a gate with a record behind it is this record, and the next gate stands behind it.
pub record ReadsRecord (before : List (List ℕ)) (bytes : List ℕ) (found : Option (List Op × ℕ)) : Type 0 where
  pub ops : List Op
  pub next : ℕ
  pub is : found ≡ Some (ops, next)
  pub spells : Spells bytes ops
  pub place : next ≡ slot_end (before ++ bytes ∷ [])

end_grows : (before : List (List ℕ)) (bytes : List ℕ) (more : List (List ℕ)) → slot_end before + 5 ≤ slot_end (before ++ bytes ∷ more)
end_grows before bytes more =
    let whole : length (records_of ((before ++ bytes ∷ []) ++ more)) ≡ length (records_of (before ++ bytes ∷ [])) + length (records_of more) =
    ap length (records-append (before ++ bytes ∷ []) more) ∙ length-append (records_of (before ++ bytes ∷ [])) (records_of more) in
    let same : length (records_of ((before ++ bytes ∷ []) ++ more)) ≡ length (records_of (before ++ bytes ∷ more)) = ap (λ (l : List (List ℕ)). length (records_of l)) (append_assoc before (bytes ∷ []) more) in
    let gate = end-push bytes before in
    omega (arith, whole, same, gate)

pub reads_record : (reads : Image) (stored : Stored) (before : List (List ℕ)) (bytes : List ℕ) (more : List (List ℕ)) (at : ℕ) (found : Option (List Op × ℕ)) → stored.format ≡ Two → 0 < stored.mark
    → IsStoreOf reads stored → Stands Two reads (before ++ bytes ∷ more) → at ≡ slot_end before → GateHas stored reads at found → ReadsRecord before bytes found
reads_record reads stored before bytes more at None format some kept stands place has =
    let end = end_of reads stored (before ++ bytes ∷ more) format kept stands in
    let grows = end_grows before bytes more in
    absurd (omega (arith, end, grows, place, has))
reads_record reads stored before bytes more at (Some found) format some kept stands place has =
    let slot = stood_slot reads stored (before ++ bytes ∷ more) some kept stands in
    let own = next_stands Two (reads stored.part) before bytes more (slot_front Two (reads stored.part) (before ++ bytes ∷ more) slot) in
    let here : IsRecord (slot_end before) has.payload (reads stored.part) = subst (λ (n : ℕ). IsRecord n has.payload (reads stored.part)) place has.stands in
    let same : has.payload ≡ bytes = one_at (slot_end before) has.payload bytes (reads stored.part) here own in
    record {
      ops = found.0;
      next = found.1;
      is = refl;
      spells = subst (λ (b : List ℕ). Spells b found.0) same has.spells;
      place = (let long = ap length same in let gate = end-push bytes before in let behind = has.behind in omega (arith, long, gate, place, behind));
    }

-- ---- records that are read on the way

-- What is read at the gate behind which a record is sought, where there is one: the record of the next serial, and where the one behind it is sought.
pub record PassesOne (records : List (List ℕ)) (own : ℕ) (sought : Sought) (found : Option (List Op × ℕ)) : Type 0 where
  pub ops : List Op
  pub next : ℕ
  pub is : found ≡ Some (ops, next)
  pub kept : (serial : ℕ) → serial ≡ sought.serial + 1 → kept_of Next serial own records ≡ Some (batch_bytes ops)
  pub behind : (then : Sought) → then.first ≡ sought.first → then.second ≡ sought.second → then.at ≡ next → then.serial ≡ sought.serial + 1 → IsSoughtIn records own then

pub passes_one : (reads : Image) (stored : Stored) (records : List (List ℕ)) (own : ℕ) (sought : Sought) (found : Option (List Op × ℕ)) → stored.format ≡ Two → 0 < stored.mark → IsStoreOf reads stored
    → Stands Two reads records → IsSoughtIn records own sought → sought.serial < own → GateHas stored reads sought.at found → PassesOne records own sought found
passes_one reads stored records own sought found format some kept stands s below has = by s.after s.split s.serial
  where
    by : (after : List (List ℕ)) → records ≡ s.whole ∷ (s.before ++ after) → sought.serial + length after ≡ own → PassesOne records own sought found
    by [] split serial = absurd (omega (arith, serial, below))
    by (bytes ∷ more) split serial =
        let r = reads_record reads stored (s.whole ∷ s.before) bytes more sought.at found format some kept (subst (Stands Two reads) split stands) s.place has in
        record {
          ops = r.ops;
          next = r.next;
          is = r.is;
          kept = λ n e.
              ap (kept_of Next n own) split ∙ record_found n own s.before bytes more (omega (arith, e, serial)) ∙ ap (λ (b : List ℕ). Some b) r.spells.spelled;
          behind = λ then first second at told. record {
            whole = s.whole;
            before = s.before ++ bytes ∷ [];
            after = more;
            split = split ∙ ap (λ (l : List (List ℕ)). s.whole ∷ l) (sym (append_assoc s.before (bytes ∷ []) more));
            second = second ∙ s.second;
            place = at ∙ r.place;
            serial = omega (arith, told, serial);
            first =
                (let long = length-append s.before (bytes ∷ []) in let was = s.first in omega (arith, long, was, first, told));
          };
        }

-- What is read at the first gate is the first record.
pub first_kept : (reads : Image) (stored : Stored) (records : List (List ℕ)) (own : ℕ) (sought : Sought) (found : Option (List Op × ℕ)) → stored.format ≡ Two → 0 < stored.mark → IsStoreOf reads stored
    → Stands Two reads records → (s : IsSoughtIn records own sought) → GateHas stored reads 8 found → ReadsRecord [] s.whole found
first_kept reads stored records own sought found format some kept stands s has =
    reads_record reads stored [] s.whole (s.before ++ s.after) 8 found format some kept (subst (Stands Two reads) s.split stands) refl has

counted : (serial first s n own : ℕ) → serial ≡ first → first ≡ s → s + n ≡ own → serial + n ≡ own
counted serial first s n own e f g = omega (arith, e, f, g)

first_rows : (ops : List Op) (whole : List ℕ) (rows : ByteRows) → Spells whole ops → Leads [] whole rows → serial_or (rows_after [] ops) ≡ serial_or rows
first_rows ops whole rows spells l = ap (λ (os : List Op). serial_or (rows_after [] os)) (one_batch whole ops l.ops spells l.spelled) ∙ ap serial_or (sym l.after)

-- It tells where the records behind it are sought.
abbrev TellsFirst : List (List ℕ) → (own : ℕ) → List Op × ℕ → Type 0
TellsFirst records own found =
    (then : Sought) → then.first ≡ serial_or (rows_after [] found.0) → then.second ≡ found.1 → then.at ≡ found.1 → then.serial ≡ then.first → IsSoughtIn records own then

first_of : (reads : Image) (stored : Stored) (records : List (List ℕ)) (found : List Op × ℕ) → stored.format ≡ Two → 0 < stored.mark → IsStoreOf reads stored → (stored.end ≡ 8 → ⊥)
    → GateHas stored reads 8 (Some found) → Stands Two reads records → stored.end ≡ slot_end records → Give Two records stored.rows → TellsFirst records (serial_in_store stored) found
first_of reads stored [] found format some kept begun has stands end give then first second at told = absurd (begun end)
first_of reads stored (whole ∷ more) found format some kept begun has stands end give then first second at told =
    let r = reads_record reads stored [] whole more 8 (Some found) format some kept stands refl has in
    let next : found.1 ≡ slot_end (whole ∷ []) = ap (second_in found.1) r.is ∙ r.place in
    let ops : found.0 ≡ r.ops = ap (first_in found.0) r.is in
    let count = counts_on give.0 stored.rows more give.2 in
    let own : serial_or (rows_after [] found.0) ≡ serial_or give.0 = ap (λ (os : List Op). serial_or (rows_after [] os)) ops ∙ first_rows r.ops whole give.0 r.spells give.1 in
    record {
      whole = whole;
      before = [];
      after = more;
      split = refl;
      second = second ∙ next;
      place = at ∙ next;
      serial = counted then.serial then.first (serial_or give.0) (length more) (serial_in_store stored) told (first ∙ own) count;
      first = omega (arith, told);
    }
  where
    second_in : ℕ → Option (List Op × ℕ) → ℕ
    second_in n None = n
    second_in n (Some x) = x.1

    first_in : List Op → Option (List Op × ℕ) → List Op
    first_in os None = os
    first_in os (Some x) = x.0

pub reads_first : (reads : Image) (stored : Stored) (records : List (List ℕ)) (found : List Op × ℕ) → stored.format ≡ Two → 0 < stored.mark → IsStoreOf reads stored → Stands Two reads records
    → (stored.end ≡ 8 → ⊥) → GateHas stored reads 8 (Some found) → (then : Sought) → then.first ≡ serial_or (rows_after [] found.0) → then.second ≡ found.1 → then.at ≡ found.1
    → then.serial ≡ then.first → IsSoughtIn records (serial_in_store stored) then
reads_first reads stored records found format some kept stands begun has =
    first_of reads stored records found format some kept begun has stands (end_of reads stored records format kept stands) (give_of reads stored records format kept stands)

-- The first record is the Whole that is kept of its serial.
pub whole_read : (reads : Image) (stored : Stored) (records : List (List ℕ)) (own serial : ℕ) (sought : Sought) (found : List Op × ℕ) → stored.format ≡ Two → 0 < stored.mark → IsStoreOf reads stored
    → Stands Two reads records → IsSoughtIn records own sought → serial ≡ sought.first → GateHas stored reads 8 (Some found) → Some (batch_bytes found.0) ≡ kept_of Whole serial own records
whole_read reads stored records own serial sought found format some kept stands s e has =
    let r = first_kept reads stored records own sought (Some found) format some kept stands s has in
    ap (option_map (λ (x : List Op × ℕ). batch_bytes x.0)) r.is ∙ ap (λ (b : List ℕ). Some b) (sym r.spells.spelled) ∙ sym (whole_kept serial own records sought s e)

-- Where it is read there is one.
pub whole_none : (reads : Image) (stored : Stored) (records : List (List ℕ)) (own : ℕ) (sought : Sought) → stored.format ≡ Two → 0 < stored.mark → IsStoreOf reads stored
    → Stands Two reads records → IsSoughtIn records own sought → GateHas stored reads 8 None → ⊥
whole_none reads stored records own sought format some kept stands s has =
    let r = first_kept reads stored records own sought None format some kept stands s has in
    let both : ◌≡◌ {A = Option (List Op × ℕ)} None (Some (r.ops, r.next)) = r.is in
    cc

-- A later record of a serial.
pub next_read : (reads : Image) (stored : Stored) (records : List (List ℕ)) (own serial : ℕ) (sought : Sought) (found : List Op × ℕ) → stored.format ≡ Two → 0 < stored.mark → IsStoreOf reads stored
    → Stands Two reads records → IsSoughtIn records own sought → sought.serial + 1 ≡ serial → serial ≤ own → GateHas stored reads sought.at (Some found)
    → (Some (batch_bytes found.0) ≡ kept_of Next serial own records)
    × IsSoughtIn records own (record { first = sought.first; second = sought.second; at = found.1; serial = serial })
next_read reads stored records own serial sought found format some kept stands s next upto has =
    let p = passes_one reads stored records own sought (Some found) format some kept stands s (omega (arith, next, upto)) has in (
      ap (option_map (λ (x : List Op × ℕ). batch_bytes x.0)) p.is ∙ sym (p.kept serial (sym next)),
      p.behind _ refl refl (ap (second_of found.1) p.is) (sym next),
    )
  where
    second_of : ℕ → Option (List Op × ℕ) → ℕ
    second_of n None = n
    second_of n (Some x) = x.1

pub next_none : (reads : Image) (stored : Stored) (records : List (List ℕ)) (own serial : ℕ) (sought : Sought) → stored.format ≡ Two → 0 < stored.mark → IsStoreOf reads stored
    → Stands Two reads records → IsSoughtIn records own sought → sought.serial + 1 ≡ serial → serial ≤ own → GateHas stored reads sought.at None → ⊥
next_none reads stored records own serial sought format some kept stands s next upto has =
    let p = passes_one reads stored records own sought None format some kept stands s (omega (arith, next, upto)) has in
    let both : ◌≡◌ {A = Option (List Op × ℕ)} None (Some (p.ops, p.next)) = p.is in
    cc

-- A gate behind which a record is sought is one still where the folder reads as before.
pub gate_later : (reads now : Image) (stored : Stored) (sought : Sought) → stored.format ≡ Two → 0 < stored.mark → IsStoreOf reads stored → now ≡ reads
    → ((records : List (List ℕ)) → Stands Two reads records → IsSoughtIn records (serial_in_store stored) sought) → IsGateOf stored now sought.at
gate_later reads now stored sought format some kept same s =
    let stands = subst (λ (f : Format). Stands f reads kept.batches) format kept.stands in
    subst (λ (i : Image). IsGateOf stored i sought.at) (sym same) (sought_gate reads stored kept.batches (serial_in_store stored) sought format some kept stands (s kept.batches stands))
