-- How far a shipping has come, from record to record.
use Rattle.std.proofs.Common.{◌≡◌, ℕ, ◌+◌, ◌==◌, ◌<◌, ◌≤◌, Bool, true, false, cond, List, [], ◌∷◌, ◌++◌, length, filter, Option, refl, sym, ap, ◌∙◌, subst, append_assoc, append-nil, length-append, arith}
use Rattle.std.specs.Prelude.{nat_le}
use Rattle.std.proofs.lemmas.Bool.{leb-true, le-leb, eqb-true}
use Rattle.std.specs.List.{AllByRecursion}
use Rattle.std.specs.Option.{unwrap_or}
use Rattle.ziti_outside.specs.declared.desk.Part.{Part}
use Rattle.ziti_outside.specs.declared.desk.Part.TheVariants.{Mark}
use Rattle.ziti_outside.specs.Images.{Image}
use Rattle.ctrl_model.specs.declared.formats.Format.{Format}
use Rattle.ctrl_model.specs.declared.formats.Format.TheVariants.{Two}
use Rattle.channel_frame.specs.declared.frames.Frame.{Frame}
use Rattle.journal_core.specs.Slots.{Slot, IsClosed, IsRecord, records_of, slot_end}
use Rattle.journal_core.proofs.SlotLaws.{one_at, closed_or_open, slot_closed, end-push}
use Rattle.slot_files.specs.FolderImage.{slot_of, Stands}
use Rattle.slot_files.proofs.StandLaws.{one_stands}
use Rattle.row_codec.specs.declared.changes.Op.{Op}
use Rattle.row_codec.specs.Batches.{batch_bytes, Spells}
use Rattle.slot_reading.specs.BatchRows.{ByteRows, Leads, Raises, LeadFrom, Give, rows_after}
use Rattle.slot_reading.proofs.SlotReadings.{records-append, next_stands, slot_front}
use Rattle.row_store.specs.GateBatches.{IsGateOf, IsBatchAt}
use Rattle.row_store.specs.StoredRows.{Stored, IsStoreOf}
use Rattle.row_store.proofs.OpeningLaws.{of_slot}
use Rattle.ship_core.specs.declared.records.Way.{Way}
use Rattle.ship_frames.specs.declared.shipments.Shipment.{Shipment}
use Rattle.ship_frames.specs.declared.shipments.Sort.{Sort}
use Rattle.ship_frames.specs.declared.shipments.Sort.TheVariants.{Whole, Next}
use Rattle.ship_frames.specs.Pieces.{frames_of_all}
use Rattle.ship_core.specs.Shipping.{ops_in, rows_behind, rows_behind_all, serial_or_none, shipments_from, is_from, chosen, shipped}
use Rattle.ship_core.specs.Steps.{serial_after, sort_at, shipment_of, frames_if, IsOnItsWay}
use Rattle.ship_core.proofs.OpsLaws.{ops_spelled, serial_leads}
use Rattle.ship_core.proofs.PieceLaws.{frames_go_on}

-- A batch of this sort and serial.
abbrev pub shipped_as : Sort → (serial : ℕ) → List ℕ → Shipment
shipped_as sort serial bytes = record { sort = sort; serial = serial; bytes = bytes }

-- ---- rows behind batches

-- The rows behind one batch more.
pub behind_push : (rows : ByteRows) (before : List (List ℕ)) (bytes : List ℕ) → rows_behind_all rows (before ++ bytes ∷ []) ≡ rows_behind (rows_behind_all rows before) bytes
behind_push rows [] bytes = refl
behind_push rows (first ∷ before) bytes = behind_push (rows_behind rows first) before bytes

-- What a batch leads to are the rows behind it.
pub led_behind : (rows next : ByteRows) (bytes : List ℕ) → Leads rows bytes next → rows_behind rows bytes ≡ next
led_behind rows next bytes l = ap (rows_after rows) (ops_spelled bytes l.ops l.spelled) ∙ sym l.after

pub led_behind_all : (f : Format) (rows : ByteRows) (batches : List (List ℕ)) (last : ByteRows) → LeadFrom f rows batches last → rows_behind_all rows batches ≡ last
led_behind_all f rows [] last l = sym l
led_behind_all f rows (bytes ∷ more) last l =
    ap (λ (r : ByteRows). rows_behind_all r more) (led_behind rows l.0 bytes l.1) ∙ led_behind_all f l.0 more last l.3

-- What batches give are the rows behind them.
pub given_behind : (f : Format) (batches : List (List ℕ)) (rows : ByteRows) → Give f batches rows → rows_behind_all [] batches ≡ rows
given_behind f [] rows g = sym g
given_behind f (bytes ∷ more) rows g =
    ap (λ (r : ByteRows). rows_behind_all r more) (led_behind [] g.0 bytes g.1) ∙ led_behind_all f g.0 more rows g.2

-- ---- serials rise

-- All of some shipments have at least a serial.
abbrev pub AreFrom : ℕ → List Shipment → Type 0
AreFrom n list = AllByRecursion (λ (s : Shipment). n ≤ s.serial) list

pub from_less : (n m : ℕ) (list : List Shipment) → n ≤ m → AreFrom m list → AreFrom n list
from_less n m [] le all = tt
from_less n m (s ∷ list) le all = ((let first = all.0 in omega (arith, le, first)), from_less n m list le all.1)

pub raised : (rows next : ByteRows) → Raises rows next → serial_or_none rows + 1 ≡ serial_or_none next
raised rows next r =
    let old : serial_or_none rows ≡ r.0 = ap (λ (o : Option ℕ). unwrap_or o 0) r.1 in
    let new : serial_or_none next ≡ r.0 + 1 = ap (λ (o : Option ℕ). unwrap_or o 0) r.2 in
    omega (arith, old, new)

pub rising : (sort : Sort) (rows last : ByteRows) (batches : List (List ℕ)) → LeadFrom Two rows batches last → AreFrom (serial_or_none rows) (shipments_from sort rows batches)
rising sort rows last [] l = tt
rising sort rows last (bytes ∷ more) l =
    let same : rows_behind rows bytes ≡ l.0 = led_behind rows l.0 bytes l.1 in
    let up = raised rows l.0 l.2 in
    let first : serial_or_none (rows_behind rows bytes) ≡ serial_or_none l.0 = ap serial_or_none same in
    let later : AreFrom (serial_or_none l.0) (shipments_from Next l.0 more) = rising Next l.0 last more l.3 in (
      omega (arith, up, first),
      subst (λ (r : ByteRows). AreFrom (serial_or_none rows) (shipments_from Next r more)) (sym same)
          (from_less (serial_or_none rows) (serial_or_none l.0) (shipments_from Next l.0 more) (omega (arith, up)) later),
    )

-- What is from a serial on is all of what has at least a later one.
pub all_pass : (from n : ℕ) (list : List Shipment) → nat_le from n ≡ true → AreFrom n list → filter (is_from from) list ≡ list
all_pass from n [] le all = refl
all_pass from n (s ∷ list) le all = by (is_from from s) refl (all_pass from n list le all.1)
  where
    passes : is_from from s ≡ true
    passes =
        let low = leb-true from n le in
        let first = all.0 in
        le-leb from s.serial (omega (arith, low, first))

    by : (b : Bool) → is_from from s ≡ b → filter (is_from from) list ≡ list → cond b (s ∷ filter (is_from from) list) (filter (is_from from) list) ≡ s ∷ list
    by true e rest = ap (λ (l : List Shipment). s ∷ l) rest
    by false e rest = let both : false ≡ true = sym e ∙ passes in absurd cc

-- What is chosen of the records of a slot that gives rows are those from the serial on.
pub chosen_from : (from : ℕ) (batches : List (List ℕ)) (rows : ByteRows) → Give Two batches rows
    → chosen from (shipments_from Whole [] batches) ≡ filter (is_from from) (shipments_from Whole [] batches)
chosen_from from [] rows g = refl
chosen_from from (bytes ∷ more) rows g = by (is_from from first) refl
  where
    first : Shipment
    first = record { sort = Whole; serial = serial_or_none (rows_behind [] bytes); bytes = bytes }

    later : List Shipment
    later = shipments_from Next (rows_behind [] bytes) more

    above : AreFrom (serial_or_none (rows_behind [] bytes)) later
    above = rising Next (rows_behind [] bytes) rows more (subst (λ (r : ByteRows). LeadFrom Two r more rows) (sym (led_behind [] g.0 bytes g.1)) g.2)

    by : (b : Bool) → is_from from first ≡ b → cond b (first ∷ later) (filter (is_from from) later) ≡ cond b (first ∷ filter (is_from from) later) (filter (is_from from) later)
    by true e = ap (λ (l : List Shipment). first ∷ l) (sym (all_pass from (serial_or_none (rows_behind [] bytes)) later e above))
    by false e = refl

-- ---- on the way

-- At the start nothing was said.
pub at_start : (reads : Image) (stored : Stored) (from : ℕ) (way : Way) → stored.format ≡ Two → IsStoreOf reads stored → way.at ≡ 8 → way.serial ≡ 0 → IsOnItsWay reads from way []
at_start reads stored from way format kept at serial =
    let stands : Stands Two reads kept.batches = subst (λ (f : Format). Stands f reads kept.batches) format kept.stands in
    let give : Give Two kept.batches stored.rows = subst (λ (f : Format). Give f kept.batches stored.rows) format kept.give in
    record {
      before = [];
      after = kept.batches;
      stands = stands;
      place = at;
      serial = serial;
      left = ap (λ (n : ℕ). frames_of_all 0 (filter (is_from from) (shipments_from (sort_at n) [] kept.batches))) at
          ∙ ap (frames_of_all 0) (sym (chosen_from from kept.batches stored.rows give));
    }

-- The slot that stands.
stood_slot : (reads : Image) (stored : Stored) (batches : List (List ℕ)) → 0 < stored.mark → IsStoreOf reads stored → Stands Two reads batches → Slot Two (reads stored.part) batches
stood_slot reads stored batches some kept stands =
    let begun : 0 < length (reads Mark) = subst (λ (m : ℕ). 0 < m) (sym kept.mark) some in
    let part : stored.part ≡ slot_of (length (reads Mark)) = kept.part ∙ ap slot_of (sym kept.mark) in
    subst (λ (q : Part). Slot Two (reads q) batches) (sym part) (of_slot (length (reads Mark)) Two reads batches begun stands)

-- The next gate of a shipping on its way is one of the store.
pub next_gate : (reads : Image) (stored : Stored) (from : ℕ) (way : Way) (frames : List Frame) → stored.format ≡ Two → 0 < stored.mark → IsStoreOf reads stored → IsOnItsWay reads from way frames
    → IsGateOf stored reads way.at
next_gate reads stored from way frames format some kept on = record {
  some = some;
  kept = kept;
  before = on.before;
  after = on.after;
  stands = subst (λ (f : Format). Stands f reads (on.before ++ on.after)) (sym format) on.stands;
  place = on.place;
}

-- No gate lies behind the last one.
gate_within : (before after : List (List ℕ)) → slot_end before ≤ slot_end (before ++ after)
gate_within before after =
    let whole : length (records_of (before ++ after)) ≡ length (records_of before) + length (records_of after) =
    ap length (records-append before after) ∙ length-append (records_of before) (records_of after) in
    omega (arith, whole)

-- Past the first gate there are Nexts.
pub sort_past : (next : ℕ) → 8 < next → sort_at next ≡ Next
sort_past next past = by (next == 8) refl
  where
    by : (b : Bool) → (next == 8) ≡ b → cond b Whole Next ≡ Next
    by true is = let same = eqb-true next 8 is in absurd (omega (arith, same, past))
    by false is = refl

-- A shipping that has come past one record more.
pub one_further : (reads : Image) (stored : Stored) (from : ℕ) (way next : Way) (frames : List Frame) (ops : List Op) → 0 < stored.mark → IsStoreOf reads stored
    → IsBatchAt (reads stored.part) way.at ops next.at → next.serial ≡ serial_after way.serial ops → IsOnItsWay reads from way frames
    → IsOnItsWay reads from next (frames ++ frames_if from (length frames) (shipment_of way ops))
one_further reads stored from way next frames ops some kept found serial on =
    by on.after on.stands on.left
  where
    rows : ByteRows
    rows = rows_behind_all [] on.before

    record_here : IsRecord (slot_end on.before) found.payload (reads stored.part)
    record_here = subst (λ (n : ℕ). IsRecord n found.payload (reads stored.part)) on.place found.stands

    by : (after : List (List ℕ)) → Stands Two reads (on.before ++ after)
        → frames ++ frames_of_all (length frames) (filter (is_from from) (shipments_from (sort_at way.at) rows after)) ≡ shipped from Two (on.before ++ after)
        → IsOnItsWay reads from next (frames ++ frames_if from (length frames) (shipment_of way ops))
    by [] stands left =
        let slot = stood_slot reads stored (on.before ++ []) some kept stands in
        let closed : IsClosed (slot_end on.before) (reads stored.part) =
        subst (λ (l : List (List ℕ)). IsClosed (slot_end l) (reads stored.part)) (append-nil on.before) (slot_closed Two (reads stored.part) (on.before ++ []) slot) in
        absurd (closed_or_open (slot_end on.before) found.payload (reads stored.part) closed record_here)
    by (bytes ∷ more) stands left =
        let slot = stood_slot reads stored (on.before ++ bytes ∷ more) some kept stands in
        let own = next_stands Two (reads stored.part) on.before bytes more (slot_front Two (reads stored.part) (on.before ++ bytes ∷ more) slot) in
        let same : found.payload ≡ bytes = one_at (slot_end on.before) found.payload bytes (reads stored.part) record_here own in
        let spells : Spells bytes ops = subst (λ (b : List ℕ). Spells b ops) same found.spells in
        let read : ops_in bytes ≡ ops = ops_spelled bytes ops spells in
        let told : next.serial ≡ serial_or_none (rows_behind rows bytes) =
        serial ∙ ap (λ (n : ℕ). serial_after n ops) on.serial ∙ sym (serial_leads rows ops spells.batch.rises) ∙ ap (λ (o : List Op). serial_or_none (rows_after rows o)) (sym read) in
        let number : serial_after way.serial ops ≡ serial_or_none (rows_behind rows bytes) = sym serial ∙ told in
        let shipment : shipment_of way ops ≡ shipped_as (sort_at way.at) (serial_or_none (rows_behind rows bytes)) bytes =
        ap (λ (n : ℕ). shipped_as (sort_at way.at) n (batch_bytes ops)) number
        ∙ ap (shipped_as (sort_at way.at) (serial_or_none (rows_behind rows bytes))) (sym spells.spelled) in
        let at : next.at ≡ slot_end (on.before ++ bytes ∷ []) =
        (let long = ap length same in let gate = end-push bytes on.before in let place = on.place in let behind = found.behind in omega (arith, long, gate, place, behind)) in
        let sort : sort_at next.at ≡ Next =
        (let place = on.place in let behind = found.behind in sort_past next.at (omega (arith, place, behind))) in
        let later : List Shipment = shipments_from Next (rows_behind rows bytes) more in
        let fresh : List Frame = frames_if from (length frames) (shipment_of way ops) in
        let parts : frames_of_all (length frames) (filter (is_from from) (shipment_of way ops ∷ later)) ≡ fresh ++ frames_of_all (length frames + length fresh) (filter (is_from from) later) =
        frames_go_on from (length frames) (shipment_of way ops) later in
        let rows_now : rows_behind_all [] (on.before ++ bytes ∷ []) ≡ rows_behind rows bytes = behind_push [] on.before bytes in
        let whole : (on.before ++ bytes ∷ []) ++ more ≡ on.before ++ bytes ∷ more = append_assoc on.before (bytes ∷ []) more in
        record {
          before = on.before ++ bytes ∷ [];
          after = more;
          stands = subst (Stands Two reads) (sym whole) stands;
          place = at;
          serial = told ∙ ap serial_or_none (sym rows_now);
          left =
              ap (λ (r : ByteRows). (frames ++ fresh) ++ frames_of_all (length (frames ++ fresh)) (filter (is_from from) (shipments_from (sort_at next.at) r more))) rows_now
              ∙ ap (λ (t : Sort). (frames ++ fresh) ++ frames_of_all (length (frames ++ fresh)) (filter (is_from from) (shipments_from t (rows_behind rows bytes) more))) sort
              ∙ ap (λ (n : ℕ). (frames ++ fresh) ++ frames_of_all n (filter (is_from from) later)) (length-append frames fresh)
              ∙ append_assoc frames fresh (frames_of_all (length frames + length fresh) (filter (is_from from) later))
              ∙ ap (λ (l : List Frame). frames ++ l) (sym parts)
              ∙ ap (λ (s : Shipment). frames ++ frames_of_all (length frames) (filter (is_from from) (s ∷ later))) shipment
              ∙ left ∙ ap (shipped from Two) (sym whole);
        }

-- The frames of the record behind the next gate are among those that are left.
pub among_left : (reads : Image) (from : ℕ) (way : Way) (frames : List Frame) (on : IsOnItsWay reads from way frames)
    → (more : List Frame) × (frames ++ ([] ++ more) ≡ shipped from Two (on.before ++ on.after))
among_left reads from way frames on = (frames_of_all (length frames) (filter (is_from from) (shipments_from (sort_at way.at) (rows_behind_all [] on.before) on.after)), on.left)

-- At the last gate nothing is left.
pub at_end : (reads : Image) (stored : Stored) (from : ℕ) (way : Way) (frames : List Frame) (batches : List (List ℕ)) → IsStoreOf reads stored → stored.format ≡ Two → stored.end ≤ way.at
    → Stands Two reads batches → IsOnItsWay reads from way frames → frames ≡ shipped from Two batches
at_end reads stored from way frames batches kept format late stands on = by on.after on.stands on.left
  where
    by : (after : List (List ℕ)) → Stands Two reads (on.before ++ after)
        → frames ++ frames_of_all (length frames) (filter (is_from from) (shipments_from (sort_at way.at) (rows_behind_all [] on.before) after)) ≡ shipped from Two (on.before ++ after)
        → frames ≡ shipped from Two batches
    by [] those left = sym (append-nil frames) ∙ left ∙ ap (shipped from Two) (one_stands Two Two reads (on.before ++ []) batches those stands).1
    by (bytes ∷ more) those left =
        let own : Stands Two reads kept.batches = subst (λ (f : Format). Stands f reads kept.batches) format kept.stands in
        let same : on.before ++ bytes ∷ more ≡ kept.batches = (one_stands Two Two reads (on.before ++ bytes ∷ more) kept.batches those own).1 in
        let whole : slot_end ((on.before ++ bytes ∷ []) ++ more) ≡ slot_end kept.batches = ap slot_end (append_assoc on.before (bytes ∷ []) more ∙ same) in
        let gate = end-push bytes on.before in
        let within = gate_within (on.before ++ bytes ∷ []) more in
        let place = on.place in
        let end = kept.end in
        absurd (omega (arith, whole, gate, within, place, end, late))
