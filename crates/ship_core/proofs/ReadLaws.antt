-- Batches that are read one by one, whatever the folder reads.
use Rattle.std.proofs.Common.{◌≡◌, ℕ, ◌+◌, ◌<◌, Bool, List, [], ◌∷◌, ◌++◌, length, filter, Some, None, Err, refl, sym, ap, ◌∙◌, subst, append_assoc, append-nil, length-append, arith}
use Rattle.std.proofs.lemmas.List.Elements.{filter-append}
use Rattle.ziti_outside.specs.Views.{Seen, Stopped}
use Rattle.ctrl_model.specs.declared.formats.Format.TheVariants.{Two}
use Rattle.channel_frame.specs.declared.frames.Frame.{Frame}
use Rattle.row_codec.specs.declared.changes.Op.{Op}
use Rattle.row_codec.specs.Batches.{batch_bytes, IsBatch, Spells}
use Rattle.row_laws.proofs.RisingRows.{All-append}
use Rattle.slot_reading.specs.BatchRows.{ByteRows, rows_after}
use Rattle.ship_core.specs.declared.faults.ShipFault.{ShipFault}
use Rattle.ship_core.specs.declared.records.Way.{Way}
use Rattle.ship_frames.specs.declared.shipments.Shipment.{Shipment}
use Rattle.ship_frames.specs.declared.shipments.Sort.{Sort}
use Rattle.ship_frames.specs.declared.shipments.Sort.TheVariants.{Whole, Next}
use Rattle.ship_frames.specs.Pieces.{piece_count, frames_of, frames_of_all}
use Rattle.ship_core.specs.Shipping.{rows_behind, rows_behind_all, serial_or_none, shipments_from, shipments, is_from, AreSpelled}
use Rattle.ship_core.specs.Steps.{ShipsFrames, Passes, leg_of, HasRead, serial_after, sort_at, sort_behind, shipment_of, frames_if}
use Rattle.ship_core.proofs.OpsLaws.{ops_spelled, serial_leads}
use Rattle.ship_frames.proofs.PieceLaws.{frames_count}
use Rattle.ship_core.proofs.PieceLaws.{frames_go_on}
use Rattle.ship_core.proofs.SaidLaws.{ShipsFrames-then, ships_same}
use Rattle.ship_core.proofs.WayLaws.{shipped_as, behind_push, sort_past}

-- ---- one batch more

-- Behind a Next comes a Next.
next_behind : (batches : List (List ℕ)) → sort_behind Next batches ≡ Next
next_behind [] = refl
next_behind (bytes ∷ more) = refl

-- And so behind one batch more.
sort_push : (first : Sort) (batches : List (List ℕ)) (bytes : List ℕ) → sort_behind first (batches ++ bytes ∷ []) ≡ Next
sort_push first [] bytes = refl
sort_push first (x ∷ more) bytes = refl

-- Batches in two parts, as they are shipped.
pub shipments_append : (first : Sort) (rows : ByteRows) (these those : List (List ℕ)) → shipments_from first rows (these ++ those)
    ≡ shipments_from first rows these ++ shipments_from (sort_behind first these) (rows_behind_all rows these) those
shipments_append first rows [] those = refl
shipments_append first rows (x ∷ more) those =
    let here = rows_behind rows x in
    ap (λ (l : List Shipment). shipped_as first (serial_or_none here) x ∷ l)
    (shipments_append Next here more those
    ∙ ap (λ (t : Sort). shipments_from Next here more ++ shipments_from t (rows_behind_all here more) those) (next_behind more))

-- The frames of some batches, and of those behind them.
frames_append : (place : ℕ) (these those : List Shipment) → frames_of_all place (these ++ those) ≡ frames_of_all place these ++ frames_of_all (place + length (frames_of_all place these)) those
frames_append place [] those = let same : place ≡ place + 0 = omega arith in ap (λ (n : ℕ). frames_of_all n those) same
frames_append place (s ∷ these) those =
    let own = frames_of place s in
    let next = place + piece_count s.bytes in
    let rest = frames_of_all next these in
    let many : length own ≡ piece_count s.bytes = frames_count place s 0 (piece_count s.bytes) in
    let long : length (own ++ rest) ≡ length own + length rest = length-append own rest in
    let behind : next + length rest ≡ place + length (own ++ rest) = far place (piece_count s.bytes) (length own) (length rest) (length (own ++ rest)) many long in
    ap (λ (l : List Frame). own ++ l) (frames_append next these those)
    ∙ sym (append_assoc own rest (frames_of_all (next + length rest) those))
    ∙ ap (λ (n : ℕ). (own ++ rest) ++ frames_of_all n those) behind
  where
    far : (p n a b c : ℕ) → a ≡ n → c ≡ a + b → p + n + b ≡ p + c
    far p n a b c e f = omega (arith, e, f)

-- Each of one batch more is spelled.
pub spelled_push : (batches : List (List ℕ)) (bytes : List ℕ) (ops : List Op) → Spells bytes ops → AreSpelled batches → AreSpelled (batches ++ bytes ∷ [])
spelled_push batches bytes ops s all = All-append (λ (b : List ℕ). (o : List Op) × Spells b o) batches (bytes ∷ []) all ((ops, s), tt)

-- ---- what was read

-- Nothing was read at the start.
pub read_none : (from : ℕ) (way : Way) → way.at ≡ 8 → way.serial ≡ 0 → HasRead from way []
read_none from way at serial = record { batches = []; spelled = tt; low = omega (arith, at); sort = ap sort_at at; serial = serial; said = refl }

-- The serial behind a batch that was read.
serial_read : (from : ℕ) (way : Way) (frames : List Frame) (ops : List Op) → IsBatch ops → (read : HasRead from way frames)
    → serial_after way.serial ops ≡ serial_or_none (rows_behind (rows_behind_all [] read.batches) (batch_bytes ops))
serial_read from way frames ops batch read =
    let rows = rows_behind_all [] read.batches in
    ap (λ (n : ℕ). serial_after n ops) read.serial ∙ sym (serial_leads rows ops batch.rises)
    ∙ ap (λ (o : List Op). serial_or_none (rows_after rows o)) (sym (ops_spelled (batch_bytes ops) ops (record { batch = batch; spelled = refl })))

-- The frames with those of one batch more.
pub read_more : (from : ℕ) (way : Way) (frames : List Frame) (ops : List Op) → IsBatch ops → (read : HasRead from way frames)
    → frames ++ frames_if from (length frames) (shipment_of way ops) ≡ frames_of_all 0 (filter (is_from from) (shipments Two (read.batches ++ batch_bytes ops ∷ [])))
read_more from way frames ops batch read =
    ap (λ (s : Shipment). frames ++ frames_if from (length frames) s) own
    ∙ ap (λ (l : List Frame). frames ++ l) (sym (append-nil (frames_if from (length frames) last)) ∙ sym (frames_go_on from (length frames) last []))
    ∙ ap (λ (n : ℕ). frames ++ frames_of_all n (filter (is_from from) (last ∷ []))) zero
    ∙ ap (λ (l : List Frame). l ++ frames_of_all (0 + length l) (filter (is_from from) (last ∷ []))) read.said
    ∙ sym (frames_append 0 (filter (is_from from) these) (filter (is_from from) (last ∷ [])))
    ∙ ap (frames_of_all 0) (sym (filter-append (is_from from) these (last ∷ [])) ∙ ap (filter (is_from from)) (sym (shipments_append Whole [] read.batches (bytes ∷ []))))
  where
    bytes : List ℕ
    bytes = batch_bytes ops

    these : List Shipment
    these = shipments Two read.batches

    serial : ℕ
    serial = serial_or_none (rows_behind (rows_behind_all [] read.batches) bytes)

    last : Shipment
    last = shipped_as (sort_behind Whole read.batches) serial bytes

    own : shipment_of way ops ≡ last
    own = ap (λ (n : ℕ). shipped_as (sort_at way.at) n bytes) (serial_read from way frames ops batch read) ∙ ap (λ (t : Sort). shipped_as t serial bytes) read.sort

    zero : length frames ≡ 0 + length frames
    zero = omega arith

-- One batch more was read.
pub read_further : (from : ℕ) (way next : Way) (frames : List Frame) (ops : List Op) → IsBatch ops → way.at < next.at → next.serial ≡ serial_after way.serial ops
    → HasRead from way frames → HasRead from next (frames ++ frames_if from (length frames) (shipment_of way ops))
read_further from way next frames ops batch further serial read =
    let low = read.low in
    let bytes = batch_bytes ops in
    record {
      batches = read.batches ++ bytes ∷ [];
      spelled = spelled_push read.batches bytes ops (record { batch = batch; spelled = refl }) read.spelled;
      low = omega (arith, low, further);
      sort = sort_past next.at (omega (arith, low, further)) ∙ sym (sort_push Whole read.batches bytes);
      serial = serial ∙ serial_read from way frames ops batch read ∙ ap serial_or_none (sym (behind_push [] read.batches bytes));
      said = read_more from way frames ops batch read;
    }

-- ---- what was said of it

-- A record was passed.
pub read_passed : (from : ℕ) (way next : Way) (frames all : List Frame) (ops : List Op) → IsBatch ops
    → all ≡ frames_if from (length frames) (shipment_of way ops) → way.at < next.at → next.serial ≡ serial_after way.serial ops → HasRead from way frames → HasRead from next (frames ++ all)
read_passed from way next frames all ops batch made further serial read =
    subst (λ (l : List Frame). HasRead from next (frames ++ l)) (sym made) (read_further from way next frames ops batch further serial read)

-- A record was not passed.
pub read_fails : {D : Type 0} {seen : D → Seen} {stopped : D → Stopped} {old mid new : D} (tells : Bool) (from : ℕ) (way : Way) (frames : List Frame) (fault : ShipFault)
    → HasRead from way frames → ShipsFrames seen stopped old mid None frames → Passes tells seen stopped (leg_of from way frames) mid new (Err fault)
    → (batches : List (List ℕ)) × AreSpelled batches × ShipsFrames seen stopped old new (Some fault) (frames_of_all 0 (filter (is_from from) (shipments Two batches)))
read_fails tells from way frames fault read before p =
    let bytes = batch_bytes p.ops in (
      read.batches ++ bytes ∷ [],
      spelled_push read.batches bytes p.ops (record { batch = p.batch; spelled = refl }) read.spelled,
      ships_same (frames ++ p.all) _ (ap (λ (l : List Frame). frames ++ l) p.made ∙ read_more from way frames p.ops p.batch read) (ShipsFrames-then (Some fault) before p.ships),
    )
