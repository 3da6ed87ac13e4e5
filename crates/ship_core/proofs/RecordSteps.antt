-- The records of a folder, shipped one by one.
use Rattle.std.proofs.Common.{◌≡◌, ℕ, ◌+◌, ◌%◌, ◌^◌, ◌<◌, ◌≤◌, Bool, true, false, cond, IsTrue, IsErrOf, IfOk, List, [], ◌++◌, length, Option, None, Some, Ok, Err, refl, sym, ap, ◌∙◌, subst, append_assoc, arith, filter}
use Rattle.std.specs.Prelude.{nat_le}
use Rattle.std.specs.declared.result.Result.{Result}
use Rattle.std.proofs.lemmas.Bool.{leb-true, le-leb}
use Rattle.std.proofs.lemmas.Result.{IfOk-weaker}
use Rattle.ziti_outside.specs.Causes.{HasCause}
use Rattle.ziti_outside.specs.Images.{Image}
use Rattle.ziti_outside.specs.Untouched.{OnlyReads}
use Rattle.ziti_outside.specs.Views.{Seen, Stopped}
use Rattle.ctrl_model.specs.declared.formats.Format.TheVariants.{Two}
use Rattle.channel_frame.specs.declared.frames.Frame.{Frame}
use Rattle.slot_files.specs.FolderImage.{Stands}
use Rattle.slot_files.proofs.StandLaws.{one_stands}
use Rattle.row_codec.specs.declared.changes.Op.{Op}
use Rattle.row_codec.specs.Batches.{batch_bytes, IsBatch}
use Rattle.row_store.specs.GateBatches.{IsBatchAt}
use Rattle.row_store.specs.StoredRows.{Stored, IsStoreOf}
use Rattle.ship_core.specs.declared.faults.ShipFault.{ShipFault}
use Rattle.ship_core.specs.declared.faults.ShipFault.TheVariants.{Write}
use Rattle.ship_core.specs.declared.records.Way.{Way}
use Rattle.ship_frames.specs.declared.shipments.Shipment.{Shipment}
use Rattle.ship_core.specs.Faults.{fault_of, disk_failure}
use Rattle.ship_frames.specs.Pieces.{piece_count, frames_of, frames_of_all}
use Rattle.ship_core.specs.Shipping.{is_from, shipments_from, rows_behind_all, shipped}
use Rattle.ship_core.specs.Steps.{ShipsFrames, IsOnItsWay, Passes, leg_of, serial_after, sort_at, shipment_of, frames_if}
use Rattle.ship_frames.proofs.PieceLaws.{frames_count}
use Rattle.ship_core.proofs.SaidLaws.{nothing_done, reads_ships, ShipsFrames-then, ShipsFrames-wider}
use Rattle.ship_core.proofs.WayLaws.{shipped_as, one_further, among_left, at_end}

-- ---- whether a batch is shipped

-- Of an earlier serial nothing is.
no_frames : (from place : ℕ) (s : Shipment) → s.serial < from → frames_if from place s ≡ []
no_frames from place s early = by (nat_le from s.serial) refl
  where
    by : (b : Bool) → nat_le from s.serial ≡ b → cond b (frames_of place s) [] ≡ []
    by true e = let low = leb-true from s.serial e in absurd (omega (arith, low, early))
    by false e = refl

-- Of this serial or a later one all pieces are.
all_frames : (from place : ℕ) (s : Shipment) → from ≤ s.serial → frames_if from place s ≡ frames_of place s
all_frames from place s late = ap (λ (b : Bool). cond b (frames_of place s) []) (le-leb from s.serial late)

pub passed_over : {D : Type 0} {seen : D → Seen} {stopped : D → Stopped} (desk : D) (from place : ℕ) (s : Shipment) → s.serial < from
    → ShipsFrames seen stopped desk desk None (frames_if from place s)
passed_over {seen = seen} {stopped = stopped} desk from place s early =
    subst (λ (l : List Frame). ShipsFrames seen stopped desk desk None l) (sym (no_frames from place s early)) (nothing_done desk)

pub sequence_over : (from place sequence : ℕ) (s : Shipment) → s.serial < from → sequence ≡ place % 2 ^ 32 → sequence ≡ (place + length (frames_if from place s)) % 2 ^ 32
sequence_over from place sequence s early e =
    let none = ap length (no_frames from place s early) in
    let same : place ≡ place + length (frames_if from place s) = omega (arith, none) in
    e ∙ ap (λ (n : ℕ). n % 2 ^ 32) same

pub said_pieces : {D : Type 0} {seen : D → Seen} {stopped : D → Stopped} {old new : D} (from place : ℕ) (s made : Shipment) (fault : Option ShipFault) → made ≡ s → from ≤ s.serial
    → ShipsFrames seen stopped old new fault (frames_of place made) → ShipsFrames seen stopped old new fault (frames_if from place s)
said_pieces {seen = seen} {stopped = stopped} {old = old} {new = new} from place s made fault is late said =
    subst (λ (l : List Frame). ShipsFrames seen stopped old new fault l) (ap (frames_of place) is ∙ sym (all_frames from place s late)) said

pub sequence_behind : (from place next : ℕ) (s made : Shipment) → made ≡ s → from ≤ s.serial → next ≡ (place + piece_count made.bytes) % 2 ^ 32
    → next ≡ (place + length (frames_if from place s)) % 2 ^ 32
sequence_behind from place next s made is late e =
    let count : piece_count made.bytes ≡ length (frames_if from place s) =
    ap (λ (x : Shipment). piece_count x.bytes) is ∙ sym (frames_count place s 0 (piece_count s.bytes)) ∙ ap length (sym (all_frames from place s late)) in
    e ∙ ap (λ (n : ℕ). (place + n) % 2 ^ 32) count

-- What was made of a batch that was read on the way is what it is shipped as.
pub read_shipment : (way : Way) (ops : List Op) (serial : ℕ) → serial ≡ serial_after way.serial ops → shipped_as (sort_at way.at) serial (batch_bytes ops) ≡ shipment_of way ops
read_shipment way ops serial e = ap (λ (n : ℕ). shipped_as (sort_at way.at) n (batch_bytes ops)) e

-- ---- past one record

-- A batch without operations has no frames.
no_pieces : (from place : ℕ) (way : Way) → frames_if from place (shipment_of way []) ≡ []
no_pieces from place way = by (is_from from (shipment_of way []))
  where
    by : (b : Bool) → cond b (frames_of place (shipment_of way [])) [] ≡ []
    by true = refl
    by false = refl

-- The record was not read.
pub not_read : {D : Type 0} {seen : D → Seen} {stopped : D → Stopped} {old new : D} (tells : Bool) (from : ℕ) (way : Way) (frames : List Frame) (fault : ShipFault)
    → (Some fault ≡ Some Write → ⊥) → OnlyReads seen stopped old new → HasCause (seen old).disk_faults (seen new).disk_faults (disk_failure (Some fault))
    → Passes tells seen stopped (leg_of from way frames) old new (Err fault)
not_read {seen = seen} {old = old} tells from way frames fault unwritten r cause = record {
  all = [];
  ops = [];
  batch = record { rises = tt; fits = tt };
  made = sym (no_pieces from (length frames) way);
  serial = tt;
  ships = reads_ships (Some fault) unwritten r cause;
  sequence = tt;
  told = λ told on. tt;
  first = λ told on. among_left (seen old).reads from way frames on;
}

-- What is among what is left of a shipping on its way, where it is on its way behind it.
among_first : (reads : Image) (from : ℕ) (way next : Way) (frames all : List Frame) (on : IsOnItsWay reads from way frames) → IsOnItsWay reads from next (frames ++ all)
    → (more : List Frame) × (frames ++ (all ++ more) ≡ shipped from Two (on.before ++ on.after))
among_first reads from way next frames all on later =
    let rest = frames_of_all (length (frames ++ all)) (filter (is_from from) (shipments_from (sort_at next.at) (rows_behind_all [] later.before) later.after)) in (
      rest,
      sym (append_assoc frames all rest) ∙ later.left
          ∙ ap (shipped from Two) (one_stands Two Two reads (later.before ++ later.after) (on.before ++ on.after) later.stands on.stands).1,
    )

-- The record was read, and said where it is shipped.
pub read_said : {D : Type 0} {seen : D → Seen} {stopped : D → Stopped} {old mid new : D} (tells : Bool) (stored : Stored) (from : ℕ) (way : Way) (frames : List Frame) (ops : List Op) (place : ℕ)
    (r : Result Way ShipFault) → IsBatch ops → (IsTrue tells → 0 < stored.mark) → (IsTrue tells → IsStoreOf (seen old).reads stored)
    → (IsTrue tells → IsBatchAt ((seen old).reads stored.part) way.at ops place) → OnlyReads seen stopped old mid
    → HasCause (seen old).disk_faults (seen mid).disk_faults (disk_failure None)
    → ShipsFrames seen stopped mid new (fault_of r) (frames_if from (length frames) (shipment_of way ops))
    → IfOk r (λ w. (w.at ≡ place) × (w.serial ≡ serial_after way.serial ops))
    → IfOk r (λ w. w.sequence ≡ (length frames + length (frames_if from (length frames) (shipment_of way ops))) % 2 ^ 32)
    → Passes tells seen stopped (leg_of from way frames) old new r
read_said {seen = seen} {old = old} tells stored from way frames ops place r batch some kept found reads cause said on sequence = record {
  all = frames_if from (length frames) (shipment_of way ops);
  ops = ops;
  batch = batch;
  made = refl;
  serial = IfOk-weaker r _ _ (λ w e. e.1) on;
  ships = ShipsFrames-then (fault_of r) (reads_ships None (λ e. cc) reads cause) said;
  sequence = sequence;
  told = λ told way_on. by r on told way_on;
  first = λ told way_on.
      among_first (seen old).reads from way next frames (frames_if from (length frames) (shipment_of way ops)) way_on
      (one_further (seen old).reads stored from way next frames ops (some told) (kept told) (found told) refl way_on);
}
  where
    next : Way
    next = record { at = place; serial = serial_after way.serial ops; sequence = 0 }

    by : (x : Result Way ShipFault) → IfOk x (λ w. (w.at ≡ place) × (w.serial ≡ serial_after way.serial ops)) → IsTrue tells → IsOnItsWay (seen old).reads from way frames
        → IfOk x (λ w. IsOnItsWay (seen old).reads from w (frames ++ frames_if from (length frames) (shipment_of way ops)))
    by (Ok w) e told way_on =
        one_further (seen old).reads stored from way w frames ops (some told) (kept told)
        (subst (λ (n : ℕ). IsBatchAt ((seen old).reads stored.part) way.at ops n) (sym e.0) (found told)) e.1 way_on
    by (Err fault) e told way_on = tt

-- ---- past some records

-- A shipping on its way reads the same folder later.
pub on_later : (reads now : Image) (from : ℕ) (way : Way) (frames : List Frame) → now ≡ reads → IsOnItsWay reads from way frames → IsOnItsWay now from way frames
on_later reads now from way frames e on = subst (λ (i : Image). IsOnItsWay i from way frames) (sym e) on

-- A record on the way was not passed.
pub way_fails : {D : Type 0} {seen : D → Seen} {stopped : D → Stopped} {old mid new : D} (tells : Bool) (from : ℕ) (way : Way) (frames : List Frame) (fault : ShipFault) (batches : List (List ℕ))
    → IsTrue tells → Stands Two (seen old).reads batches → ShipsFrames seen stopped old mid None frames → IsOnItsWay (seen old).reads from way frames
    → Passes tells seen stopped (leg_of from way frames) mid new (Err fault) → ShipsFrames seen stopped old new (Some fault) (shipped from Two batches)
way_fails {seen = seen} {old = old} {mid = mid} tells from way frames fault batches told stands before on p =
    let here : IsOnItsWay (seen mid).reads from way frames = on_later (seen old).reads (seen mid).reads from way frames before.alone.parts on in
    let first = p.first told here in
    let still : Stands Two (seen mid).reads batches = subst (λ (i : Image). Stands Two i batches) (sym before.alone.parts) stands in
    let same = (one_stands Two Two (seen mid).reads (here.before ++ here.after) batches here.stands still).1 in
    ShipsFrames-wider (Some fault) (frames ++ p.all) (shipped from Two batches)
    (first.0, append_assoc frames p.all first.0 ∙ first.1 ∙ ap (shipped from Two) same)
    (ShipsFrames-then (Some fault) before p.ships)

-- All records were passed.
pub way_ends : {D : Type 0} {seen : D → Seen} {stopped : D → Stopped} {old new : D} (stored : Stored) (from : ℕ) (way : Way) (frames : List Frame) (batches : List (List ℕ))
    → IsStoreOf (seen old).reads stored → stored.format ≡ Two → stored.end ≤ way.at → Stands Two (seen old).reads batches → IsOnItsWay (seen old).reads from way frames
    → ShipsFrames seen stopped old new None frames → ShipsFrames seen stopped old new None (shipped from Two batches)
way_ends {seen = seen} {stopped = stopped} {old = old} {new = new} stored from way frames batches kept format late stands on said =
    subst (λ (l : List Frame). ShipsFrames seen stopped old new None l) (at_end (seen old).reads stored from way frames batches kept format late stands on) said

-- A fault that is no say.
pub err_unwritten : {T : Type 0} (fault : ShipFault) → (IsErrOf {T = T} {E = ShipFault} (Err fault) Write → ⊥) → Some fault ≡ Some Write → ⊥
err_unwritten fault n e = n (ap Err (some_fault fault Write e))
  where
    some_fault : (x y : ShipFault) → ◌≡◌ {A = Option ShipFault} (Some x) (Some y) → x ≡ y
    some_fault x y p = cc
