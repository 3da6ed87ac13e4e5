-- The steps of shipping a folder, record by record (docs/PROMISES.md, "Shipping").
use Rattle.std.specs.Prelude.{◌≡◌, ℕ, ◌+◌, ◌%◌, ◌^◌, ◌≤◌, ◌==◌, Bool, cond, IsTrue, ⊤, List, [], ◌∷◌, ◌++◌, length, filter, IfOk, None, Some}
use Rattle.std.specs.declared.option.Option.{Option}
use Rattle.std.specs.declared.result.Result.{Result}
use Rattle.std.specs.Option.{unwrap_or}
use Rattle.std.specs.Ordering.{is_eq}
use Rattle.ziti_outside.specs.Causes.{HasCause}
use Rattle.ziti_outside.specs.Images.{Image}
use Rattle.ziti_outside.specs.Views.{Seen, Stopped}
use Rattle.ctrl_model.specs.declared.formats.Format.TheVariants.{Two}
use Rattle.channel_frame.specs.declared.frames.Frame.{Frame}
use Rattle.journal_core.specs.Slots.{slot_end}
use Rattle.slot_files.specs.FolderImage.{Stands}
use Rattle.row_codec.specs.declared.changes.Op.{Op}
use Rattle.row_codec.specs.Batches.{bytes_cmp, entry_of, batch_bytes, IsBatch}
use Rattle.slot_reading.specs.BatchRows.{serial_key, serial_in}
use Rattle.ship_core.specs.declared.faults.ShipFault.{ShipFault}
use Rattle.ship_core.specs.declared.faults.ShipFault.TheVariants.{Damaged}
use Rattle.ship_frames.specs.declared.shipments.Shipment.{Shipment}
use Rattle.ship_core.specs.declared.records.Way.{Way}
use Rattle.ship_core.specs.Faults.{fault_of, disk_failure, write_failure}
use Rattle.ship_frames.specs.declared.shipments.Sort.{Sort}
use Rattle.ship_frames.specs.declared.shipments.Sort.TheVariants.{Whole, Next}
use Rattle.ship_frames.specs.Pieces.{frames_of, frames_of_all}
use Rattle.ship_core.specs.SaidFrames.{SaysFrames, OnlyShips}
use Rattle.ship_core.specs.Shipping.{is_from, serial_or_none, rows_behind_all, shipments_from, shipments, shipped, AreSpelled}

-- A step of shipping: what it said, that it did nothing else, and which fault it counted.
pub record ShipsFrames {D : Type 0} (seen : D → Seen) (stopped : D → Stopped) (old new : D) (fault : Option ShipFault) (all : List Frame) : Type 0 where
  pub says : SaysFrames seen stopped old new fault all
  pub alone : OnlyShips seen stopped old new
  pub write : HasCause (seen old).say_faults (seen new).say_faults (write_failure fault)
  pub disk : HasCause (seen old).disk_faults (seen new).disk_faults (disk_failure fault)

-- What an operation says of the serial, if it has the serial's key: 0 where it tells none.
abbrev pub serial_by : Op → Option ℕ
serial_by op = cond (is_eq (bytes_cmp (entry_of op).0 serial_key)) (Some (unwrap_or (serial_in (entry_of op).1) 0)) None

-- The serial after operations on rows of a serial.
abbrev pub serial_after : ℕ → List Op → ℕ
serial_after serial [] = serial
serial_after serial (op ∷ ops) = unwrap_or (serial_by op) (serial_after serial ops)

-- The sort of the record behind the gate at a place: the first gate has a Whole behind it.
abbrev pub sort_at : ℕ → Sort
sort_at at = cond (at == 8) Whole Next

-- A batch as it is shipped that was read on the way.
abbrev pub shipment_of : Way → List Op → Shipment
shipment_of way ops = record { sort = sort_at way.at; serial = serial_after way.serial ops; bytes = batch_bytes ops }

-- The frames of a batch from a place of the output on, where it is shipped from a serial on.
abbrev pub frames_if : (from place : ℕ) → Shipment → List Frame
frames_if from place s = cond (is_from from s) (frames_of place s) []

-- A shipping from a serial on has come so far: of the batches for which the folder stands, those before the next gate have these frames, and
-- those behind it the frames that are left of what is shipped.
pub record IsOnItsWay (reads : Image) (from : ℕ) (way : Way) (frames : List Frame) : Type 0 where
  pub before : List (List ℕ)
  pub after : List (List ℕ)
  pub stands : Stands Two reads (before ++ after)
  pub place : way.at ≡ slot_end before
  pub serial : way.serial ≡ serial_or_none (rows_behind_all [] before)
  pub left : frames ++ frames_of_all (length frames) (filter (is_from from) (shipments_from (sort_at way.at) (rows_behind_all [] before) after))
      ≡ shipped from Two (before ++ after)

-- The sort of the batch behind some batches, where the first one of all is of this: each later one is a Next.
abbrev pub sort_behind : (first : Sort) → List (List ℕ) → Sort
sort_behind first [] = first
sort_behind first (bytes ∷ more) = Next

-- A shipping from a serial on has come so far, whatever the folder reads: it read some batches, and of these it said these frames.
pub record HasRead (from : ℕ) (way : Way) (frames : List Frame) : Type 0 where
  pub batches : List (List ℕ)
  pub spelled : AreSpelled batches
  pub low : 8 ≤ way.at
  pub sort : sort_at way.at ≡ sort_behind Whole batches
  pub serial : way.serial ≡ serial_or_none (rows_behind_all [] batches)
  pub said : frames ≡ frames_of_all 0 (filter (is_from from) (shipments Two batches))

-- A shipping from a serial on that has come so far, and these frames of it.
pub record Leg : Type 0 where
  pub from : ℕ
  pub way : Way
  pub frames : List Frame

-- It, by these.
abbrev pub leg_of : ℕ → Way → List Frame → Leg
leg_of from way frames = record { from = from; way = way; frames = frames }

-- What a step past one record made: its frames, and how far the shipping has come. They are those of a batch; where none was read there are none,
-- as of the batch without operations.
pub record Passes {D : Type 0} (tells : Bool) (seen : D → Seen) (stopped : D → Stopped) (leg : Leg) (old new : D) (result : Result Way ShipFault) : Type 0 where
  pub all : List Frame
  pub ops : List Op
  pub batch : IsBatch ops
  pub made : all ≡ frames_if leg.from (length leg.frames) (shipment_of leg.way ops)
  pub serial : IfOk result (λ next. next.serial ≡ serial_after leg.way.serial ops)
  pub ships : ShipsFrames seen stopped old new (fault_of result) all
  pub sequence : IfOk result (λ next. next.sequence ≡ (length leg.frames + length all) % 2 ^ 32)
  pub told : IsTrue tells → IsOnItsWay (seen old).reads leg.from leg.way leg.frames → IfOk result (λ next. IsOnItsWay (seen old).reads leg.from next (leg.frames ++ all))
  pub first : IsTrue tells → (on : IsOnItsWay (seen old).reads leg.from leg.way leg.frames)
      → (more : List Frame) × (leg.frames ++ (all ++ more) ≡ shipped leg.from Two (on.before ++ on.after))

-- A fault that comes of a folder that was found to open: it is not damaged.
abbrev pub IsUndamaged : ShipFault → Type 0
IsUndamaged (Damaged part at) = ⊥
IsUndamaged _ = ⊤
