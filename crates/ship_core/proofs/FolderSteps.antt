-- A folder, shipped whole.
use Rattle.std.proofs.Common.{◌≡◌, ℕ, ◌<◌, Bool, IsTrue, IfErr, IsErrOf, List, [], length, filter, Option, None, Some, Ok, Err, refl, sym, ap, ◌∙◌, subst}
use Rattle.std.specs.Prelude.{⊤}
use Rattle.std.specs.declared.result.Result.{Result}
use Rattle.ziti_outside.specs.declared.desk.Part.{Part}
use Rattle.ziti_outside.specs.declared.desk.Part.TheVariants.{Mark}
use Rattle.ziti_outside.specs.Causes.{HasCause}
use Rattle.ziti_outside.specs.Images.{Image}
use Rattle.ziti_outside.specs.Untouched.{OnlyReads}
use Rattle.ziti_outside.specs.Views.{Seen, Stopped}
use Rattle.ctrl_model.specs.declared.formats.Format.{Format}
use Rattle.ctrl_model.specs.declared.formats.Format.TheVariants.{One, Two}
use Rattle.ctrl_model.specs.State.{start}
use Rattle.channel_frame.specs.declared.frames.Frame.{Frame}
use Rattle.slot_files.specs.FolderImage.{Stands}
use Rattle.slot_files.proofs.StandLaws.{one_stands}
use Rattle.row_store.specs.StoredRows.{Stored, IsStoreOf}
use Rattle.row_store.proofs.StateRows.{start_valid}
use Rattle.slot_reading.specs.BatchRows.{ByteRows}
use Rattle.ship_core.specs.declared.faults.ShipFault.{ShipFault}
use Rattle.ship_core.specs.declared.faults.ShipFault.TheVariants.{Write, Damaged}
use Rattle.ship_core.specs.Faults.{fault_of, disk_failure, IsOfState, FindFails}
use Rattle.ship_frames.specs.Pieces.{frames_of_all}
use Rattle.ship_core.specs.SaidFrames.{ShipsJudged}
use Rattle.ship_core.specs.Shipping.{is_from, shipments, shipped, AreSpelled, AreShippedOf}
use Rattle.ship_core.specs.Steps.{ShipsFrames, IsUndamaged}
use Rattle.ship_core.proofs.JudgeLaws.{start_opens, opens_so}
use Rattle.ship_core.proofs.OldLaws.{old_frames, old_shipped, none_stand, nothing_shipped}
use Rattle.ship_core.proofs.SaidLaws.{reads_ships, ShipsFrames-then, ShipsFrames-wider}

-- A folder stands for batches of its store's format alone.
pub same_format : (reads : Image) (stored : Stored) (format : Format) (batches : List (List ℕ)) → 0 < stored.mark → IsStoreOf reads stored → Stands format reads batches → stored.format ≡ format
same_format reads stored format batches some kept stands =
    (one_stands stored.format format reads kept.batches batches kept.stands stands).0 (subst (λ (m : ℕ). 0 < m) (sym kept.mark) some)

-- What was shipped of a store of the first format is what is shipped of its folder.
pub old_said : {D : Type 0} {seen : D → Seen} {stopped : D → Stopped} {old new : D} (stored : Stored) (from : ℕ) (format : Format) (batches : List (List ℕ)) (fault : Option ShipFault)
    → stored.format ≡ One → 0 < stored.mark → IsStoreOf (seen old).reads stored → Stands format (seen old).reads batches → ShipsFrames seen stopped old new fault (old_frames from stored.rows)
    → ShipsFrames seen stopped old new fault (shipped from format batches)
old_said {seen = seen} {stopped = stopped} {old = old} {new = new} stored from format batches fault is some kept stands said =
    let same : One ≡ format = sym is ∙ same_format (seen old).reads stored format batches some kept stands in
    let own : Stands One (seen old).reads batches = subst (λ (f : Format). Stands f (seen old).reads batches) (sym same) stands in
    subst (λ (l : List Frame). ShipsFrames seen stopped old new fault l) (old_shipped (seen old).reads stored from batches is kept own ∙ ap (λ (f : Format). shipped from f batches) same) said

-- And so of one of the second format.
pub kept_said : {D : Type 0} {seen : D → Seen} {stopped : D → Stopped} {old new : D} (stored : Stored) (from : ℕ) (format : Format) (batches : List (List ℕ)) (fault : Option ShipFault)
    → stored.format ≡ Two → 0 < stored.mark → IsStoreOf (seen old).reads stored → Stands format (seen old).reads batches
    → ((those : List (List ℕ)) → Stands Two (seen old).reads those → ShipsFrames seen stopped old new fault (shipped from Two those))
    → ShipsFrames seen stopped old new fault (shipped from format batches)
kept_said {seen = seen} {stopped = stopped} {old = old} {new = new} stored from format batches fault is some kept stands said =
    let same : Two ≡ format = sym is ∙ same_format (seen old).reads stored format batches some kept stands in
    let own : Stands Two (seen old).reads batches = subst (λ (f : Format). Stands f (seen old).reads batches) (sym same) stands in
    subst (λ (f : Format). ShipsFrames seen stopped old new fault (shipped from f batches)) same (said batches own)

-- Where the mark is empty nothing is shipped.
pub empty_said : {D : Type 0} {seen : D → Seen} {stopped : D → Stopped} {old new : D} (from : ℕ) (format : Format) (batches : List (List ℕ))
    → length ((seen old).reads Mark) ≡ 0 → Stands format (seen old).reads batches → ShipsFrames seen stopped old new None [] → ShipsFrames seen stopped old new None (shipped from format batches)
empty_said {seen = seen} {stopped = stopped} {old = old} {new = new} from format batches empty stands said =
    let none : batches ≡ [] = none_stand (seen old).reads format batches empty stands in
    subst (λ (l : List Frame). ShipsFrames seen stopped old new None l) (sym (ap (shipped from format) none ∙ nothing_shipped from format)) said

-- A folder that was not found to open says nothing, whatever would be shipped of it.
pub closed_said : {D : Type 0} {seen : D → Seen} {stopped : D → Stopped} {old new : D} (fault : ShipFault) (all : List Frame) → (Some fault ≡ Some Write → ⊥) → OnlyReads seen stopped old new
    → HasCause (seen old).disk_faults (seen new).disk_faults (disk_failure (Some fault)) → ShipsFrames seen stopped old new (Some fault) all
closed_said fault all unwritten reads cause = ShipsFrames-wider (Some fault) [] all (all, refl) (reads_ships (Some fault) unwritten reads cause)

-- Such a fault is no say.
pub found_unwritten : (tells : Bool) (image : Image) (fault : ShipFault) → FindFails tells image fault → Some fault ≡ Some Write → ⊥
found_unwritten tells image fault f e = subst (FindFails tells image) (some_fault fault Write e) f
  where
    some_fault : (x y : ShipFault) → ◌≡◌ {A = Option ShipFault} (Some x) (Some y) → x ≡ y
    some_fault x y p = cc

-- The fault of a folder that opens is sound.
pub sound_fault : (tells : Bool) (r : Result ⊤ ShipFault) → IsTrue tells → IfErr r (λ fault. IsTrue tells → IsUndamaged fault) → (f : ShipFault) → fault_of r ≡ Some f → IsUndamaged f
sound_fault tells (Ok x) told sound f e = let none : ◌≡◌ {A = Option ShipFault} None (Some f) = e in absurd cc
sound_fault tells (Err fault) told sound f e = subst IsUndamaged (some_fault fault f e) (sound told)
  where
    some_fault : (x y : ShipFault) → ◌≡◌ {A = Option ShipFault} (Some x) (Some y) → x ≡ y
    some_fault x y p = cc

-- So it is never damaged.
pub never_damaged : (tells : Bool) (r : Result ⊤ ShipFault) (part : Part) (at : ℕ) → IsTrue tells → IfErr r (λ fault. IsTrue tells → IsUndamaged fault) → IsErrOf r (Damaged part at) → ⊥
never_damaged tells (Ok x) part at told sound e = let both : ◌≡◌ {A = Result ⊤ ShipFault} (Ok x) (Err (Damaged part at)) = e in cc
never_damaged tells (Err fault) part at told sound e = subst IsUndamaged (same_fault fault (Damaged part at) e) (sound told)
  where
    same_fault : (x y : ShipFault) → ◌≡◌ {A = Result ⊤ ShipFault} (Err x) (Err y) → x ≡ y
    same_fault x y p = cc

-- A fault that is sound is so where the folder is told.
pub sound_told : (tells : Bool) (r : Result ⊤ ShipFault) → IfErr r IsUndamaged → IfErr r (λ fault. IsTrue tells → IsUndamaged fault)
sound_told tells (Ok x) sound = tt
sound_told tells (Err fault) sound = λ told. sound

-- ---- a folder that was judged, and then shipped

-- What was said behind the judging is all that was said.
pub behind_judging : {D : Type 0} {seen : D → Seen} {stopped : D → Stopped} {old mid new : D} (fault : Option ShipFault) (all : List Frame) → OnlyReads seen stopped old mid
    → HasCause (seen old).disk_faults (seen mid).disk_faults (disk_failure None) → ShipsFrames seen stopped mid new fault all → ShipsFrames seen stopped old new fault all
behind_judging fault all reads cause said = ShipsFrames-then fault (reads_ships None (λ e. cc) reads cause) said

-- The same of what would be shipped of a folder that reads as before.
pub told_behind : {D : Type 0} {seen : D → Seen} {stopped : D → Stopped} {old mid new : D} (fault : Option ShipFault) (from : ℕ) (format : Format) (batches : List (List ℕ))
    → OnlyReads seen stopped old mid → HasCause (seen old).disk_faults (seen mid).disk_faults (disk_failure None) → Stands format (seen old).reads batches
    → ((f : Format) (those : List (List ℕ)) → Stands f (seen mid).reads those → ShipsFrames seen stopped mid new fault (shipped from f those))
    → ShipsFrames seen stopped old new fault (shipped from format batches)
told_behind {seen = seen} fault from format batches reads cause stands said =
    behind_judging fault (shipped from format batches) reads cause
    (said format batches (subst (λ (i : Image). Stands format i batches) (sym reads.parts) stands))

-- ---- what was said, whether the folder is told or not

-- What was said of a store of the first format is shipped of its rows.
pub old_kind : (from : ℕ) (format : Format) (rows : ByteRows) → format ≡ One → AreShippedOf from format rows (old_frames from rows)
old_kind from format rows is = subst (λ (f : Format). AreShippedOf from f rows (old_frames from rows)) (sym is) refl

-- The frames of batches of the second format that were read one by one.
abbrev pub read_frames : (from : ℕ) → List (List ℕ) → List Frame
read_frames from batches = frames_of_all 0 (filter (is_from from) (shipments Two batches))

pub kept_kind : (from : ℕ) (format : Format) (rows : ByteRows) (batches : List (List ℕ)) → format ≡ Two → AreSpelled batches → AreShippedOf from format rows (read_frames from batches)
kept_kind from format rows batches is spelled = subst (λ (f : Format). AreShippedOf from f rows (read_frames from batches)) (sym is) (batches, spelled, refl)

-- A folder with an empty mark was found to open to the start.
pub empty_judged : {D : Type 0} {seen : D → Seen} {stopped : D → Stopped} {old new : D} (tells : Bool) (from : ℕ) → (IsTrue tells → length ((seen old).reads Mark) ≡ 0)
    → ShipsFrames seen stopped old new None [] → ShipsJudged tells seen stopped from old new None
empty_judged {seen = seen} {old = old} tells from empty said = record {
  state = start;
  valid = start_valid;
  opens = λ told. start_opens (seen old).reads (empty told);
  format = Two;
  has = tt;
  all = [];
  shipped = ([], tt, refl);
  says = said.says;
}

-- A folder whose store has the rows of a state was found to open to it.
pub store_judged : {D : Type 0} {seen : D → Seen} {stopped : D → Stopped} {old new : D} (tells : Bool) (from : ℕ) (stored : Stored) (fault : Option ShipFault) (all : List Frame)
    → (IsTrue tells → IsStoreOf (seen old).reads stored) → IsOfState stored → AreShippedOf from stored.format stored.rows all → ShipsFrames seen stopped old new fault all
    → ShipsJudged tells seen stopped from old new fault
store_judged {seen = seen} {old = old} tells from stored fault all kept of kind said = record {
  state = of.0;
  valid = of.1;
  opens = λ told. opens_so (seen old).reads stored (kept told) of;
  format = stored.format;
  has = of.2;
  all = all;
  shipped = subst (λ (r : ByteRows). AreShippedOf from stored.format r all) of.3 kind;
  says = said.says;
}
