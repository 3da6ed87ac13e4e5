-- What a follower makes of a batch that is whole is what following makes of it.
use Rattle.std.proofs.Common.{◌≡◌, ◌⊎◌, inl, inr, ℕ, Bool, true, false, List, Option, None, Some, refl, sym, ap, ◌∙◌, subst, true≢false}
use Rattle.std.specs.declared.result.Result.{Result}
use Rattle.ziti_outside.specs.declared.desk.Part.TheVariants.{Mark}
use Rattle.ziti_outside.specs.Causes.{HasCause}
use Rattle.ziti_outside.specs.Images.{Image}
use Rattle.ziti_outside.specs.Moments.{Leaves}
use Rattle.ziti_outside.specs.Untouched.{OnlyReads}
use Rattle.ziti_outside.specs.Views.{Seen, Stopped}
use Rattle.ziti_outside.proofs.MomentLaws.{Leaves-weaker}
use Rattle.ctrl_model.specs.declared.formats.Format.{Format}
use Rattle.ctrl_model.specs.declared.formats.Format.TheVariants.{Two}
use Rattle.ship_frames.specs.declared.shipments.Shipment.{Shipment}
use Rattle.ship_frames.specs.GatheredPieces.{Parts}
use Rattle.slot_files.specs.FolderImage.{Stands}
use Rattle.row_codec.specs.declared.changes.Op.{Op}
use Rattle.row_codec.specs.Batches.{Spells}
use Rattle.slot_reading.specs.BatchRows.{ByteRows, rows_after}
use Rattle.row_store.specs.OpenedRows.{OpensTo}
use Rattle.row_store.specs.StoredRows.{Stored, IsStoreOf, ReadsAs}
use Rattle.row_store.proofs.CommitLaws.{reads_opens}
use Rattle.follow_core.specs.declared.faults.FollowFault.{FollowFault}
use Rattle.follow_core.specs.Faults.{disk_failure}
use Rattle.follow_core.specs.declared.taken.Taken.{Taken}
use Rattle.follow_core.specs.declared.taken.Taken.TheVariants as takens
use Rattle.follow_core.specs.BatchBytes.{batch_in}
use Rattle.std.specs.Option.{option_map_or}
use Rattle.follow_core.specs.Following.{Copy, beside, is_no_whole, kept_of, copy_behind, decided, received}
use Rattle.follow_core.specs.FollowedCopies.{HoldsState, serial_in_store}
use Rattle.follow_core.specs.Steps.{rows_under, comes_late, comes_early, LeadsOn, AnswersSo, kept_behind, HasRoomFor, KeepsSo}
use Rattle.follow_core.specs.TakenFrames.{copy_in, copy_behind_batch, IsReceived, OpensToSome}
use Rattle.follow_core.proofs.DecidedBatches.{IsCopyOf, answered_so, leads_so, kept_or_full}
use Rattle.follow_core.proofs.KeptCopies.{records_same, rows_same, copy_same, room_takes, slot_refuses, mark_refuses}
use Rattle.follow_core.proofs.KeptRecords.{end_of, give_of}
use Rattle.follow_core.proofs.LeadingBatches.{before_opens, replaced_changes}

-- A store is the copy of the records for which its folder stands.
pub copy_told : (reads : Image) (stored : Stored) (records : List (List ℕ)) → stored.format ≡ Two → IsStoreOf reads stored → Stands Two reads records → IsCopyOf records stored
copy_told reads stored records format kept stands =
    record { end = end_of reads stored records format kept stands; give = give_of reads stored records format kept stands }

-- What following answers with the copy left alone.
pub left_alone : (s : Shipment) (records : List (List ℕ)) (parts : Option Parts) (old new : Stored) (reads : Image) (t : Taken)
    → received old.bounds s (copy_in records old parts) ≡ (t, copy_in records old parts) → new ≡ old → Stands Two reads records → IsReceived s records parts old new reads t
left_alone s records parts old new reads t whole same stands = record {
  answer = sym (ap (λ (x : Taken × Copy). x.0) whole);
  copy = subst (λ (x : Taken × Copy). copy_in x.1.records new parts ≡ x.1) (sym whole) (ap (λ (n : Stored). copy_in records n parts) same);
  folder = subst (λ (x : Taken × Copy). Stands Two reads x.1.records) (sym whole) stands;
}

-- A batch whose bytes spell none is bad.
pub none_received : (s : Shipment) (records : List (List ℕ)) (parts : Option Parts) (old : Stored) (reads : Image) → batch_in s.bytes ≡ None → Stands Two reads records
    → IsReceived s records parts old old reads takens.BadBatch
none_received s records parts old reads none stands =
    left_alone s records parts old old reads takens.BadBatch
    (ap (λ (o : Option (List Op)). option_map_or (λ (ops : List Op). decided old.bounds s ops (copy_in records old parts)) o (takens.BadBatch, copy_in records old parts)) none)
    refl stands

-- One that is answered before it is kept.
pub answered_received : (s : Shipment) (ops : List Op) (records : List (List ℕ)) (parts : Option Parts) (old : Stored) (reads : Image) (told : Option (List ℕ) → Type 0) (t : Taken)
    → IsCopyOf records old → Spells s.bytes ops → ((kept : Option (List ℕ)) → told kept → kept ≡ kept_of s.sort s.serial (serial_in_store old) records)
    → AnswersSo s ops old told (Some t) → Stands Two reads records → IsReceived s records parts old old reads t
answered_received s ops records parts old reads told t k spells kept answer stands =
    left_alone s records parts old old reads t (answered_so old.bounds s ops records old parts told t k spells kept answer) refl stands

-- One that is to be kept and has room.
pub room_received : (s : Shipment) (ops : List Op) (records : List (List ℕ)) (parts : Option Parts) (old : Stored) → IsCopyOf records old → HoldsState old → Spells s.bytes ops
    → is_no_whole s ops ≡ false → comes_late s old ≡ false → comes_early s old ≡ false → LeadsOn s ops old → HasRoomFor s.sort ops old
    → received old.bounds s (copy_in records old parts) ≡ (takens.Took, copy_behind s ops (copy_in records old parts))
room_received s ops records parts old k h spells good now due on room =
    leads_so old.bounds s ops records old parts k spells good now due on
    ∙ room_takes s ops records old parts k spells (replaced_changes s ops old h spells on) room

pub room_rows : (s : Shipment) (ops : List Op) (records : List (List ℕ)) (parts : Option Parts) (old : Stored) → IsCopyOf records old → HoldsState old → Spells s.bytes ops
    → is_no_whole s ops ≡ false → comes_late s old ≡ false → comes_early s old ≡ false → LeadsOn s ops old → HasRoomFor s.sort ops old
    → rows_after (rows_under s.sort old) ops ≡ (copy_behind_batch s records old parts).rows
room_rows s ops records parts old k h spells good now due on room =
    sym (ap (λ (x : Taken × Copy). x.1.rows) (room_received s ops records parts old k h spells good now due on room) ∙ rows_same s ops records old parts k)

-- A batch that was to be kept.
pub kept_received : {D : Type 0} (s : Shipment) (ops : List Op) (records : List (List ℕ)) (parts : Option Parts) (old new : Stored) (desk later : D) (reads : Image) (t : Taken)
    → IsCopyOf records old → HoldsState old → Spells s.bytes ops → is_no_whole s ops ≡ false → comes_late s old ≡ false → comes_early s old ≡ false → LeadsOn s ops old
    → KeepsSo s.sort ops old new desk later t → (t ≡ takens.Took → Stands Two reads (kept_behind s.sort ops old records)) → (later ≡ desk → Stands Two reads records)
    → IsReceived s records parts old new reads t
kept_received s ops records parts old new desk later reads takens.Took k h spells good now due on keeps folder still =
    let whole = room_received s ops records parts old k h spells good now due on keeps.0 in
    record {
      answer = sym (ap (λ (x : Taken × Copy). x.0) whole);
      copy = subst (λ (x : Taken × Copy). copy_in x.1.records new parts ≡ x.1) (sym whole) (copy_same s ops records old new parts k keeps.1);
      folder = subst (λ (x : Taken × Copy). Stands Two reads x.1.records) (sym whole)
          (subst (Stands Two reads) (sym (records_same s ops records old parts k spells)) (folder refl));
    }
kept_received s ops records parts old new desk later reads takens.Full k h spells good now due on keeps folder still =
    left_alone s records parts old new reads takens.Full
    (leads_so old.bounds s ops records old parts k spells good now due on ∙ slot_refuses s ops records old parts k spells (replaced_changes s ops old h spells on) keeps.0)
    keeps.1.0 (still keeps.1.1)
kept_received s ops records parts old new desk later reads takens.MarkFull k h spells good now due on keeps folder still =
    left_alone s records parts old new reads takens.MarkFull
    (leads_so old.bounds s ops records old parts k spells good now due on
    ∙ mark_refuses s ops records old parts k spells (replaced_changes s ops old h spells on) keeps.0 keeps.1 keeps.2)
    keeps.3.0 (still keeps.3.1)
kept_received s ops records parts old new desk later reads takens.Repeat k h spells good now due on keeps folder still = absurd keeps
kept_received s ops records parts old new desk later reads takens.Old k h spells good now due on keeps folder still = absurd keeps
kept_received s ops records parts old new desk later reads takens.Piece k h spells good now due on keeps folder still = absurd keeps
kept_received s ops records parts old new desk later reads takens.Skipped k h spells good now due on keeps folder still = absurd keeps
kept_received s ops records parts old new desk later reads takens.Ahead k h spells good now due on keeps folder still = absurd keeps
kept_received s ops records parts old new desk later reads takens.BadShip k h spells good now due on keeps folder still = absurd keeps
kept_received s ops records parts old new desk later reads takens.BadBatch k h spells good now due on keeps folder still = absurd keeps
kept_received s ops records parts old new desk later reads (takens.Differs serial at) k h spells good now due on keeps folder still = absurd keeps

-- ---- stops

pub either_rows : (image : Image) (rows these those : ByteRows) → these ≡ those → OpensTo Two image rows ⊎ OpensTo Two image these → OpensTo Two image rows ⊎ OpensTo Two image those
either_rows image rows these those e (inl p) = inl p
either_rows image rows these those e (inr p) = inr (subst (λ (r : ByteRows). OpensTo Two image r) e p)

-- What was not taken left the store and the desk.
pub not_taken : {D : Type 0} (s : Shipment) (ops : List Op) (old new : Stored) (desk later : D) (t : Taken) → KeepsSo s.sort ops old new desk later t → (t ≡ takens.Took → ⊥)
    → (new ≡ old) × (later ≡ desk)
not_taken s ops old new desk later takens.Took keeps other = absurd (other refl)
not_taken s ops old new desk later takens.Full keeps other = keeps.1
not_taken s ops old new desk later takens.MarkFull keeps other = keeps.3
not_taken s ops old new desk later takens.Repeat keeps other = absurd keeps
not_taken s ops old new desk later takens.Old keeps other = absurd keeps
not_taken s ops old new desk later takens.Piece keeps other = absurd keeps
not_taken s ops old new desk later takens.Skipped keeps other = absurd keeps
not_taken s ops old new desk later takens.Ahead keeps other = absurd keeps
not_taken s ops old new desk later takens.BadShip keeps other = absurd keeps
not_taken s ops old new desk later takens.BadBatch keeps other = absurd keeps
not_taken s ops old new desk later (takens.Differs serial at) keeps other = absurd keeps

-- What is left to do of an answer that is none.
pub none_leads : (s : Shipment) (ops : List Op) (stored : Stored) (told : Option (List ℕ) → Type 0) (answer : Option Taken) → answer ≡ None → AnswersSo s ops stored told answer
    → (is_no_whole s ops ≡ false) × (comes_late s stored ≡ false) × (comes_early s stored ≡ false) × LeadsOn s ops stored
none_leads s ops stored told answer none (inl bad) = let both : ◌≡◌ {A = Option Taken} None (Some takens.BadBatch) = sym none ∙ bad.1 in absurd cc
none_leads s ops stored told answer none (inr (good, inl late)) = let both : ◌≡◌ {A = Option Taken} None (Some (beside s late.1.0)) = sym none ∙ late.1.2 in absurd cc
none_leads s ops stored told answer none (inr (good, inr (now, inl early))) = let both : ◌≡◌ {A = Option Taken} None (Some takens.Ahead) = sym none ∙ early.1 in absurd cc
none_leads s ops stored told answer none (inr (good, inr (now, inr (due, inl nowhere)))) = let both : ◌≡◌ {A = Option Taken} None (Some takens.BadBatch) = sym none ∙ nowhere.1 in absurd cc
none_leads s ops stored told answer none (inr (good, inr (now, inr (due, inr on)))) = (good, now, due, on.0)

-- ---- a folder that was read alone

pub still_stops : {D : Type 0} {seen : D → Seen} {stopped : D → Stopped} (old : Stored) (rows : ByteRows) (desk later : D) → HoldsState old → ReadsAs old (seen desk).reads (stopped desk).images
    → OnlyReads seen stopped desk later → Leaves seen stopped desk later (λ image. OpensTo Two image old.rows ⊎ OpensTo Two image rows)
still_stops {D} {seen} {stopped} old rows desk later h reads only =
    Leaves-weaker _ only.stops (λ image m. inl (subst (λ (f : Format). OpensTo f image old.rows) h.format (reads_opens old (seen desk).reads (stopped desk).images reads image m)))

pub still_opens : {D : Type 0} {seen : D → Seen} {stopped : D → Stopped} (old : Stored) (desk later : D) → HoldsState old → ReadsAs old (seen desk).reads (stopped desk).images
    → OnlyReads seen stopped desk later → Leaves seen stopped desk later OpensToSome
still_opens {D} {seen} {stopped} old desk later h reads only =
    Leaves-weaker _ only.stops (λ image m. before_opens old h image (reads_opens old (seen desk).reads (stopped desk).images reads image m))

pub still_reads : (stored : Stored) (reads now : Image) (images later : Image → Type 0) → now ≡ reads → ((image : Image) → later image → images image) → ReadsAs stored reads images → ReadsAs stored now later
still_reads stored reads now images later same fewer r = record {
  some = r.some;
  kept = subst (λ (i : Image). IsStoreOf i stored) (sym same) r.kept;
  stable_mark = record { each = λ image m. r.stable_mark.each image (fewer image m) ∙ ap (λ (i : Image). i Mark) (sym same) };
  stable_slot = record { each = λ image m. r.stable_slot.each image (fewer image m) ∙ ap (λ (i : Image). i stored.part) (sym same) };
}

-- One call behind another that counted no fault.
pub cause_then : {T : Type 0} (before mid now : ℕ) (r : Result T FollowFault) → mid ≡ before → HasCause mid now (disk_failure r) → HasCause before now (disk_failure r)
cause_then before mid now r calm c = subst (λ (n : ℕ). HasCause n now (disk_failure r)) calm c
