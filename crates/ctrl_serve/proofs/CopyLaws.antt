-- How a follower is what answers a run.
use Rattle.std.specs.Prelude.{IsSomeAnd, IsTrue}
use Rattle.std.specs.List.{AllByRecursion}
use Rattle.std.specs.Int.{w32, to_le_bytes, from_le_bytes}
use Rattle.std.specs.declared.option.Option.{Option}
use Rattle.std.proofs.Common.{◌≡◌, ◌≢◌, ◌⊎◌, inl, inr, ℕ, zero, suc, ◌==◌, ◌<◌, ◌≤◌, Bool, true, false, cond, List, [], ◌∷◌, ◌++◌, length, take, drop, None, Some, refl, sym, ap, ap₂, ◌∙◌, subst, arith, length-append, append_assoc}
use Rattle.std.proofs.lemmas.List.{take_at, drop_at}
use Rattle.std.proofs.lemmas.Nat.{from_le_bytes-to_le_bytes_4}
use Rattle.std.proofs.lemmas.Bool.{false≢true, ne_eqb}
use Rattle.ziti_outside.specs.declared.desk.Part.TheVariants.{Mark}
use Rattle.ziti_outside.specs.Images.{Image}
use Rattle.ziti_outside.specs.Moments.{Elapses, Leaves, Now}
use Rattle.ziti_outside.specs.Views.{Seen, Stopped}
use Rattle.ziti_outside.proofs.MomentLaws.{Leaves-weaker}
use Rattle.channel_frame.specs.declared.frames.Frame.{Frame}
use Rattle.channel_frame.specs.FrameSpelling.{spelling}
use Rattle.ctrl_model.specs.declared.formats.Format.{Format}
use Rattle.ctrl_model.specs.declared.formats.Format.TheVariants.{Two}
use Rattle.ctrl_model.specs.declared.kinds.Who.{Who}
use Rattle.journal_core.specs.Slots.{Slot, IsPayload, record_of, records_of}
use Rattle.slot_files.specs.FolderImage.{Stands, StandsBy, slot_of}
use Rattle.slot_reading.specs.BatchRows.{ByteRows}
use Rattle.row_store.specs.OpenedRows.{OpensTo}
use Rattle.row_store.specs.OpenedStates.{byte_rows_of}
use Rattle.row_store.specs.StoredRows.{IsStoreOf, ReadsAs, Stored}
use Rattle.row_store.proofs.CommitLaws.{reads_opens}
use Rattle.ctrl_serve.proofs.OpenedMachines.{opens_to_start}
use Rattle.row_store.proofs.OpeningLaws.{none_opens, one_opens}
use Rattle.row_store.proofs.StateRows.{start_rows}
use Rattle.follow_core.specs.declared.taken.Taken.{Taken}
use Rattle.follow_core.specs.Following.{Copy, follow, own_serial}
use Rattle.follow_core.specs.FollowedCopies.{Followed, HoldsState, StandsAs, copy_of, serial_in_store}
use Rattle.follow_core.specs.TakenFrames.{IsTaken, OpensToSome, copy_behind_frame}
use Rattle.follow_core.specs.TakenReplies.{taken_frame}
use Rattle.serve_loop.specs.Answerers.{IsReady, are_its_own}
use Rattle.ctrl_serve.specs.CopyViews.{copy_at, copy_needs, payload_len, payloads_in, payloads_within, records_in}
use Rattle.ctrl_serve.specs.FollowWords.{OpensToCopy, follower}

-- ---- the records that a folder reads

-- A record is at least its gate.
few_payloads : (payloads : List (List ℕ)) → length payloads ≤ length (records_of payloads)
few_payloads [] = omega arith
few_payloads (p ∷ ps) = let more = few_payloads ps in omega (arith, length-append (record_of p) (records_of ps), more)

-- What is read behind a closed gate is nothing.
closed_none : (steps : List ℕ) (gate : ℕ) (more : List ℕ) → gate ≢ 1 → payloads_within steps (gate ∷ more) ≡ []
closed_none [] gate more closed = refl
closed_none (step ∷ steps) gate more closed =
    ap (λ (b : Bool). cond b (take (payload_len more) (drop 4 more) ∷ payloads_within steps (drop (payload_len more) (drop 4 more))) []) (ne_eqb gate 1 closed)

-- A record is read again, with what comes behind it.
one_record : (step : ℕ) (steps payload tail : List ℕ) → IsPayload payload → payloads_within (step ∷ steps) (1 ∷ (record_of payload ++ tail)) ≡ payload ∷ payloads_within steps tail
one_record step steps payload tail short =
    let number : List ℕ = to_le_bytes w32 (length payload) in
    let split : record_of payload ++ tail ≡ number ++ (payload ++ tail) = append_assoc number payload tail in
    let four : take 4 (record_of payload ++ tail) ≡ number = ap (take 4) split ∙ take_at number (payload ++ tail) 4 refl in
    let behind : drop 4 (record_of payload ++ tail) ≡ payload ++ tail = ap (drop 4) split ∙ drop_at number (payload ++ tail) 4 refl in
    let len : payload_len (record_of payload ++ tail) ≡ length payload = ap (from_le_bytes w32) four ∙ from_le_bytes-to_le_bytes_4 (length payload) short in
    ap₂ (λ (n : ℕ) (bytes : List ℕ). take n bytes ∷ payloads_within steps (drop n bytes)) len behind
    ∙ ap₂ (λ (first rest : List ℕ). first ∷ payloads_within steps rest) (take_at payload tail (length payload) refl) (drop_at payload tail (length payload) refl)

payloads_again : (steps : List ℕ) (payloads : List (List ℕ)) (gate : ℕ) (more : List ℕ) → gate ≢ 1 → AllByRecursion IsPayload payloads → length payloads ≤ length steps
    → payloads_within steps (records_of payloads ++ gate ∷ more) ≡ payloads
payloads_again steps [] gate more closed short few = closed_none steps gate more closed
payloads_again [] (p ∷ ps) gate more closed short few = absurd (omega (arith, few))
payloads_again (step ∷ steps) (p ∷ ps) gate more closed short few =
    ap (λ (bytes : List ℕ). payloads_within (step ∷ steps) (1 ∷ bytes)) (append_assoc (record_of p) (records_of ps) (gate ∷ more))
    ∙ one_record step steps p (records_of ps ++ gate ∷ more) short.0
    ∙ ap (λ (qs : List (List ℕ)). p ∷ qs) (payloads_again steps ps gate more closed short.1 (omega (arith, few)))

-- Those of a slot are those for which it stands.
slot_again : (slot : List ℕ) (payloads : List (List ℕ)) → Slot Two slot payloads → payloads_in slot ≡ payloads
slot_again slot payloads s =
    let few : length payloads ≤ length slot = omega (arith, ap length s.split, length-append (records_of payloads) (s.gate ∷ s.more), few_payloads payloads) in
    ap (λ (bytes : List ℕ). payloads_within slot (drop 8 bytes)) s.split ∙ payloads_again slot payloads s.gate s.more s.closed s.short few

records_by : (mark : ℕ) (image : Image) (records : List (List ℕ)) → length (image Mark) ≡ mark → 0 < mark → StandsBy mark Two image records → records_in image ≡ records
records_by zero image records is some stands = absurd (omega (arith, some))
records_by (suc turn) image records is some stands =
    ap (λ (n : ℕ). payloads_in (image (slot_of n))) is ∙ slot_again (image (slot_of (suc turn))) records stands

-- The records of a folder whose mark is not empty are those for which it stands.
pub records_again : (image : Image) (records : List (List ℕ)) → 0 < length (image Mark) → Stands Two image records → records_in image ≡ records
records_again image records some stands = records_by (length (image Mark)) image records refl some stands

-- ---- a follower that is ready

-- The store of a follower that stands as its folder reads has a mark.
some_mark : (stored : Stored) (reads : Image) (images : Image → Type 0) → ReadsAs stored reads images → 0 < length (reads Mark)
some_mark stored reads images held = let some = held.some in omega (arith, held.kept.mark, some)

-- Its folder stands for the records that it reads.
pub stands_records : (f : Followed) (reads : Image) (images : Image → Type 0) → HoldsState f.stored → (held : ReadsAs f.stored reads images)
    → Stands Two reads (records_in reads) × (records_in reads ≡ held.kept.batches)
stands_records f reads images holds held =
    let stands : Stands Two reads held.kept.batches = subst (λ (g : Format). Stands g reads held.kept.batches) holds.format held.kept.stands in
    let same = records_again reads held.kept.batches (some_mark f.stored reads images held) stands in
    (subst (λ (records : List (List ℕ)). Stands Two reads records) (sym same) stands, same)

-- A follower that is ready stands as its folder reads, and the other way round.
pub stands_as : (f : Followed) (tells : Bool) (reads : Image) (images : Image → Type 0) → IsReady (copy_needs f) tells reads images → IsTrue tells → StandsAs f reads images
stands_as f tells reads images ready told = record {
  stored = record {
    some = (ready.stands told).0;
    kept = (ready.stands told).1;
    stable_mark = record { each = λ image left. (ready.leaves told image left).0 };
    stable_slot = record { each = λ image left. (ready.leaves told image left).1 };
  };
  sought = (ready.stands told).2;
}

pub ready_as : (f : Followed) (tells : Bool) (reads : Image) (images : Image → Type 0) → HoldsState f.stored → (IsTrue tells → StandsAs f reads images) → IsReady (copy_needs f) tells reads images
ready_as f tells reads images holds stands = record {
  holds = holds;
  stands = λ told. let held = stands told in (held.stored.some, held.stored.kept, held.sought);
  leaves = λ told image left. let held = stands told in (held.stored.stable_mark.each image left, held.stored.stable_slot.each image left);
}

-- ---- the images that open to a copy

-- What opens to the rows of a copy, and to a state, opens to the copy.
opens_by : (mark : ℕ) (image : Image) (c : Copy) → length (image Mark) ≡ mark → OpensTo Two image c.rows → OpensToSome image → OpensToCopy image c
opens_by zero image c is opens some = record {
  state = some.state;
  opens = some.opens;
  rows = none_opens Two image c.rows is opens ∙ sym (start_rows Two) ∙ ap (byte_rows_of Two) (sym (opens_to_start image some.state is some.opens));
}
opens_by (suc turn) image c is opens some =
    let same = one_opens Two some.opens.format image c.rows (byte_rows_of some.opens.format some.state) opens some.opens.rows in
    let form : Two ≡ some.opens.format = same.0 (omega (arith, is)) in
    record { state = some.state; opens = some.opens; rows = same.1 ∙ ap (λ (g : Format). byte_rows_of g some.state) (sym form) }

pub opens_copy : (image : Image) (c : Copy) → OpensTo Two image c.rows → OpensToSome image → OpensToCopy image c
opens_copy image c opens some = opens_by (length (image Mark)) image c refl opens some

-- What opens to the rows of a store that has those of a state opens to a copy of these rows.
pub state_copy : (stored : Stored) (image : Image) (c : Copy) → HoldsState stored → c.rows ≡ stored.rows → OpensTo stored.format image stored.rows → OpensToCopy image c
state_copy stored image c holds rows opens =
    let two : OpensTo Two image (byte_rows_of Two holds.state) =
    subst (λ (r : ByteRows). OpensTo Two image r) holds.rows (subst (λ (g : Format). OpensTo g image stored.rows) holds.format opens) in
    record { state = holds.state; opens = record { format = Two; has = tt; valid = holds.valid; rows = two }; rows = rows ∙ holds.rows }

-- Two accounts of the images that a call leaves are one.
both_of : {A X Y : Type 0} → A ⊎ X → A ⊎ Y → A ⊎ (X × Y)
both_of (inl a) second = inl a
both_of (inr x) (inl a) = inl a
both_of (inr x) (inr y) = inr (x, y)

both_now : {A : Type 0} {X Y : Image → Type 0} (said : Option (List ℕ)) (image : Image) (taken : List ℕ) → A ⊎ (Now X said image taken × Now Y said image taken) → A ⊎ Now (λ i. X i × Y i) said image taken
both_now said image taken (inl a) = inl a
both_now said image taken (inr p) = inr (record { found = (p.0.found, p.1.found); replies = p.0.replies })

leaves_both : {D : Type 0} {seen : D → Seen} {stopped : D → Stopped} {old new : D} {X Y : Image → Type 0} → Leaves seen stopped old new X → Leaves seen stopped old new Y → Leaves seen stopped old new (λ i. X i × Y i)
leaves_both {seen = seen} {old = old} {X = X} {Y = Y} first second = record {
  time = record {
    later = first.time.later;
    nothing_else = λ time image taken le since. both_now {X = X} {Y = Y} (seen old).said image taken (both_of (first.time.nothing_else time image taken le since) (second.time.nothing_else time image taken le since));
  };
  found = λ image left. (first.found image left, second.found image left);
  quiet = first.quiet;
}

-- ---- a frame that was taken

-- What is so of the copy of a told folder is so of what answers.
pub told_copy : (so : Option Copy → Type 0) (tells : Bool) (reads : Image) (f : Followed) → IsTrue tells → so (Some (copy_of (records_in reads) f)) → so (copy_at tells reads f)
told_copy so true reads f told is = is
told_copy so false reads f told is = absurd (false≢true told)

-- The follower is the copy behind the frame.
pub copy_next : (who : Who) (frame : Frame) (tells : Bool) (before reads : Image) (images now : Image → Type 0) (old new : Followed) (taken : Taken) → HoldsState old.stored
    → (IsTrue tells → StandsAs old before images) → (IsTrue tells → StandsAs new reads now)
    → (IsTrue tells → (records : List (List ℕ)) → Stands Two before records → IsTaken frame records old new reads taken)
    → copy_at tells reads new ≡ (follower old.stored.bounds).next who frame (copy_at tells before old)
copy_next who frame false before reads images now old new taken holds stands later takes = refl
copy_next who frame true before reads images now old new taken holds stands later takes =
    let t = takes refl (records_in before) (stands_records old before images holds (stands refl).stored).0 in
    let same = records_again reads (copy_behind_frame frame (records_in before) old).records (some_mark new.stored reads now (later refl).stored) t.folder in
    ap Some (ap (λ (records : List (List ℕ)). copy_of records new) same ∙ t.copy)

-- Its reply is what became of the frame, and the serial of the copy behind it.
pub copy_replied : (who : Who) (frame : Frame) (sequence : ℕ) (tells : Bool) (before reads : Image) (images : Image → Type 0) (old new : Followed) (taken : Taken) (own : ℕ) → HoldsState old.stored
    → (IsTrue tells → StandsAs old before images) → (IsTrue tells → (records : List (List ℕ)) → Stands Two before records → IsTaken frame records old new reads taken)
    → own ≡ serial_in_store new.stored → are_its_own true tells ≡ true
    → spelling (taken_frame sequence frame.sequence own taken) ≡ (follower old.stored.bounds).reply sequence who frame (copy_at tells before old)
copy_replied who frame sequence false before reads images old new taken own holds stands takes is told = absurd (false≢true told)
copy_replied who frame sequence true before reads images old new taken own holds stands takes is told =
    let t = takes refl (records_in before) (stands_records old before images holds (stands refl).stored).0 in
    ap₂ (λ (n : ℕ) (x : Taken). spelling (taken_frame sequence frame.sequence n x)) (is ∙ ap own_serial t.copy) t.answer

-- What a stop may leave opens to the copy.
pub copy_found : (f : Followed) (tells : Bool) (reads : Image) (images : Image → Type 0) → HoldsState f.stored → StandsAs f reads images → IsTrue tells → (image : Image) → images image
    → IsSomeAnd (copy_at tells reads f) (OpensToCopy image)
copy_found f tells reads images holds stands told image left =
    told_copy (λ (m : Option Copy). IsSomeAnd m (OpensToCopy image)) tells reads f told
    (state_copy f.stored image (copy_of (records_in reads) f) holds refl (reads_opens f.stored reads images stands.stored image left))

-- A stop within the taking leaves the copy before the frame, or the one behind it.
pub copy_stops : {D : Type 0} {seen : D → Seen} {stopped : D → Stopped} {desk now : D}
    (who : Who) (frame : Frame) (tells : Bool) (before : Image) (images : Image → Type 0) (old : Followed) → HoldsState old.stored → (IsTrue tells → StandsAs old before images)
    → ((records : List (List ℕ)) → Stands Two before records
    → Leaves seen stopped desk now (λ image. OpensTo Two image old.stored.rows ⊎ OpensTo Two image (copy_behind_frame frame records old).rows))
    → Leaves seen stopped desk now OpensToSome → IsTrue tells
    → Leaves seen stopped desk now (λ image. (follower old.stored.bounds).opens image (copy_at tells before old)
    ⊎ (follower old.stored.bounds).opens image ((follower old.stored.bounds).next who frame (copy_at tells before old)))
copy_stops who frame false before images old holds stands leaves some told = absurd (false≢true told)
copy_stops who frame true before images old holds stands leaves some told =
    let records = records_in before in
    let c : Copy = copy_of records old in
    let next : Copy = (follow old.stored.bounds frame c).1 in
    Leaves-weaker _ (leaves_both (leaves records (stands_records old before images holds (stands refl).stored).0) some) (opens_either c next)
  where
    opens_either : (c next : Copy) (image : Image) → (OpensTo Two image c.rows ⊎ OpensTo Two image next.rows) × OpensToSome image → OpensToCopy image c ⊎ OpensToCopy image next
    opens_either c next image (inl opens, some) = inl (opens_copy image c opens some)
    opens_either c next image (inr opens, some) = inr (opens_copy image next opens some)
