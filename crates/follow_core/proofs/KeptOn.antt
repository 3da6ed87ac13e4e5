-- A batch that leads on, once the store was asked to keep it.
use Rattle.std.specs.Prelude.{⊤, IfOk, IfErr, OnOk, OnErr}
use Rattle.std.proofs.Common.{◌≡◌, ◌⊎◌, inl, inr, ℕ, ◌+◌, ◌==◌, ◌<◌, ◌≤◌, Bool, true, false, IsTrue, cond, not, ◌&&◌, ◌||◌, nat_lt, List, [], ◌∷◌, ◌++◌, length, Option, None, Some, Ok, Err, refl, sym, ap, ◌∙◌, subst, true≢false}
use Rattle.std.specs.declared.result.Result.{Result}
use Rattle.std.specs.Option.{unwrap_or}
use Rattle.ziti_outside.specs.Images.{Image}
use Rattle.ziti_outside.specs.Moments.{Leaves}
use Rattle.ziti_outside.specs.Untouched.{OnlyReads}
use Rattle.ziti_outside.specs.Views.{Seen, Stopped}
use Rattle.ziti_outside.proofs.MomentLaws.{Leaves-none, Leaves-weaker, OnlyReads-none}
use Rattle.ctrl_model.specs.declared.formats.Format.{Format}
use Rattle.ctrl_model.specs.declared.formats.Format.TheVariants.{Two}
use Rattle.ship_frames.specs.declared.shipments.Shipment.{Shipment}
use Rattle.ship_frames.specs.declared.shipments.Sort.{Sort}
use Rattle.ship_frames.specs.declared.shipments.Sort.TheVariants.{Whole, Next}
use Rattle.ship_frames.specs.GatheredPieces.{Parts}
use Rattle.slot_files.specs.FolderImage.{Stands}
use Rattle.row_codec.specs.declared.changes.Op.{Op}
use Rattle.row_codec.specs.Batches.{batch_bytes, Spells}
use Rattle.slot_reading.specs.BatchRows.{ByteRows, rows_after, serial_of}
use Rattle.row_store.specs.OpenedRows.{OpensTo}
use Rattle.row_store.specs.StoredRows.{Stored, IsStoreOf, ReadsAs}
use Rattle.row_store.proofs.CommitLaws.{reads_opens}
use Rattle.row_judging.proofs.SerialRows.{serial_of_state}
use Rattle.follow_core.specs.declared.faults.FollowFault.{FollowFault}
use Rattle.follow_core.specs.declared.faults.FollowFault.TheVariants.{Disk, Full, MarkFull, Damaged, Spent, NoMemory}
use Rattle.follow_core.specs.declared.sought.Sought.{Sought}
use Rattle.follow_core.specs.declared.taken.Taken.{Taken}
use Rattle.follow_core.specs.declared.taken.Taken.TheVariants as takens
use Rattle.follow_core.specs.Faults.{ReceiveFails}
use Rattle.follow_core.specs.Following.{is_whole, is_no_whole}
use Rattle.follow_core.specs.FollowedCopies.{HoldsState, AreSoughtIn, serial_in_store}
use Rattle.follow_core.specs.Steps.{is_begun, is_replaced, rows_under, comes_late, comes_early, LeadsOn, stored_behind, kept_behind, HasRoomFor, KeepsSo, KeepsNot}
use Rattle.follow_core.specs.TakenFrames.{OpensToSome, IsReceived, copy_behind_batch}
use Rattle.follow_core.proofs.DecidedBatches.{IsCopyOf, none_given}
use Rattle.follow_core.proofs.KeptCopies.{stored_rows}
use Rattle.follow_core.proofs.LeadingBatches.{behind_holds, behind_plain, next_serial}
use Rattle.follow_core.proofs.ReceivedBatches.{copy_told, kept_received, room_rows, either_rows, not_taken}
use Rattle.follow_core.proofs.SoughtRecords.{sought_more, sought_none, sought_in}

-- A batch that may be kept by a store.
pub record MayKeep (s : Shipment) (ops : List Op) (stored : Stored) : Type 0 where
  pub unspent : stored.spent ≡ false
  pub opened : stored.opened ≡ true
  pub holds : HoldsState stored
  pub spells : Spells s.bytes ops
  pub good : is_no_whole s ops ≡ false
  pub now : comes_late s stored ≡ false
  pub due : comes_early s stored ≡ false
  pub on : LeadsOn s ops stored

-- A keeping that came to an end: what it made, or why it failed.
pub record Ends {D : Type 0} (s : Shipment) (ops : List Op) (old new : Stored) (desk later : D) (r : Result Taken FollowFault) : Type 0 where
  pub kept : IfOk r (KeepsSo s.sort ops old new desk later)
  pub failed : IfErr r (KeepsNot s.sort ops old new desk later)

-- It took the batch, or did nothing, or spent the store while there was room.
data_of : {D : Type 0} (s : Shipment) (ops : List Op) (old new : Stored) (desk later : D) (r : Result Taken FollowFault) → Ends s ops old new desk later r
    → (HasRoomFor s.sort ops old × (new ≡ stored_behind s.sort ops old)) ⊎ (((new ≡ old) × (later ≡ desk)) ⊎ (HasRoomFor s.sort ops old × (new.spent ≡ true)))
data_of s ops old new desk later (Ok takens.Took) e = inl e.kept
data_of s ops old new desk later (Ok takens.Full) e = inr (inl e.kept.1)
data_of s ops old new desk later (Ok takens.MarkFull) e = inr (inl e.kept.3)
data_of s ops old new desk later (Ok takens.Repeat) e = absurd e.kept
data_of s ops old new desk later (Ok takens.Old) e = absurd e.kept
data_of s ops old new desk later (Ok takens.Piece) e = absurd e.kept
data_of s ops old new desk later (Ok takens.Skipped) e = absurd e.kept
data_of s ops old new desk later (Ok takens.Ahead) e = absurd e.kept
data_of s ops old new desk later (Ok takens.BadShip) e = absurd e.kept
data_of s ops old new desk later (Ok takens.BadBatch) e = absurd e.kept
data_of s ops old new desk later (Ok (takens.Differs serial at)) e = absurd e.kept
data_of s ops old new desk later (Err Disk) e = inr (inr (e.failed.0, e.failed.1))
data_of s ops old new desk later (Err Full) e = absurd e.failed
data_of s ops old new desk later (Err MarkFull) e = absurd e.failed
data_of s ops old new desk later (Err (Damaged part at)) e = absurd e.failed
data_of s ops old new desk later (Err Spent) e = absurd e.failed
data_of s ops old new desk later (Err NoMemory) e = by e.failed.1
  where
    by : ((new ≡ old) × (later ≡ desk)) ⊎ (new.spent ≡ true) → (HasRoomFor s.sort ops old × (new ≡ stored_behind s.sort ops old)) ⊎ (((new ≡ old) × (later ≡ desk)) ⊎ (HasRoomFor s.sort ops old × (new.spent ≡ true)))
    by (inl none) = inr (inl none)
    by (inr spent) = inr (inr (e.failed.0, spent))

-- ---- the store then

pub ends_holds : {D : Type 0} (s : Shipment) (ops : List Op) (old new : Stored) (desk later : D) (r : Result Taken FollowFault) → MayKeep s ops old → Ends s ops old new desk later r
    → new.spent ≡ false → (new.opened ≡ true) × HoldsState new
ends_holds s ops old new desk later r m e fresh = by (data_of s ops old new desk later r e)
  where
    by : (HasRoomFor s.sort ops old × (new ≡ stored_behind s.sort ops old)) ⊎ (((new ≡ old) × (later ≡ desk)) ⊎ (HasRoomFor s.sort ops old × (new.spent ≡ true))) → (new.opened ≡ true) × HoldsState new
    by (inl took) = ((behind_plain s.sort ops old new took.1).2 ∙ m.opened, behind_holds s ops old new m.holds m.on took.1)
    by (inr (inl none)) = (ap (λ (n : Stored). n.opened) none.0 ∙ m.opened, subst HoldsState (sym none.0) m.holds)
    by (inr (inr spent)) = absurd (true≢false (sym spent.1 ∙ fresh))

pub ends_unspent : {D : Type 0} (s : Shipment) (ops : List Op) (old new : Stored) (desk later : D) (r : Result Taken FollowFault) → MayKeep s ops old → IfOk r (KeepsSo s.sort ops old new desk later)
    → OnOk r ((new.spent ≡ false) × (new.bounds ≡ old.bounds))
ends_unspent s ops old new desk later (Err fault) m kept = tt
ends_unspent s ops old new desk later (Ok t) m kept = by (data_of s ops old new desk later (Ok t) (record { kept = kept; failed = tt }))
  where
    by : (HasRoomFor s.sort ops old × (new ≡ stored_behind s.sort ops old)) ⊎ (((new ≡ old) × (later ≡ desk)) ⊎ (HasRoomFor s.sort ops old × (new.spent ≡ true)))
        → (new.spent ≡ false) × (new.bounds ≡ old.bounds)
    by (inl took) = let p = behind_plain s.sort ops old new took.1 in (p.0 ∙ m.unspent, p.1)
    by (inr (inl none)) = (ap (λ (n : Stored). n.spent) none.0 ∙ m.unspent, ap (λ (n : Stored). n.bounds) none.0)
    by (inr (inr spent)) = spends t kept spent.1
      where
        spends : (u : Taken) → KeepsSo s.sort ops old new desk later u → new.spent ≡ true → (new.spent ≡ false) × (new.bounds ≡ old.bounds)
        spends takens.Took k f = absurd (true≢false (sym f ∙ (behind_plain s.sort ops old new k.1).0 ∙ m.unspent))
        spends takens.Full k f = absurd (true≢false (sym f ∙ ap (λ (n : Stored). n.spent) k.1.0 ∙ m.unspent))
        spends takens.MarkFull k f = absurd (true≢false (sym f ∙ ap (λ (n : Stored). n.spent) k.3.0 ∙ m.unspent))
        spends takens.Repeat k f = absurd k
        spends takens.Old k f = absurd k
        spends takens.Piece k f = absurd k
        spends takens.Skipped k f = absurd k
        spends takens.Ahead k f = absurd k
        spends takens.BadShip k f = absurd k
        spends takens.BadBatch k f = absurd k
        spends (takens.Differs serial at) k f = absurd k

pub keep_failed : {D : Type 0} (s : Shipment) (ops : List Op) (old new : Stored) (desk later : D) (fault : FollowFault) → KeepsNot s.sort ops old new desk later fault → ReceiveFails old new fault
keep_failed s ops old new desk later Disk f = f.2
keep_failed s ops old new desk later Full f = f
keep_failed s ops old new desk later MarkFull f = f
keep_failed s ops old new desk later (Damaged part at) f = f
keep_failed s ops old new desk later Spent f = f
keep_failed s ops old new desk later NoMemory f = by f.1
  where
    by : ((new ≡ old) × (later ≡ desk)) ⊎ (new.spent ≡ true) → (new ≡ old) ⊎ (new.spent ≡ true)
    by (inl none) = inl none.0
    by (inr spent) = inr spent

-- ---- what was answered

pub both_ok : {T E : Type 0} (P Q R : T → Type 0) (r : Result T E) → ((x : T) → P x → Q x → R x) → IfOk r P → IfOk r Q → IfOk r R
both_ok P Q R (Ok x) f p q = f x p q
both_ok P Q R (Err e) f p q = tt

pub alone_reads : {D : Type 0} {seen : D → Seen} {stopped : D → Stopped} (desk later : D) → later ≡ desk → OnlyReads seen stopped desk later
alone_reads {D} {seen} {stopped} desk later e = subst (λ (d : D). OnlyReads seen stopped desk d) (sym e) (OnlyReads-none desk)

-- ---- stops

pub ends_stops : {D : Type 0} {seen : D → Seen} {stopped : D → Stopped} (s : Shipment) (ops : List Op) (old new : Stored) (desk later : D) (r : Result Taken FollowFault) (records : List (List ℕ)) (parts : Option Parts)
    → MayKeep s ops old → Ends s ops old new desk later r → ReadsAs old (seen desk).reads (stopped desk).images → Stands Two (seen desk).reads records
    → Leaves seen stopped desk later (λ image. OpensTo Two image old.rows ⊎ OpensTo Two image (rows_after (rows_under s.sort old) ops))
    → Leaves seen stopped desk later (λ image. OpensTo Two image old.rows ⊎ OpensTo Two image (copy_behind_batch s records old parts).rows)
ends_stops {D} {seen} {stopped} s ops old new desk later r records parts m e reads stands leaves = by (data_of s ops old new desk later r e)
  where
    copy : IsCopyOf records old
    copy = copy_told (seen desk).reads old records m.holds.format reads.kept stands

    with_room : HasRoomFor s.sort ops old → Leaves seen stopped desk later (λ image. OpensTo Two image old.rows ⊎ OpensTo Two image (copy_behind_batch s records old parts).rows)
    with_room room =
        Leaves-weaker _ leaves
        (λ image p. either_rows image old.rows (rows_after (rows_under s.sort old) ops) (copy_behind_batch s records old parts).rows (room_rows s ops records parts old copy m.holds m.spells m.good m.now m.due m.on room) p)

    by : (HasRoomFor s.sort ops old × (new ≡ stored_behind s.sort ops old)) ⊎ (((new ≡ old) × (later ≡ desk)) ⊎ (HasRoomFor s.sort ops old × (new.spent ≡ true)))
        → Leaves seen stopped desk later (λ image. OpensTo Two image old.rows ⊎ OpensTo Two image (copy_behind_batch s records old parts).rows)
    by (inl took) = with_room took.0
    by (inr (inl none)) =
        subst (λ (d : D). Leaves seen stopped desk d (λ image. OpensTo Two image old.rows ⊎ OpensTo Two image (copy_behind_batch s records old parts).rows)) (sym none.1)
        (Leaves-weaker _ (Leaves-none desk)
        (λ image p. inl (subst (λ (f : Format). OpensTo f image old.rows) m.holds.format (reads_opens old (seen desk).reads (stopped desk).images reads image p))))
    by (inr (inr spent)) = with_room spent.0

-- ---- where records are sought

own_of : (stored : Stored) (h : HoldsState stored) → serial_in_store stored ≡ h.state.serial
own_of stored h = ap (λ (r : ByteRows). unwrap_or (serial_of r) 0) h.rows ∙ ap (λ (o : Option ℕ). unwrap_or o 0) (serial_of_state h.state h.valid)

-- A batch that is added behind records is a Next of the next serial.
added_serial : (s : Shipment) (stored : Stored) → comes_late s stored ≡ false → comes_early s stored ≡ false → is_replaced s.sort stored ≡ false → is_begun stored ≡ true
    → s.serial ≡ serial_in_store stored + 1
added_serial s stored late early e begun = by s.sort refl
  where
    by : (sort : Sort) → s.sort ≡ sort → s.serial ≡ serial_in_store stored + 1
    by Whole same = let both : true ≡ false = sym (ap (λ (t : Sort). is_whole t && is_begun stored) same ∙ begun) ∙ e in absurd (true≢false both)
    by Next same =
        let due : not (is_begun stored) || nat_lt (serial_in_store stored + 1) s.serial ≡ false =
        ap (λ (t : Sort). not (is_whole t) && (not (is_begun stored) || nat_lt (serial_in_store stored + 1) s.serial)) (sym same) ∙ early in
        (next_serial s.serial (serial_in_store stored) (is_begun stored) late due).1

own_next : (s : Shipment) (ops : List Op) (old new : Stored) → MayKeep s ops old → new ≡ stored_behind s.sort ops old → is_replaced s.sort old ≡ false → is_begun old ≡ true
    → serial_in_store new ≡ serial_in_store old + 1
own_next s ops old new m is e begun =
    ap (λ (r : ByteRows). unwrap_or (serial_of r) 0) (ap (λ (n : Stored). n.rows) is ∙ stored_rows s.sort ops old ∙ m.on.behind.rows_are)
    ∙ ap (λ (o : Option ℕ). unwrap_or o 0) (serial_of_state m.on.behind.state m.on.behind.valid) ∙ m.on.behind.serial_is ∙ added_serial s old m.now m.due e begun

sought_behind : (s : Shipment) (ops : List Op) (old new : Stored) (records : List (List ℕ)) (sought : Option Sought) → MayKeep s ops old → IsCopyOf records old → new ≡ stored_behind s.sort ops old
    → AreSoughtIn records (serial_in_store old) sought → AreSoughtIn (kept_behind s.sort ops old records) (serial_in_store new) (cond (is_replaced s.sort old) None sought)
sought_behind s ops old new records sought m k is are = by (is_replaced s.sort old) refl (is_begun old) refl
  where
    by : (b : Bool) → is_replaced s.sort old ≡ b → (t : Bool) → is_begun old ≡ t
        → AreSoughtIn (cond b (batch_bytes ops ∷ []) (records ++ batch_bytes ops ∷ [])) (serial_in_store new) (cond b None sought)
    by true e t f = tt
    by false e true f = sought_more records (batch_bytes ops) (serial_in_store old) (serial_in_store new) sought (own_next s ops old new m is e f) are
    by false e false f =
        let none = (none_given records old k f).0 in
        subst (λ (l : List (List ℕ)). AreSoughtIn (l ++ batch_bytes ops ∷ []) (serial_in_store new) sought) (sym none)
        (sought_none (serial_in_store old) (serial_in_store new) (batch_bytes ops) sought (subst (λ (l : List (List ℕ)). AreSoughtIn l (serial_in_store old) sought) none are))

or_none : (b : Bool) (records : List (List ℕ)) (own : ℕ) (sought : Option Sought) → AreSoughtIn records own sought → AreSoughtIn records own (cond b None sought)
or_none true records own sought are = tt
or_none false records own sought are = are

same_sought : {D : Type 0} (seen : D → Seen) (s : Shipment) (old new : Stored) (desk later : D) (sought : Option Sought) → new ≡ old → later ≡ desk
    → ((records : List (List ℕ)) → Stands Two (seen desk).reads records → AreSoughtIn records (serial_in_store old) sought) → (records : List (List ℕ)) → Stands Two (seen later).reads records
    → AreSoughtIn records (serial_in_store new) (cond (is_replaced s.sort old) None sought)
same_sought {D} seen s old new desk later sought e f are records stands =
    or_none (is_replaced s.sort old) records (serial_in_store new) sought
    (subst (λ (n : Stored). AreSoughtIn records (serial_in_store n) sought) (sym e) (are records (subst (λ (d : D). Stands Two (seen d).reads records) f stands)))

pub ends_sought : {D : Type 0} (seen : D → Seen) (s : Shipment) (ops : List Op) (old new : Stored) (desk later : D) (r : Result Taken FollowFault) (sought : Option Sought) → MayKeep s ops old
    → IsStoreOf (seen desk).reads old → IfOk r (KeepsSo s.sort ops old new desk later) → IfErr r (KeepsNot s.sort ops old new desk later)
    → IfOk r (λ t. t ≡ takens.Took → (records : List (List ℕ)) → Stands Two (seen desk).reads records → Stands Two (seen later).reads (kept_behind s.sort ops old records))
    → ((records : List (List ℕ)) → Stands Two (seen desk).reads records → AreSoughtIn records (serial_in_store old) sought) → new.spent ≡ false
    → (records : List (List ℕ)) → Stands Two (seen later).reads records → AreSoughtIn records (serial_in_store new) (cond (is_replaced s.sort old) None sought)
ends_sought seen s ops old new desk later (Ok takens.Took) sought m kept keeps failed folder are fresh = λ records stands.
    let own = subst (λ (f : Format). Stands f (seen desk).reads kept.batches) m.holds.format kept.stands in
    let copy = copy_told (seen desk).reads old kept.batches m.holds.format kept own in
    sought_in (seen later).reads (kept_behind s.sort ops old kept.batches) records (serial_in_store new) (cond (is_replaced s.sort old) None sought) (folder refl kept.batches own) stands
    (sought_behind s ops old new kept.batches sought m copy keeps.1 (are kept.batches own))
ends_sought seen s ops old new desk later (Ok takens.Full) sought m kept keeps failed folder are fresh = same_sought seen s old new desk later sought keeps.1.0 keeps.1.1 are
ends_sought seen s ops old new desk later (Ok takens.MarkFull) sought m kept keeps failed folder are fresh = same_sought seen s old new desk later sought keeps.3.0 keeps.3.1 are
ends_sought seen s ops old new desk later (Ok takens.Repeat) sought m kept keeps failed folder are fresh = absurd keeps
ends_sought seen s ops old new desk later (Ok takens.Old) sought m kept keeps failed folder are fresh = absurd keeps
ends_sought seen s ops old new desk later (Ok takens.Piece) sought m kept keeps failed folder are fresh = absurd keeps
ends_sought seen s ops old new desk later (Ok takens.Skipped) sought m kept keeps failed folder are fresh = absurd keeps
ends_sought seen s ops old new desk later (Ok takens.Ahead) sought m kept keeps failed folder are fresh = absurd keeps
ends_sought seen s ops old new desk later (Ok takens.BadShip) sought m kept keeps failed folder are fresh = absurd keeps
ends_sought seen s ops old new desk later (Ok takens.BadBatch) sought m kept keeps failed folder are fresh = absurd keeps
ends_sought seen s ops old new desk later (Ok (takens.Differs serial at)) sought m kept keeps failed folder are fresh = absurd keeps
ends_sought seen s ops old new desk later (Err Disk) sought m kept keeps failed folder are fresh = absurd (true≢false (sym failed.1 ∙ fresh))
ends_sought seen s ops old new desk later (Err Full) sought m kept keeps failed folder are fresh = absurd failed
ends_sought seen s ops old new desk later (Err MarkFull) sought m kept keeps failed folder are fresh = absurd failed
ends_sought seen s ops old new desk later (Err (Damaged part at)) sought m kept keeps failed folder are fresh = absurd failed
ends_sought seen s ops old new desk later (Err Spent) sought m kept keeps failed folder are fresh = absurd failed
ends_sought seen s ops old new desk later (Err NoMemory) sought m kept keeps failed folder are fresh = by failed.1
  where
    by : ((new ≡ old) × (later ≡ desk)) ⊎ (new.spent ≡ true) → (records : List (List ℕ)) → Stands Two (seen later).reads records
        → AreSoughtIn records (serial_in_store new) (cond (is_replaced s.sort old) None sought)
    by (inl none) = same_sought seen s old new desk later sought none.0 none.1 are
    by (inr spent) = absurd (true≢false (sym spent ∙ fresh))
