-- What a batch that is kept makes of the folder, stopped or not.
use Rattle.std.proofs.Common.{◌≡◌, ◌⊎◌, inl, inr, Bool, true, false, if◌then◌else◌, ◌==◌, ℕ, ◌+◌, ◌-◌, ◌%◌, ◌^◌, ◌<◌, ◌≤◌, List, [], ◌∷◌, ◌++◌, length, refl, sym, ap, ◌∙◌, subst, arith, Err}
use Rattle.std.specs.declared.result.Result.{Result}
use Rattle.ziti_outside.specs.declared.desk.Part.{Part}
use Rattle.ziti_outside.specs.declared.desk.Part.TheVariants.{Zero, One, Mark}
use Rattle.ziti_outside.specs.Images.{Image, Else, OnPart, After, IsStable}
use Rattle.ctrl_model.specs.declared.formats.Format.{Format}
use Rattle.journal_core.specs.Slots.{Slot, IsClosed, IsPayload, ShutOrAdded, added, text_of, slot_end}
use Rattle.journal_core.proofs.SlotLaws.{slot_closed, slot_added, end-push}
use Rattle.slot_files.specs.FolderImage.{slot_of, StandsBy, Stands}
use Rattle.slot_files.proofs.StandLaws.{one_stands, same_stands, append_stands}
use Rattle.row_codec.specs.declared.changes.Op.{Op}
use Rattle.row_codec.specs.RowDifference.{IsTrueDifference}
use Rattle.row_codec.specs.Batches.{bytes_cmp, entries_of, batch_bytes, IsBatch}
use Rattle.row_store.specs.declared.faults.StoreFault.{StoreFault}
use Rattle.row_store.specs.declared.faults.StoreFault.TheVariants.{NoMemory}
use Rattle.row_store.specs.Faults.{IsKept}
use Rattle.slot_reading.specs.BatchRows.{ByteRows, Leads, MayLead, Give, rows_after}
use Rattle.row_store.specs.AddedBatches.{AddsBatch}
use Rattle.row_store.specs.OpenedRows.{OpensTo}
use Rattle.row_store.specs.StoredRows.{Stored, ReadsAs, with_ops}
use Rattle.slot_reading.proofs.BatchLaws.{Leads-of, give-push}
use Rattle.row_store.proofs.OpeningLaws.{by_slot, of_slot}

-- A slot is not the mark.
turn_no_mark : (even : Bool) → Mark ≡ (if even then Zero else One) → ⊥
turn_no_mark true e = cc
turn_no_mark false e = cc

mark_apart : (part : Part) (mark : ℕ) → part ≡ slot_of mark → Mark ≡ part → ⊥
mark_apart part mark e f = turn_no_mark ((mark - 1) % 2 == 0) (f ∙ e)

-- The slot that stands, as the store has it.
pub own_slot : (stored : Stored) (reads : Image) (images : Image → Type 0) (r : ReadsAs stored reads images) → Slot stored.format (reads stored.part) r.kept.batches
own_slot stored reads images r =
    let some : 0 < length (reads Mark) = subst (λ (m : ℕ). 0 < m) (sym r.kept.mark) r.some in
    let part : stored.part ≡ slot_of (length (reads Mark)) = r.kept.part ∙ ap slot_of (sym r.kept.mark) in
    subst (λ (q : Part). Slot stored.format (reads q) r.kept.batches) (sym part) (of_slot (length (reads Mark)) stored.format reads r.kept.batches some r.kept.stands)

-- Its gate is closed at the kept end.
pub own_gate : (stored : Stored) (reads : Image) (images : Image → Type 0) → ReadsAs stored reads images → IsClosed stored.end (reads stored.part)
own_gate stored reads images r =
    subst (λ (n : ℕ). IsClosed n (reads stored.part)) (sym r.kept.end) (slot_closed stored.format (reads stored.part) r.kept.batches (own_slot stored reads images r))

-- The batch of operations leads from the kept rows to those after it.
own_lead : (stored : Stored) (ops : List Op) → IsBatch ops → IsTrueDifference bytes_cmp stored.rows (entries_of ops) → Leads stored.rows (batch_bytes ops) (rows_after stored.rows ops)
own_lead stored ops batch d = Leads-of stored.rows (rows_after stored.rows ops) (batch_bytes ops) ops (record { batch = batch; spelled = refl }) d refl

-- The kept batches and that of the operations give the rows after them.
own_gives : (stored : Stored) (ops : List Op) (batches : List (List ℕ)) → Give stored.format batches stored.rows → stored.end ≡ slot_end batches → IsBatch ops
    → IsTrueDifference bytes_cmp stored.rows (entries_of ops) → MayLead stored.format stored.end stored.rows (rows_after stored.rows ops)
    → Give stored.format (batches ++ batch_bytes ops ∷ []) (rows_after stored.rows ops)
own_gives stored ops batches give end batch d may =
    give-push stored.format batches (batch_bytes ops) stored.rows (rows_after stored.rows ops) give (own_lead stored ops batch d)
    (subst (λ (n : ℕ). MayLead stored.format n stored.rows (rows_after stored.rows ops)) end may)

-- A batch that the bound of a slot allows has a length that fits four bytes.
pub short_batch : (end most : ℕ) (bytes : List ℕ) → end + 6 + length bytes ≤ most → most ≤ 2 ^ 30 → IsPayload bytes
short_batch end most bytes room bound = omega arith

-- What a stop within the append leaves opens to the rows before or to those after it.
pub commit_stops : (stored : Stored) (reads : Image) (images : Image → Type 0) (ops : List Op) → ReadsAs stored reads images → IsBatch ops
    → IsTrueDifference bytes_cmp stored.rows (entries_of ops) → MayLead stored.format stored.end stored.rows (rows_after stored.rows ops) → IsPayload (batch_bytes ops)
    → (image : Image) → After (OnPart stored.part (ShutOrAdded stored.end (text_of (batch_bytes ops)))) images image
    → OpensTo stored.format image stored.rows ⊎ OpensTo stored.format image (rows_after stored.rows ops)
commit_stops stored reads images ops r batch d may short image p =
    let f = stored.format in
    let from = p.from in
    let mark : length (from Mark) ≡ length (reads Mark) = ap length (r.stable_mark.each from p.was) in
    let part : stored.part ≡ slot_of (length (reads Mark)) = r.kept.part ∙ ap slot_of (sym r.kept.mark) in
    let slot : from (slot_of (length (reads Mark))) ≡ reads (slot_of (length (reads Mark))) = subst (λ (q : Part). from q ≡ reads q) part (r.stable_slot.each from p.was) in
    let stands : Stands f from r.kept.batches = (same_stands f reads from mark slot).still r.kept.batches r.kept.stands in
    let some : 0 < length (from Mark) = subst (λ (m : ℕ). 0 < m) (sym (mark ∙ r.kept.mark)) r.some in
    let here : stored.part ≡ slot_of (length (from Mark)) = part ∙ ap slot_of (sym mark) in
    let step : OnPart (slot_of (length (from Mark))) (ShutOrAdded (slot_end r.kept.batches) (text_of (batch_bytes ops))) from image =
    subst (λ (n : ℕ). OnPart (slot_of (length (from Mark))) (ShutOrAdded n (text_of (batch_bytes ops))) from image) r.kept.end
    (subst (λ (q : Part). OnPart q (ShutOrAdded stored.end (text_of (batch_bytes ops))) from image) here p.by) in
    elim (append_stands f from image (batch_bytes ops) r.kept.batches some stands short step) as (λ _. OpensTo f image stored.rows ⊎ OpensTo f image (rows_after stored.rows ops)) [
      | inl s ↦ inl (record { batches = r.kept.batches; stands = s; give = r.kept.give })
      | inr s ↦ inr (record {
        batches = r.kept.batches ++ batch_bytes ops ∷ [];
        stands = s;
        give = own_gives stored ops r.kept.batches r.kept.give r.kept.end batch d may;
      })
    ]

-- The folder stands for one batch more after the append.
append_longer : (stored : Stored) (reads new : Image) (images : Image → Type 0) (batch : List ℕ) (r : ReadsAs stored reads images) → IsPayload batch
    → new stored.part ≡ added stored.end (text_of batch) (reads stored.part) → Else stored.part reads new → Stands stored.format new (r.kept.batches ++ batch ∷ [])
append_longer stored reads new images batch r short e others =
    let longer = r.kept.batches ++ batch ∷ [] in
    let count : length (new Mark) ≡ stored.mark = ap length (others.same Mark (mark_apart stored.part stored.mark r.kept.part)) ∙ r.kept.mark in
    let slot : Slot stored.format (new stored.part) longer = slot_added stored.format (reads stored.part) (new stored.part) batch r.kept.batches (own_slot stored reads images r) short
    (e ∙ ap (λ (n : ℕ). added n (text_of batch) (reads stored.part)) r.kept.end) in
    let by_part : Slot stored.format (new (slot_of stored.mark)) longer = subst (λ (q : Part). Slot stored.format (new q) longer) r.kept.part slot in
    subst (λ (m : ℕ). StandsBy m stored.format new longer) (sym count) (by_slot stored.mark stored.format new longer r.some by_part)

-- The folder reads as the store stands after the append.
pub commit_stands : (stored next : Stored) (reads new : Image) (images later : Image → Type 0) (ops : List Op) → ReadsAs stored reads images → IsBatch ops
    → IsTrueDifference bytes_cmp stored.rows (entries_of ops) → MayLead stored.format stored.end stored.rows (rows_after stored.rows ops) → IsPayload (batch_bytes ops)
    → next.format ≡ stored.format → next.rows ≡ rows_after stored.rows ops → next.part ≡ stored.part → next.mark ≡ stored.mark → next.end ≡ stored.end + 5 + length (batch_bytes ops)
    → new stored.part ≡ added stored.end (text_of (batch_bytes ops)) (reads stored.part) → Else stored.part reads new → IsStable stored.part new later
    → ((image : Image) → later image → After (OnPart stored.part (ShutOrAdded stored.end (text_of (batch_bytes ops)))) images image)
    → ReadsAs next new later
commit_stands stored next reads new images later ops r batch d may short format rows part mark end e others stable found =
    let apart = mark_apart stored.part stored.mark r.kept.part in
    let same : new Mark ≡ reads Mark = others.same Mark apart in
    let longer = r.kept.batches ++ batch_bytes ops ∷ [] in
    let count : length (new Mark) ≡ stored.mark = ap length same ∙ r.kept.mark in
    let place = r.kept.end in
    let push = end-push (batch_bytes ops) r.kept.batches in
    record {
      some = subst (λ (m : ℕ). 0 < m) (sym mark) r.some;
      kept = record {
        mark = count ∙ sym mark;
        part = part ∙ r.kept.part ∙ ap slot_of (sym mark);
        batches = longer;
        stands = subst (λ (f : Format). Stands f new longer) (sym format) (append_longer stored reads new images (batch_bytes ops) r short e others);
        give = subst (λ (f : Format). Give f longer next.rows) (sym format)
            (subst (λ (l : ByteRows). Give stored.format longer l) (sym rows) (own_gives stored ops r.kept.batches r.kept.give r.kept.end batch d may));
        end = omega arith;
      };
      stable_mark = record {
        each = λ image p. let before = found image p in before.by.others.same Mark apart ∙ r.stable_mark.each before.from before.was ∙ sym same;
      };
      stable_slot = subst (λ (q : Part). IsStable q new later) (sym part) stable;
    }

-- ---- the same, of a store that is seen by its fields

pub seen_gate : (stored seen : Stored) (reads : Image) (images : Image → Type 0) → seen ≡ stored → ReadsAs stored reads images → IsClosed seen.end (reads seen.part)
seen_gate stored seen reads images e r = own_gate seen reads images (subst (λ (s : Stored). ReadsAs s reads images) (sym e) r)

pub seen_stops : (stored seen : Stored) (reads : Image) (images : Image → Type 0) (ops : List Op) (payload : List ℕ) → seen ≡ stored → ReadsAs stored reads images → IsBatch ops
    → IsTrueDifference bytes_cmp stored.rows (entries_of ops) → MayLead stored.format stored.end stored.rows (rows_after stored.rows ops)
    → payload ≡ batch_bytes ops → IsPayload (batch_bytes ops)
    → (image : Image) → After (OnPart seen.part (ShutOrAdded seen.end (text_of payload))) images image
    → OpensTo stored.format image stored.rows ⊎ OpensTo stored.format image (rows_after stored.rows ops)
seen_stops stored seen reads images ops payload e r batch d may f short image p =
    commit_stops stored reads images ops r batch d may short image
    (subst (λ (s : Stored). After (OnPart s.part (ShutOrAdded s.end (text_of (batch_bytes ops)))) images image) e
    (subst (λ (b : List ℕ). After (OnPart seen.part (ShutOrAdded seen.end (text_of b))) images image) f p))

pub seen_stands : (stored seen next : Stored) (reads new : Image) (images later : Image → Type 0) (ops : List Op) (payload : List ℕ) → seen ≡ stored → ReadsAs stored reads images → IsBatch ops
    → IsTrueDifference bytes_cmp stored.rows (entries_of ops) → MayLead stored.format stored.end stored.rows (rows_after stored.rows ops)
    → payload ≡ batch_bytes ops → IsPayload (batch_bytes ops)
    → next.format ≡ seen.format → next.rows ≡ rows_after seen.rows ops → next.part ≡ seen.part → next.mark ≡ seen.mark → next.end ≡ seen.end + 5 + length payload
    → new seen.part ≡ added seen.end (text_of payload) (reads seen.part) → Else seen.part reads new → IsStable seen.part new later
    → ((image : Image) → later image → After (OnPart seen.part (ShutOrAdded seen.end (text_of payload))) images image)
    → ReadsAs next new later
seen_stands stored seen next reads new images later ops payload e r batch d may f short format rows part mark end added_is others stable found =
    commit_stands seen next reads new images later ops
    (subst (λ (s : Stored). ReadsAs s reads images) (sym e) r) batch
    (subst (λ (s : Stored). IsTrueDifference bytes_cmp s.rows (entries_of ops)) (sym e) d)
    (subst (λ (s : Stored). MayLead s.format s.end s.rows (rows_after s.rows ops)) (sym e) may) short format rows part mark
    (end ∙ ap (λ (b : List ℕ). seen.end + 5 + length b) f)
    (added_is ∙ ap (λ (b : List ℕ). added seen.end (text_of b) (reads seen.part)) f) others stable
    (λ image p. subst (λ (b : List ℕ). After (OnPart seen.part (ShutOrAdded seen.end (text_of b))) images image) f (found image p))

-- For whatever batches the folder stood, it stands behind the append for these and the one of the operations.
pub seen_adds : (stored seen : Stored) (reads new : Image) (images : Image → Type 0) (ops : List Op) (payload : List ℕ) → seen ≡ stored → ReadsAs stored reads images
    → payload ≡ batch_bytes ops → IsPayload (batch_bytes ops) → new seen.part ≡ added seen.end (text_of payload) (reads seen.part) → Else seen.part reads new → AddsBatch ops reads new
seen_adds stored seen reads new images ops payload e r f short added_is others =
    let own : ReadsAs seen reads images = subst (λ (s : Stored). ReadsAs s reads images) (sym e) r in
    let ops_added = added_is ∙ ap (λ (b : List ℕ). added seen.end (text_of b) (reads seen.part)) f in
    let longer = append_longer seen reads new images (batch_bytes ops) own short ops_added others in
    let part : seen.part ≡ slot_of (length (reads Mark)) = own.kept.part ∙ ap slot_of (sym own.kept.mark) in
    let same : (f : Format) (batches : List (List ℕ)) → Stands f reads batches → (seen.format ≡ f) × (own.kept.batches ≡ batches) =
    λ f batches s.
    let here = one_stands seen.format f reads own.kept.batches batches own.kept.stands s in
    (here.0 (omega (arith, own.some, own.kept.mark)), here.1) in
    record {
      behind = λ f batches s.
          subst (λ (v : Format). Stands v new (batches ++ batch_bytes ops ∷ [])) (same f batches s).0
          (subst (λ (l : List (List ℕ)). Stands seen.format new (l ++ batch_bytes ops ∷ [])) (same f batches s).1 longer);
      slot = λ f batches s.
          subst (λ (q : Part). new q ≡ added (slot_end batches) (text_of (batch_bytes ops)) (reads q)) part
          (ops_added ∙ ap (λ (n : ℕ). added n (text_of (batch_bytes ops)) (reads seen.part)) (own.kept.end ∙ ap slot_end (same f batches s).1));
      others = subst (λ (q : Part). Else q reads new) part others;
    }

-- ---- what was kept, whatever came of the rows in memory

-- Every image of a folder that reads as a store stands opens to the store's rows.
pub reads_opens : (stored : Stored) (reads : Image) (images : Image → Type 0) → ReadsAs stored reads images → (image : Image) → images image → OpensTo stored.format image stored.rows
reads_opens stored reads images r image p =
    let mark : length (image Mark) ≡ length (reads Mark) = ap length (r.stable_mark.each image p) in
    let part : stored.part ≡ slot_of (length (reads Mark)) = r.kept.part ∙ ap slot_of (sym r.kept.mark) in
    let slot : image (slot_of (length (reads Mark))) ≡ reads (slot_of (length (reads Mark))) = subst (λ (q : Part). image q ≡ reads q) part (r.stable_slot.each image p) in
    record { batches = r.kept.batches; stands = (same_stands stored.format reads image mark slot).still r.kept.batches r.kept.stands; give = r.kept.give }

-- Where the batch was appended, every image opens to the rows after it.
pub seen_behind : (stored seen : Stored) (reads new : Image) (images later : Image → Type 0) (ops : List Op) (payload : List ℕ) → seen ≡ stored → ReadsAs stored reads images → IsBatch ops
    → IsTrueDifference bytes_cmp stored.rows (entries_of ops) → MayLead stored.format stored.end stored.rows (rows_after stored.rows ops)
    → payload ≡ batch_bytes ops → IsPayload (batch_bytes ops)
    → new seen.part ≡ added seen.end (text_of payload) (reads seen.part) → Else seen.part reads new → IsStable seen.part new later
    → ((image : Image) → later image → After (OnPart seen.part (ShutOrAdded seen.end (text_of payload))) images image)
    → (image : Image) → later image → OpensTo stored.format image (rows_after stored.rows ops)
seen_behind stored seen reads new images later ops payload e r batch d may f short added_is others stable found image p =
    subst (λ (s : Stored). OpensTo s.format image (rows_after s.rows ops)) e
    (reads_opens (with_ops seen ops) new later
    (seen_stands stored seen (with_ops seen ops) reads new images later ops payload e r batch d may f short refl refl refl refl
    (ap (λ (b : List ℕ). seen.end + 5 + length b) (sym f)) added_is others stable found) image p)

-- Where memory was wanting, the batch had been appended.
pub kept_none : (T : Type 0) (fault : StoreFault) → fault ≡ NoMemory → IsKept {T = T} (Err fault)
kept_none T fault e = subst (λ (x : StoreFault). IsKept {T = T} (Err x)) (sym e) tt

pub err_inside : {T : Type 0} (r : Result T StoreFault) (fault : StoreFault) → r ≡ Err fault → r ≡ Err NoMemory → fault ≡ NoMemory
err_inside {T = T} r fault e none = let both : ◌≡◌ {A = Result T StoreFault} (Err fault) (Err NoMemory) = sym e ∙ none in cc
