-- Rows compacted: the batch that puts them all, the slot in which they stand, and what the folder then opens to.
use Rattle.std.specs.Prelude.{⊤}
use Rattle.std.proofs.Common.{◌≡◌, ◌⊎◌, Bool, true, false, IsTrue, inl, inr, ℕ, ◌+◌, ◌-◌, ◌^◌, ◌<◌, ◌≤◌, List, [], ◌∷◌, ◌++◌, length, map, drop, Some, refl, sym, ap, ◌∙◌, subst, arith, length-append, Ok, Err, IfOk, IfErr, OnOk}
use Rattle.std.specs.declared.result.Result.{Result}
use Rattle.std.specs.List.{AllByRecursion}
use Rattle.std.proofs.lemmas.Cmp.{nat_list_cmp_total}
use Rattle.std.proofs.lemmas.Map.Lookups.{exact_bytes}
use Rattle.ziti_outside.specs.declared.desk.Part.{Part}
use Rattle.ziti_outside.specs.Images.{Image, IsStable}
use Rattle.ctrl_model.specs.declared.formats.Format.{Format}
use Rattle.journal_core.specs.Slots.{Slot, IsPayload, records_of, slot_bytes, slot_end}
use Rattle.journal_core.proofs.SlotLaws.{end-push}
use Rattle.slot_files.specs.declared.standing.Standing.{Standing}
use Rattle.slot_files.specs.OpenedSlots.{IsOpened}
use Rattle.slot_files.specs.SwitchedSlots.{other_slot, IsSwitched}
use Rattle.row_codec.specs.declared.changes.Op.TheVariants.{Put}
use Rattle.row_codec.specs.RowDifference.{Entry, Rises, with_batch, difference, IsTrueDifference}
use Rattle.row_codec.specs.Batches.{bytes_cmp, entries_of, batch_bytes, IsSpelledOp, IsBatch}
use Rattle.row_laws.proofs.RisingRows.{All-map, Rises-map}
use Rattle.row_laws.proofs.Differences.{with_batch-difference}
use Rattle.slot_reading.specs.BatchRows.{ByteRows, Give, ArePuttable, rows_after, puts}
use Rattle.row_store.specs.OpenedRows.{OpensTo}
use Rattle.row_store.specs.declared.faults.StoreFault.{StoreFault}
use Rattle.row_store.specs.declared.faults.StoreFault.TheVariants.{Disk}
use Rattle.row_store.specs.StoredRows.{Stored, ReadsAs, spent_of}
use Rattle.row_store.specs.RewrittenStores.{compacted, compacted_size, rewritten_of, IsRewritten, HasRoom, RewriteFails}
use Rattle.row_store.specs.WrittenRows.{IsSlotOf}
use Rattle.row_store.specs.MovedSlots.{IsSlot, StandsByOne, IsMoved}
use Rattle.slot_reading.proofs.BatchLaws.{Leads-of}
use Rattle.slot_reading.proofs.SlotReadings.{slot_front, header_stands}
use Rattle.row_store.proofs.CommitLaws.{own_slot}
use Rattle.row_store.proofs.MoveLaws.{stands_at, slot_longer}

-- ---- the batch that puts all rows

-- What it has at its keys.
put_entries : (rows : ByteRows) → entries_of (puts rows) ≡ map (λ (x : List ℕ × List ℕ). (x.0, Some x.1)) rows
put_entries [] = refl
put_entries (x ∷ xs) = ap (λ (l : List (Entry (List ℕ))). (x.0, Some x.1) ∷ l) (put_entries xs)

-- It is a batch.
pub puts_batch : (rows : ByteRows) → Rises bytes_cmp rows → ArePuttable rows → IsBatch (puts rows)
puts_batch rows r all = record {
  rises = subst (λ (l : List (Entry (List ℕ))). Rises bytes_cmp l) (sym (put_entries rows)) (Rises-map nat_list_cmp_total (λ (x : List ℕ × List ℕ). Some x.1) rows r);
  fits = All-map IsSpelledOp (λ (x : List ℕ × List ℕ). Put x.0 x.1) rows all;
}

-- From no rows it leads to all of them.
pub puts_lead : (rows : ByteRows) → Rises bytes_cmp rows → rows_after [] (puts rows) ≡ rows
puts_lead rows r = ap (with_batch bytes_cmp []) (put_entries rows) ∙ with_batch-difference nat_list_cmp_total exact_bytes [] rows tt r

-- Where there are rows, it is a true difference of none.
puts_true : (row : List ℕ × List ℕ) (rows : ByteRows) → Rises bytes_cmp (row ∷ rows) → IsTrueDifference bytes_cmp [] (entries_of (puts (row ∷ rows)))
puts_true row rows r = record {
  some = λ e. cc;
  exact = put_entries (row ∷ rows) ∙ ap (difference bytes_cmp []) (sym (puts_lead (row ∷ rows) r));
}

-- The batches of compacted rows give these, whatever their serial.
pub compacted_give : (f : Format) (rows : ByteRows) → Rises bytes_cmp rows → ArePuttable rows → Give f (compacted rows) rows
compacted_give f [] r all = refl
compacted_give f (row ∷ rows) r all = (
  row ∷ rows,
  Leads-of [] (row ∷ rows) (batch_bytes (puts (row ∷ rows))) (puts (row ∷ rows)) (record { batch = puts_batch (row ∷ rows) r all; spelled = refl })
      (puts_true row rows r) (sym (puts_lead (row ∷ rows) r)),
  refl,
)

-- ---- the slot of compacted rows

-- A slot ends behind its last gate.
pub slot_size : (f : Format) (payloads : List (List ℕ)) → length (slot_bytes f payloads) ≡ slot_end payloads + 1
slot_size f payloads = let long = length-append (records_of payloads) (0 ∷ []) in omega arith

-- A slot of one payload has 14 bytes beside it.
one_size : (payload : List ℕ) → slot_end (payload ∷ []) + 1 ≡ 14 + length payload
one_size payload = let end = end-push payload [] in omega arith

pub size_none : (rows : ByteRows) → rows ≡ [] → compacted_size rows ≡ 9 + length (batch_bytes (puts rows))
size_none rows e = rw e refl

pub size_some : (rows : ByteRows) → (rows ≡ [] → ⊥) → compacted_size rows ≡ 14 + length (batch_bytes (puts rows))
size_some [] some = absurd (some refl)
size_some (row ∷ rows) some = one_size (batch_bytes (puts (row ∷ rows)))

-- Its payloads have lengths that fit four bytes where it is small.
compacted_short : (rows : ByteRows) → compacted_size rows ≤ 2 ^ 30 → AllByRecursion IsPayload (compacted rows)
compacted_short [] small = tt
compacted_short (row ∷ rows) small = let size = one_size (batch_bytes (puts (row ∷ rows))) in (omega arith, tt)

-- The bytes of payloads are a slot of them.
slot_of_bytes : (f : Format) (payloads : List (List ℕ)) → AllByRecursion IsPayload payloads → Slot f (slot_bytes f payloads) payloads
slot_of_bytes f payloads short = record { gate = 0; more = []; split = refl; closed = λ e. absurd (omega (arith, e)); short = short }

pub compacted_stands : (f : Format) (rows : ByteRows) → compacted_size rows ≤ 2 ^ 30 → Slot f (slot_bytes f (compacted rows)) (compacted rows)
compacted_stands f rows small = slot_of_bytes f (compacted rows) (compacted_short rows small)

-- ---- a store that is written anew

-- The slot that stands, as the store has it.
abbrev pub standing_of : Stored → Standing
standing_of stored = record { part = stored.part; mark = stored.mark; format = stored.format }

-- A folder that reads as a store stands is one that was opened.
pub own_opened : (stored : Stored) (reads : Image) (images : Image → Type 0) → ReadsAs stored reads images → IsOpened (standing_of stored) reads images
own_opened stored reads images r = record {
  found = record {
    mark = r.kept.mark;
    begins = header_stands stored.format (reads stored.part) r.kept.batches (slot_front stored.format (reads stored.part) r.kept.batches (own_slot stored reads images r));
  };
  stable_mark = r.stable_mark;
  stable_slot = r.stable_slot;
}

-- The bytes of compacted rows are a slot.
written_stands : (f : Format) (rows : ByteRows) (slot : List ℕ) → IsSlotOf f rows slot → Slot f slot (compacted rows)
written_stands f rows slot w = subst (λ (l : List ℕ). Slot f l (compacted rows)) (sym w.written) (compacted_stands f rows w.small)

pub compacted_whole : (f : Format) (rows : ByteRows) (slot : List ℕ) → IsSlotOf f rows slot → IsSlot f slot
compacted_whole f rows slot w = record { batches = compacted rows; slot = written_stands f rows slot w }

-- Whatever a stop leaves opens to the rows that stood or to those that were written.
pub rewrite_stops : (f : Format) (rows : ByteRows) (stored : Stored) (slot : List ℕ) (reads : Image) (images : Image → Type 0) → ReadsAs stored reads images → IsSlotOf f rows slot
    → (image : Image) → StandsByOne (reads stored.part) slot image → OpensTo stored.format image stored.rows ⊎ OpensTo f image rows
rewrite_stops f rows stored slot reads images r w image p =
    elim (p.either stored.format f r.kept.batches (compacted rows) (own_slot stored reads images r) (written_stands f rows slot w))
    as (λ _. OpensTo stored.format image stored.rows ⊎ OpensTo f image rows) [
      | inl q ↦ inl (record { batches = r.kept.batches; stands = q; give = r.kept.give })
      | inr q ↦ inr (record { batches = compacted rows; stands = q; give = compacted_give f rows w.rises w.puttable })
    ]

-- The folder after the slots were moved.
pub rewrite_folder : (f : Format) (rows : ByteRows) (stored : Stored) (now : Standing) (slot : List ℕ) (reads new : Image) (later : Image → Type 0) → IsSwitched (standing_of stored) now
    → IsMoved (standing_of stored) slot reads new → IsOpened now new later → IsSlotOf f rows slot → IsRewritten f rows stored reads new
rewrite_folder f rows stored now slot reads new later switched moved opened w =
    let other : new (other_slot stored.mark) ≡ slot_bytes f (compacted rows) ++ drop (compacted_size rows) (reads (other_slot stored.mark)) =
    moved.other ∙ ap (λ (l : List ℕ). l ++ drop (length l) (reads (other_slot stored.mark))) w.written
    ∙ ap (λ (n : ℕ). slot_bytes f (compacted rows) ++ drop n (reads (other_slot stored.mark))) (slot_size f (compacted rows)) in
    record {
      other = other;
      mark = moved.mark;
      cut = moved.cut;
      stands = stands_at f (stored.mark + 1) new _ (compacted rows) (omega arith) (opened.found.mark ∙ switched.mark) other
          (slot_longer f (slot_bytes f (compacted rows)) (drop (compacted_size rows) (reads (other_slot stored.mark))) (compacted rows) (compacted_stands f rows w.small));
    }

-- It reads as the store stands that has the rows, and the place of that slot's last gate.
pub rewrite_stands : (f : Format) (rows : ByteRows) (stored : Stored) (now : Standing) (slot : List ℕ) (reads new : Image) (later : Image → Type 0) → IsSwitched (standing_of stored) now
    → IsMoved (standing_of stored) slot reads new → IsOpened now new later → IsSlotOf f rows slot → ReadsAs (rewritten_of f rows stored) new later
rewrite_stands f rows stored now slot reads new later switched moved opened w =
    let folder = rewrite_folder f rows stored now slot reads new later switched moved opened w in
    record {
      some = omega arith;
      kept = record {
        mark = opened.found.mark ∙ switched.mark;
        part = refl;
        batches = compacted rows;
        stands = folder.stands;
        give = compacted_give f rows w.rises w.puttable;
        end = refl;
      };
      stable_mark = opened.stable_mark;
      stable_slot = subst (λ (q : Part). IsStable q new later) switched.part opened.stable_slot;
    }

-- The place of the last gate of the slot.
pub last_gate : (f : Format) (rows : ByteRows) (slot : List ℕ) → IsSlotOf f rows slot → length slot - 1 ≡ slot_end (compacted rows)
last_gate f rows slot w = by (length slot) (slot_end (compacted rows)) (ap length w.written ∙ slot_size f (compacted rows))
  where
    by : (written gate : ℕ) → written ≡ gate + 1 → written - 1 ≡ gate
    by written gate e = omega arith

-- ---- the same, of a store that is seen by its fields

-- What has room has a slot within any larger bound.
pub small_enough : (size most bound : ℕ) → size ≤ most → most ≤ bound → size ≤ bound
small_enough size most bound fits small = omega arith

pub seen_opened : (stored seen : Stored) (reads : Image) (images : Image → Type 0) → seen ≡ stored → ReadsAs stored reads images → IsOpened (standing_of seen) reads images
seen_opened stored seen reads images e r = own_opened seen reads images (subst (λ (s : Stored). ReadsAs s reads images) (sym e) r)

pub seen_either : (f : Format) (rows : ByteRows) (stored seen : Stored) (slot : List ℕ) (reads : Image) (images : Image → Type 0) → seen ≡ stored → ReadsAs stored reads images → IsSlotOf f rows slot
    → (image : Image) → StandsByOne (reads seen.part) slot image → OpensTo stored.format image stored.rows ⊎ OpensTo f image rows
seen_either f rows stored seen slot reads images e r w image p =
    subst (λ (s : Stored). OpensTo s.format image s.rows ⊎ OpensTo f image rows) e
    (rewrite_stops f rows seen slot reads images (subst (λ (s : Stored). ReadsAs s reads images) (sym e) r) w image p)

pub seen_folder : (f : Format) (rows : ByteRows) (stored seen : Stored) (now : Standing) (slot : List ℕ) (reads new : Image) (later : Image → Type 0) → seen ≡ stored
    → IsSwitched (standing_of seen) now → IsMoved (standing_of seen) slot reads new → IsOpened now new later → IsSlotOf f rows slot → IsRewritten f rows stored reads new
seen_folder f rows stored seen now slot reads new later e switched moved opened w =
    subst (λ (s : Stored). IsRewritten f rows s reads new) e (rewrite_folder f rows seen now slot reads new later switched moved opened w)

pub seen_stands : (f : Format) (rows : ByteRows) (stored seen : Stored) (now : Standing) (slot : List ℕ) (reads new : Image) (later : Image → Type 0) → seen ≡ stored
    → IsSwitched (standing_of seen) now → IsMoved (standing_of seen) slot reads new → IsOpened now new later → IsSlotOf f rows slot → ReadsAs (rewritten_of f rows stored) new later
seen_stands f rows stored seen now slot reads new later e switched moved opened w =
    subst (λ (s : Stored). ReadsAs (rewritten_of f rows s) new later) e (rewrite_stands f rows seen now slot reads new later switched moved opened w)

-- ---- what comes of it

-- A slot of rows is as long as they take.
pub slot_long : (f : Format) (rows : ByteRows) (slot : List ℕ) → IsSlotOf f rows slot → length slot ≡ compacted_size rows
slot_long f rows slot w = ap length w.written ∙ slot_size f (compacted rows)

-- The slot of what is written of its rows, and the room for it.
pub seen_slot : (f : Format) (written : ByteRows → ByteRows) (stored seen : Stored) (bytes slot : List ℕ) → seen ≡ stored → slot ≡ bytes → IsSlotOf f (written seen.rows) bytes
    → IsSlotOf f (written stored.rows) slot
seen_slot f written stored seen bytes slot e same w = subst (λ (s : Stored). IsSlotOf f (written s.rows) slot) e (subst (λ (l : List ℕ). IsSlotOf f (written seen.rows) l) (sym same) w)

pub seen_room : (written : ByteRows → ByteRows) (stored seen : Stored) → seen ≡ stored → HasRoom (compacted_size (written seen.rows)) seen → HasRoom (compacted_size (written stored.rows)) stored
seen_room written stored seen e room = subst (λ (s : Stored). HasRoom (compacted_size (written s.rows)) s) e room

-- A slot for which there is room keeps the bound.
pub slot_fits : (f : Format) (rows : ByteRows) (stored : Stored) (slot : List ℕ) → IsSlotOf f rows slot → HasRoom (compacted_size rows) stored
    → (length slot ≤ stored.bounds.slot) × (stored.mark < stored.bounds.mark)
slot_fits f rows stored slot w room = (subst (λ (n : ℕ). n ≤ stored.bounds.slot) (sym (slot_long f rows slot w)) room.0, room.1)

-- Where there is room, the disk alone fails the writing.
pub disk_fails : {D : Type 0} (size : ℕ) (stored new : Stored) (desk later : D) (fault : StoreFault) → stored.spent ≡ false → HasRoom size stored
    → (fault ≡ Disk) × (new ≡ spent_of stored) → RewriteFails size stored new desk later fault
disk_fails size stored new desk later fault fresh room a = subst (λ (f : StoreFault). RewriteFails size stored new desk later f) (sym a.0) ((fresh, room), a.1)

-- A store that is not spent reads as it stands.
pub reads_unspent : (tells : Bool) (r : Result ⊤ StoreFault) (stored new : Stored) (reads : Image) (images : Image → Type 0) → OnOk r (IsTrue tells → ReadsAs new reads images)
    → IfErr r (λ fault. (fault ≡ Disk) × (new ≡ spent_of stored)) → new.spent ≡ false → IsTrue tells → ReadsAs new reads images
reads_unspent tells (Ok x) stored new reads images stands fails fresh told = stands told
reads_unspent tells (Err fault) stored new reads images stands fails fresh told =
    let both : true ≡ false = sym (ap (λ (s : Stored). s.spent) fails.1) ∙ fresh in absurd cc

-- ---- a store that is compacted

-- It keeps its format and its rows where the slot that stands instead is that of its rows.
pub kept_rows : (f : Format) (stored new : Stored) (slot : List ℕ) → f ≡ stored.format → IsSlotOf f stored.rows slot
    → ((rows : ByteRows) → IsSlotOf f rows slot → new ≡ record (rewritten_of f rows stored) { rows = stored.rows }) → new ≡ rewritten_of stored.format stored.rows stored
kept_rows f stored new slot e w made = subst (λ (g : Format). new ≡ rewritten_of g stored.rows stored) e (made stored.rows w)

pub kept_reads : (tells : Bool) (r : Result ⊤ StoreFault) (f : Format) (stored new : Stored) (slot : List ℕ) (reads : Image) (images : Image → Type 0) → IsSlotOf f stored.rows slot
    → OnOk r ((rows : ByteRows) → IsSlotOf f rows slot → new ≡ record (rewritten_of f rows stored) { rows = stored.rows })
    → OnOk r (IsTrue tells → (rows : ByteRows) → IsSlotOf f rows slot → ReadsAs (rewritten_of f rows stored) reads images) → OnOk r (IsTrue tells → ReadsAs new reads images)
kept_reads tells (Ok x) f stored new slot reads images w made stands = λ told. subst (λ (s : Stored). ReadsAs s reads images) (sym (made stored.rows w)) (stands told stored.rows w)
kept_reads tells (Err fault) f stored new slot reads images w made stands = tt

-- Where either gives the same rows, a stop leaves these.
pub either_same : (f : Format) (stored : Stored) → f ≡ stored.format → (image : Image) → OpensTo stored.format image stored.rows ⊎ OpensTo f image stored.rows
    → OpensTo stored.format image stored.rows
either_same f stored e image (inl p) = p
either_same f stored e image (inr p) = subst (λ (g : Format). OpensTo g image stored.rows) e p

-- ---- a store that takes other rows

-- The store behind a writing takes the rows that were written.
pub rows_taken : (f : Format) (rows : ByteRows) (seen new stored : Stored) → seen ≡ new → new ≡ record (rewritten_of f rows stored) { rows = stored.rows }
    → record seen { rows = rows } ≡ rewritten_of f rows stored
rows_taken f rows seen new stored e made = ap (λ (s : Stored). record s { rows = rows }) (e ∙ made)

-- What a clause says of a success.
pub of_ok : {T E : Type 0} (P : T → Type 0) (r : Result T E) (x : T) → r ≡ Ok x → IfOk r P → P x
of_ok {T = T} {E = E} P r x e p = subst (λ (q : Result T E). IfOk q P) e p

pub on_ok : {T E P : Type 0} (r : Result T E) (x : T) → r ≡ Ok x → OnOk r P → P
on_ok {T = T} {E = E} {P = P} r x e p = subst (λ (q : Result T E). OnOk q P) e p
