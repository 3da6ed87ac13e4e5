-- The rows of the first identity and the slots that hold them, worked by hand.
use Rattle.std.proofs.Common.{◌≡◌, ℕ, ◌+◌, ◌^◌, ◌<◌, List, [], ◌∷◌, ◌++◌, length, get_or, take, drop, replicate, Some, inl, inr, refl, sym, ap, ◌∙◌, subst, arith}
use Rattle.std.specs.Int.{w32, to_le_bytes, from_le_bytes}
use Rattle.std.proofs.lemmas.List.{drop_at}
use Rattle.std.proofs.lemmas.Option.{same_Some}
use Rattle.std.proofs.lemmas.Nat.{from_le_bytes-to_le_bytes_4}
use Rattle.ziti_outside.specs.declared.desk.Part.{Part}
use Rattle.ziti_outside.specs.declared.desk.Part.TheVariants.{Zero, One, Mark}
use Rattle.ctrl_model.specs.declared.formats.Format.{Format}
use Rattle.ctrl_model.specs.declared.formats.Format.TheVariants as format
use Rattle.journal_core.specs.Slots.{IsDamaged, added, record_of, slot_end, text_of}
use Rattle.journal_core.specs.WorkedSlots.{batch_of_ann, empty_slot, slot_of_ann}
use Rattle.slot_files.specs.FolderImage.{Stands}
use Rattle.slot_files.proofs.StandLaws.{one_stands}
use Rattle.row_codec.specs.declared.changes.Op.{Op}
use Rattle.row_codec.specs.declared.changes.Op.TheVariants.{Delete}
use Rattle.row_codec.specs.Batches.{Spells}
use Rattle.slot_reading.specs.BatchRows.{Leads, Raises, MayLead, Give}
use Rattle.row_store.specs.AddedBatches.{AddsBatch}
use Rattle.row_store.specs.OpenedRows.{OpensTo, IsDamagedAt}
use Rattle.row_store.specs.RewrittenStores.{IsRewritten}
use Rattle.row_store.specs.WorkedStores.{rows_of_ann, counted_rows, ops_of_ann, counted_ops, migrated_slot, folder_of, three_parts, deletes_absent, slot_with_deletion, store_of_ann, store_of_none, second_alone, old_second}
use Rattle.slot_reading.proofs.BatchLaws.{Leads-of, leads_nowhere}
use Rattle.slot_reading.proofs.SlotReadings.{read_past, record_within}

pub ann_spells : Spells (batch_of_ann format.One) ops_of_ann
ann_spells = record {
  batch = record { rises = ((refl, tt), (tt, tt)); fits = ((omega arith, omega arith), ((omega arith, omega arith), tt)) };
  spelled = refl;
}

pub ann_leads : Leads [] (batch_of_ann format.One) rows_of_ann
ann_leads = Leads-of [] rows_of_ann (batch_of_ann format.One) ops_of_ann ann_spells (record { some = λ e. cc; exact = refl }) refl

pub ann_gives : Give format.One ((batch_of_ann format.One) ∷ []) rows_of_ann
ann_gives = (rows_of_ann, ann_leads, refl)

ann_stands : Stands format.One (folder_of (slot_of_ann format.One)) ((batch_of_ann format.One) ∷ [])
ann_stands = record { gate = 0; more = []; split = refl; closed = λ e. absurd (omega (arith, e)); short = (omega arith, tt) }

pub ann_opens : OpensTo format.One (folder_of (slot_of_ann format.One)) rows_of_ann
ann_opens = record { batches = (batch_of_ann format.One) ∷ []; stands = ann_stands; give = ann_gives }

-- An open gate with a length behind it that passes the end is damage.
cut_record : (at n : ℕ) (bytes rest : List ℕ) → drop at bytes ≡ 1 ∷ (to_le_bytes w32 n ++ rest) → n < 2 ^ 32 → length bytes < at + 5 + n → IsDamaged at bytes
cut_record at n bytes rest e small cut = record {
  not_closed = λ c.
      let same : c.gate ∷ c.more ≡ 1 ∷ (to_le_bytes w32 n ++ rest) = sym (drop_at c.front (c.gate ∷ c.more) at c.place) ∙ ap (λ (l : List ℕ). drop at l) (sym c.split) ∙ e in
      let open_one : c.gate ≡ 1 = cc in
      c.closed open_one;
  no_record = λ payload r.
      let same : 1 ∷ (record_of payload ++ r.more) ≡ 1 ∷ (to_le_bytes w32 n ++ rest) =
      sym (drop_at r.front (1 ∷ (record_of payload ++ r.more)) at r.place) ∙ ap (λ (l : List ℕ). drop at l) (sym r.split) ∙ e in
      let four : to_le_bytes w32 (length payload) ≡ to_le_bytes w32 n = ap (λ (l : List ℕ). take 4 (drop 1 l)) same in
      let long : length payload ≡ n = sym (from_le_bytes-to_le_bytes_4 (length payload) r.short) ∙ ap (λ (l : List ℕ). from_le_bytes w32 l) four ∙ from_le_bytes-to_le_bytes_4 n small in
      absurd (omega (arith, record_within at payload bytes r));
}

pub cut_damaged : IsDamagedAt (folder_of (take 20 (slot_of_ann format.One))) Zero 8
cut_damaged = record {
  some = omega arith;
  named = refl;
  cause = inr (
    format.One,
    record {
      rows = [];
      read = record { payloads = []; front = record { more = drop 8 (take 20 (slot_of_ann format.One)); split = refl; short = tt }; give = refl; place = refl };
      broken = inl (cut_record 8 28 (take 20 (slot_of_ann format.One)) (drop 13 (take 20 (slot_of_ann format.One))) refl (omega arith) (omega arith));
    },
  );
}

pub gate_missing : IsDamagedAt (folder_of (take 41 (slot_of_ann format.One))) Zero 41
gate_missing = record {
  some = omega arith;
  named = refl;
  cause = inr (
    format.One,
    read_past format.One (take 41 (slot_of_ann format.One)) 41 rows_of_ann
        (record { payloads = (batch_of_ann format.One) ∷ []; front = record { more = []; split = refl; short = (omega arith, tt) }; give = ann_gives; place = refl })
        (omega arith),
  );
}

-- The deletion of an identity that is not there.
abbrev ops_of_deletion : List Op
ops_of_deletion = Delete (3 ∷ 0 ∷ 0 ∷ 0 ∷ 2 ∷ []) ∷ []

deletion_spells : Spells deletes_absent ops_of_deletion
deletion_spells = record { batch = record { rises = (tt, tt); fits = (omega arith, tt) }; spelled = refl }

pub deletion_damaged : IsDamagedAt (folder_of slot_with_deletion) Zero 41
deletion_damaged = record {
  some = omega arith;
  named = refl;
  cause = inr (
    format.One,
    record {
      rows = rows_of_ann;
      read = record {
        payloads = (batch_of_ann format.One) ∷ [];
        front = record { more = drop 41 slot_with_deletion; split = refl; short = (omega arith, tt) };
        give = ann_gives;
        place = refl;
      };
      broken = inr (record {
        payload = deletes_absent;
        stands = record { front = take 41 slot_with_deletion; more = 0 ∷ []; split = refl; place = refl; short = omega arith };
        nowhere = λ next l m. leads_nowhere rows_of_ann deletes_absent ops_of_deletion deletion_spells (λ d. let e = d.exact in cc) next l;
      });
    },
  );
}

-- ---- compacted

pub ann_compacted : IsRewritten format.One rows_of_ann (store_of_ann 64 2) (folder_of (slot_of_ann format.One)) (second_alone (slot_of_ann format.One))
ann_compacted = record {
  other = refl;
  mark = refl;
  cut = refl;
  stands = record { gate = 0; more = []; split = refl; closed = λ e. absurd (omega (arith, e)); short = (omega arith, tt) };
}

pub old_compacted : IsRewritten format.One rows_of_ann (store_of_ann 64 2) (old_second (replicate 44 7)) (second_alone ((slot_of_ann format.One) ++ 7 ∷ 7 ∷ []))
old_compacted = record {
  other = refl;
  mark = refl;
  cut = refl;
  stands = record { gate = 0; more = 7 ∷ 7 ∷ []; split = refl; closed = λ e. absurd (omega (arith, e)); short = (omega arith, tt) };
}

pub none_compacted : IsRewritten format.Two [] store_of_none (folder_of (empty_slot format.Two)) (second_alone (empty_slot format.Two))
none_compacted = record {
  other = refl;
  mark = refl;
  cut = refl;
  stands = record { gate = 0; more = []; split = refl; closed = λ e. absurd (omega (arith, e)); short = tt };
}

pub second_opens : OpensTo format.One (second_alone (slot_of_ann format.One)) rows_of_ann
second_opens = record { batches = (batch_of_ann format.One) ∷ []; stands = ann_compacted.stands; give = ann_gives }

-- ---- a batch added

-- A created folder stands for nothing.
created_stands : Stands format.One (folder_of (empty_slot format.One)) []
created_stands = record { gate = 0; more = []; split = refl; closed = λ e. absurd (omega (arith, e)); short = tt }

pub ann_added : AddsBatch ops_of_ann (folder_of (empty_slot format.One)) (folder_of (slot_of_ann format.One))
ann_added = record {
  behind = λ f batches s.
      let same = one_stands format.One f (folder_of (empty_slot format.One)) [] batches created_stands s in
      subst (λ (v : Format). Stands v (folder_of (slot_of_ann format.One)) (batches ++ (batch_of_ann format.One) ∷ [])) (same.0 (omega arith))
      (subst (λ (b : List (List ℕ)). Stands format.One (folder_of (slot_of_ann format.One)) (b ++ (batch_of_ann format.One) ∷ [])) same.1 ann_stands);
  slot = λ f batches s. subst (λ (b : List (List ℕ)). (slot_of_ann format.One) ≡ added (slot_end b) (text_of (batch_of_ann format.One)) (empty_slot format.One))
      (one_stands format.One f (folder_of (empty_slot format.One)) [] batches created_stands s).1 refl;
  others = record { same = ann_apart };
}
  where
    ann_apart : (other : Part) → (other ≡ Zero → ⊥) → folder_of (slot_of_ann format.One) other ≡ folder_of (empty_slot format.One) other
    ann_apart Zero differs = absurd (differs refl)
    ann_apart One differs = refl
    ann_apart Mark differs = refl

one_apart : One ≡ Zero → ⊥
one_apart e = cc

mark_apart : Mark ≡ Zero → ⊥
mark_apart e = cc

-- With another byte in the other slot or in the mark it was not added alone.
pub added_beside : AddsBatch ops_of_ann (folder_of (empty_slot format.One)) (three_parts (slot_of_ann format.One) (7 ∷ []) (0 ∷ [])) → ⊥
added_beside a = let e : ◌≡◌ {A = List ℕ} (7 ∷ []) [] = a.others.same One one_apart in absurd (omega (arith, ap length e))

pub added_marked : AddsBatch ops_of_ann (folder_of (empty_slot format.One)) (three_parts (slot_of_ann format.One) [] (1 ∷ [])) → ⊥
added_marked a =
    let e : ◌≡◌ {A = List ℕ} (1 ∷ []) (0 ∷ []) = a.others.same Mark mark_apart in
    let first : 1 ≡ 0 = ap (λ (l : List ℕ). get_or l 0 0) e in absurd (omega (arith, first))

-- Nor with another byte in the slot behind the record.
pub added_behind : AddsBatch ops_of_ann (folder_of (empty_slot format.One)) (folder_of ((slot_of_ann format.One) ++ 7 ∷ [])) → ⊥
added_behind a = let e : (slot_of_ann format.One) ++ 7 ∷ [] ≡ (slot_of_ann format.One) = a.slot format.One [] created_stands in absurd (omega (arith, ap length e))

pub none_added : AddsBatch ops_of_ann (folder_of (empty_slot format.One)) (folder_of (empty_slot format.One)) → ⊥
none_added a = let e = (one_stands format.One format.One (folder_of (empty_slot format.One)) [] ((batch_of_ann format.One) ∷ []) created_stands (a.behind format.One [] created_stands)).1 in cc

pub again_added : AddsBatch ops_of_ann (folder_of (slot_of_ann format.One)) (folder_of (slot_of_ann format.One)) → ⊥
again_added a =
    let e = (one_stands format.One format.One (folder_of (slot_of_ann format.One)) ((batch_of_ann format.One) ∷ []) ((batch_of_ann format.One) ∷ (batch_of_ann format.One) ∷ []) ann_stands (a.behind format.One ((batch_of_ann format.One) ∷ []) ann_stands)).1 in cc

-- ---- the second format

pub counted_spells : Spells (batch_of_ann format.Two) counted_ops
counted_spells = record {
  batch = record { rises = ((refl, (refl, tt)), ((refl, tt), (tt, tt))); fits = ((omega arith, omega arith), ((omega arith, omega arith), ((omega arith, omega arith), tt))) };
  spelled = refl;
}

pub counted_leads : Leads [] (batch_of_ann format.Two) (counted_rows 1)
counted_leads = Leads-of [] (counted_rows 1) (batch_of_ann format.Two) counted_ops counted_spells (record { some = λ e. cc; exact = refl }) refl

pub counted_gives : Give format.Two (batch_of_ann format.Two ∷ []) (counted_rows 1)
counted_gives = (counted_rows 1, counted_leads, refl)

pub counted_opens : OpensTo format.Two (folder_of (slot_of_ann format.Two)) (counted_rows 1)
counted_opens = record {
  batches = batch_of_ann format.Two ∷ [];
  stands = record { gate = 0; more = []; split = refl; closed = λ e. absurd (omega (arith, e)); short = (omega arith, tt) };
  give = counted_gives;
}

-- A slot of the first format is none of the second.
pub other_format : OpensTo format.Two (folder_of (slot_of_ann format.One)) rows_of_ann → ⊥
other_format p = let e = (one_stands format.One format.Two (folder_of (slot_of_ann format.One)) (batch_of_ann format.One ∷ []) p.batches ann_stands p.stands).0 (omega arith) in cc

-- The rows of the first identity without a serial are given by their batch in the second format too, where it is the first one.
migrated_gives : Give format.Two (batch_of_ann format.One ∷ []) rows_of_ann
migrated_gives = (rows_of_ann, ann_leads, refl)

pub ann_migrated : IsRewritten format.Two rows_of_ann (store_of_ann 64 2) (folder_of (slot_of_ann format.One)) (second_alone migrated_slot)
ann_migrated = record {
  other = refl;
  mark = refl;
  cut = refl;
  stands = record { gate = 0; more = []; split = refl; closed = λ e. absurd (omega (arith, e)); short = (omega arith, tt) };
}

pub migrated_opens : OpensTo format.Two (second_alone migrated_slot) rows_of_ann
migrated_opens = record { batches = batch_of_ann format.One ∷ []; stands = ann_migrated.stands; give = migrated_gives }

pub migrated_beside : AddsBatch ops_of_ann (folder_of (empty_slot format.One)) (folder_of migrated_slot) → ⊥
migrated_beside a =
    let stands : Stands format.Two (folder_of migrated_slot) (batch_of_ann format.One ∷ []) =
    record { gate = 0; more = []; split = refl; closed = λ e. absurd (omega (arith, e)); short = (omega arith, tt) } in
    let e = (one_stands format.One format.Two (folder_of migrated_slot) (batch_of_ann format.One ∷ []) (batch_of_ann format.One ∷ []) (a.behind format.One [] created_stands) stands).0 (omega arith) in cc

-- The next serial is one more, and no other.
pub from_none : Raises rows_of_ann (counted_rows 1)
from_none = (0, refl, refl)

pub next_serial : Raises (counted_rows 1) (counted_rows 2)
next_serial = (1, refl, refl)

no_other : (n m k : ℕ) → Some n ≡ Some k → Some m ≡ Some (k + 1) → m ≡ n + 1
no_other n m k e f = let a = same_Some n k e in let b = same_Some m (k + 1) f in omega (arith, a, b)

pub passes_over : Raises (counted_rows 1) (counted_rows 3) → ⊥
passes_over r = let e = no_other 1 3 r.0 r.1 r.2 in absurd (omega (arith, e))

pub stays_same : Raises (counted_rows 1) (counted_rows 1) → ⊥
stays_same r = let e = no_other 1 1 r.0 r.1 r.2 in absurd (omega (arith, e))

pub second_batch : MayLead format.Two 56 (counted_rows 1) (counted_rows 9) → ⊥
second_batch (inl e) = absurd (omega (arith, e))
second_batch (inr r) = let e = no_other 1 9 r.0 r.1 r.2 in absurd (omega (arith, e))
