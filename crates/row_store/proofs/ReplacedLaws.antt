-- The slot of a batch that puts rows where none were is that in which these rows stand compacted.
use Rattle.std.proofs.Common.{◌≡◌, ℕ, ◌+◌, ◌^◌, ◌≤◌, List, [], ◌∷◌, length, map, unwrap_or, Some, refl, sym, ◌∙◌, ap, ap₂, subst, arith}
use Rattle.ctrl_model.specs.declared.formats.Format.TheVariants.{Two}
use Rattle.journal_core.specs.Slots.{slot_bytes, slot_end}
use Rattle.journal_core.proofs.SlotLaws.{end-push}
use Rattle.row_codec.specs.declared.changes.Op.{Op}
use Rattle.row_codec.specs.declared.changes.Op.TheVariants.{Put, Delete}
use Rattle.row_codec.specs.RowDifference.{Entry, IsTrueDifference}
use Rattle.row_codec.specs.Batches.{bytes_cmp, entry_of, entries_of, batch_bytes, IsBatch}
use Rattle.row_laws.proofs.SpelledValues.{first_same}
use Rattle.slot_reading.specs.BatchRows.{ByteRows, puts, rows_after}
use Rattle.row_store.specs.RewrittenStores.{compacted, compacted_size}
use Rattle.row_store.specs.WrittenRows.{IsSlotOf}
use Rattle.slot_reading.proofs.BatchLaws.{rows_rise, says_some}
use Rattle.slot_reading.proofs.PuttableRows.{puttable_after}

-- A change that has a value at its key puts it.
one_put : (op : Op) (key value : List ℕ) → entry_of op ≡ (key, Some value) → op ≡ Put key value
one_put (Put k v) key value e = λ i. Put (e i).0 (told (ap (λ (x : Entry (List ℕ)). x.1) e) i)
  where
    told : {u w : List ℕ} → Some u ≡ Some w → u ≡ w
    told {u = u} f = ap (λ o. unwrap_or o u) f
one_put (Delete k) key value e = let none = ap (λ (x : Entry (List ℕ)). x.1) e in absurd cc

all_puts : (ops : List Op) (rows : ByteRows) → entries_of ops ≡ map (λ (x : List ℕ × List ℕ). (x.0, Some x.1)) rows → ops ≡ puts rows
all_puts [] [] e = refl
all_puts [] (x ∷ xs) e = absurd cc
all_puts (op ∷ ops) [] e = absurd cc
all_puts (op ∷ ops) (x ∷ xs) e =
    let firsts = first_same (entry_of op) (x.0, Some x.1) (entries_of ops) (map (λ (y : List ℕ × List ℕ). (y.0, Some y.1)) xs) e in
    ap₂ (λ (o : Op) (os : List Op). o ∷ os) (one_put op x.0 x.1 firsts.0) (all_puts ops xs firsts.1)

-- A true difference of no rows puts all rows that it leads to.
pub puts_all : (ops : List Op) → IsTrueDifference bytes_cmp [] (entries_of ops) → ops ≡ puts (rows_after [] ops)
puts_all ops d = all_puts ops (rows_after [] ops) d.exact

compacted_some : (rows : ByteRows) → (puts rows ≡ [] → ⊥) → compacted rows ≡ batch_bytes (puts rows) ∷ []
compacted_some [] some = absurd (some refl)
compacted_some (x ∷ xs) some = refl

pub replaced_batches : (ops : List Op) → IsTrueDifference bytes_cmp [] (entries_of ops) → compacted (rows_after [] ops) ≡ batch_bytes ops ∷ []
replaced_batches ops d =
    let same = puts_all ops d in
    compacted_some (rows_after [] ops) (λ e. says_some [] ops d (same ∙ e)) ∙ ap (λ (os : List Op). batch_bytes os ∷ []) (sym same)

-- Its size.
pub replaced_size : (ops : List Op) → IsTrueDifference bytes_cmp [] (entries_of ops) → compacted_size (rows_after [] ops) ≡ 14 + length (batch_bytes ops)
replaced_size ops d =
    ap (λ (ps : List (List ℕ)). slot_end ps + 1) (replaced_batches ops d) ∙ one_size (batch_bytes ops)
  where
    one_size : (payload : List ℕ) → slot_end (payload ∷ []) + 1 ≡ 14 + length payload
    one_size payload = let end = end-push payload [] in omega arith

pub replaced_slot : (ops : List Op) (slot : List ℕ) → IsBatch ops → IsTrueDifference bytes_cmp [] (entries_of ops) → 14 + length (batch_bytes ops) ≤ 2 ^ 30
    → slot ≡ slot_bytes Two (batch_bytes ops ∷ []) → IsSlotOf Two (rows_after [] ops) slot
replaced_slot ops slot batch d small e = record {
  rises = rows_rise [] ops tt;
  puttable = puttable_after [] ops tt batch.fits;
  small = subst (λ (n : ℕ). n ≤ 2 ^ 30) (sym (replaced_size ops d)) small;
  written = e ∙ ap (slot_bytes Two) (sym (replaced_batches ops d));
}
