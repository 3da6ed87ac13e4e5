-- The batch between two valid states: it leads from the rows of the one to those of the other, it is empty where they are one, and
-- else it is a true difference.
use Rattle.std.proofs.Common.{◌≡◌, List, [], ◌∷◌, refl, sym, ◌∙◌, ap, Some, map, ℕ}
use Rattle.std.proofs.lemmas.Cmp.{nat_list_cmp_total}
use Rattle.ctrl_model.specs.declared.formats.Format.{Format}
use Rattle.ctrl_model.specs.declared.formats.Format.TheVariants.{One, Two}
use Rattle.ctrl_model.specs.State.{State, start}
use Rattle.ctrl_model.specs.ValidState.{ValidState}
use Rattle.row_codec.specs.RowKeys.{Key, key_cmp, key_bytes}
use Rattle.row_codec.specs.declared.changes.Op.TheVariants.{Put, Delete}
use Rattle.row_codec.specs.declared.changes.Op.{Op}
use Rattle.row_codec.specs.RowDifference.{Rises, difference, with_batch, IsTrueDifference}
use Rattle.row_codec.specs.StateRows.{rows_of, Rows, HasRows}
use Rattle.row_codec.specs.Batches.{bytes_cmp, entries_of, ops_of, spelled_rows, batch_between}
use Rattle.row_laws.proofs.Differences.{with_batch-difference, difference-same, same_from_difference}
use Rattle.row_laws.proofs.KeyOrders.{key_total, key_exact}
use Rattle.row_laws.proofs.RisingStates.{Rises-rows_of}
use Rattle.row_laws.proofs.SpelledKeys.{Rises-spelled, batch_between-spelled}
use Rattle.row_laws.proofs.WrittenRows.{AscendIn-valid, IsNumbered-valid, AreKeys-rows_of}
use Rattle.row_laws.proofs.BatchForms.{bytes_exact}
use Rattle.row_laws.proofs.SameStates.{same_from_spelled}

pub spelled_rise : (format : Format) (s : State) → ValidState s → Rises bytes_cmp (spelled_rows (rows_of format s))
spelled_rise format s v = Rises-spelled (rows_of format s) (AreKeys-rows_of format s v) (Rises-rows_of format s (IsNumbered-valid s v) (AscendIn-valid format s v))

pub entries_between : (format : Format) (s t : State) → ValidState s → ValidState t → entries_of (batch_between format s t) ≡ difference bytes_cmp (spelled_rows (rows_of format s)) (spelled_rows (rows_of format t))
entries_between format s t v w = batch_between-spelled format s t (AreKeys-rows_of format s v) (AreKeys-rows_of format t w)

pub batch_leads : (format : Format) (s t : State) → ValidState s → ValidState t → with_batch bytes_cmp (spelled_rows (rows_of format s)) (entries_of (batch_between format s t)) ≡ spelled_rows (rows_of format t)
batch_leads format s t v w =
    ap (with_batch bytes_cmp (spelled_rows (rows_of format s))) (entries_between format s t v w)
    ∙ with_batch-difference nat_list_cmp_total bytes_exact (spelled_rows (rows_of format s)) (spelled_rows (rows_of format t)) (spelled_rise format s v) (spelled_rise format t w)

pub batch_between-same : (format : Format) (s : State) → ValidState s → batch_between format s s ≡ []
batch_between-same format s v = ap ops_of (difference-same key_total key_exact (rows_of format s) (Rises-rows_of format s (IsNumbered-valid s v) (AscendIn-valid format s v)))

pub same_from_batch : (format : Format) (s t : State) → ValidState s → ValidState t → HasRows format s → HasRows format t → batch_between format s t ≡ [] → s ≡ t
same_from_batch format s t v w has_s has_t e =
    same_from_spelled format s t v w has_s has_t
    (same_from_difference nat_list_cmp_total bytes_exact (spelled_rows (rows_of format s)) (spelled_rows (rows_of format t)) (spelled_rise format s v) (spelled_rise format t w)
    (sym (entries_between format s t v w) ∙ ap entries_of e))

pub batch_is_true : (format : Format) (s t : State) → ValidState s → ValidState t → HasRows format s → HasRows format t → (s ≡ t → ⊥) → IsTrueDifference bytes_cmp (spelled_rows (rows_of format s)) (entries_of (batch_between format s t))
batch_is_true format s t v w has_s has_t other = record {
  some = λ e. other (same_from_batch format s t v w has_s has_t (empty (batch_between format s t) e));
  exact = entries_between format s t v w ∙ ap (difference bytes_cmp (spelled_rows (rows_of format s))) (sym (batch_leads format s t v w));
}
  where
    empty : (ops : List Op) → entries_of ops ≡ [] → ops ≡ []
    empty [] e = refl
    empty (o ∷ os) e = absurd (cc)

-- ---- from the start

no_rows_at_start : (format : Format) → rows_of format start ≡ []
no_rows_at_start One = refl
no_rows_at_start Two = refl

pub batch_from_start : (format : Format) (s : State) → batch_between format start s ≡ map (λ (x : Key × List ℕ). Put (key_bytes x.0) x.1) (rows_of format s)
batch_from_start format s = ap (λ old. ops_of (difference key_cmp old (rows_of format s))) (no_rows_at_start format) ∙ puts (rows_of format s)
  where
    puts : (rows : Rows) → ops_of (map (λ (x : Key × List ℕ). (x.0, Some x.1)) rows) ≡ map (λ (x : Key × List ℕ). Put (key_bytes x.0) x.1) rows
    puts [] = refl
    puts (x ∷ xs) = λ i. Put (key_bytes x.0) x.1 ∷ puts xs i

pub batch_to_start : (format : Format) (s : State) → batch_between format s start ≡ map (λ (x : Key × List ℕ). Delete (key_bytes x.0)) (rows_of format s)
batch_to_start format s = ap (λ new. ops_of (difference key_cmp (rows_of format s) new)) (no_rows_at_start format) ∙ all_gone (rows_of format s)
  where
    all_gone : (rows : Rows) → ops_of (difference key_cmp rows []) ≡ map (λ (x : Key × List ℕ). Delete (key_bytes x.0)) rows
    all_gone [] = refl
    all_gone (x ∷ xs) = λ i. Delete (key_bytes x.0) ∷ all_gone xs i
