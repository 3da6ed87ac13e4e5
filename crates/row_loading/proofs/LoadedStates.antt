-- Changes that lead from the start to a valid state put the rows that it lists, and no others.
use Rattle.std.proofs.Common.{◌≡◌, ℕ, List, [], ◌∷◌, map, refl, sym, ◌∙◌, ap, subst}
use Rattle.ctrl_model.specs.declared.formats.Format.{Format}
use Rattle.ctrl_model.specs.State.{State, start}
use Rattle.ctrl_model.specs.Grants.{count}
use Rattle.ctrl_model.specs.ValidState.{ValidState}
use Rattle.row_codec.specs.declared.rows.Row.{Row}
use Rattle.row_codec.specs.declared.changes.Op.{Op}
use Rattle.row_codec.specs.declared.changes.Op.TheVariants.{Put}
use Rattle.row_codec.specs.RowKeys.{Key, key_cmp, key_bytes}
use Rattle.row_codec.specs.RowDifference.{Rises}
use Rattle.row_codec.specs.StateRows.{Rows, HasRows}
use Rattle.row_codec.specs.Batches.{batch_between}
use Rattle.row_laws.proofs.RisingStates.{Rises-rows_of}
use Rattle.row_laws.proofs.StateBatches.{batch_from_start}
use Rattle.row_laws.proofs.WrittenRows.{IsNumbered-valid, AscendIn-valid}
use Rattle.state_building.specs.BuiltStates.{built, AreFlawless, next_in, with_nexts, state_in, HaveCounts}
use Rattle.row_loading.specs.LoadedRows.{put_of, keyed, Loads}
use Rattle.row_loading.proofs.SameRows.{same_rows}
use Rattle.row_loading.proofs.ListedStates.{listed, lists_state}
use Rattle.row_loading.proofs.FrontStates.{with_claims, count-end, with_nexts-end}
use Rattle.row_loading.proofs.ListedBuilds.{Leads, listed_leads}
use Rattle.row_loading.proofs.SaidNumbers.{next_in-listed, count_in-listed}

-- ---- the rows

puts-keyed : (f : Format) (rows : List Row) → map (λ (x : Key × List ℕ). Put (key_bytes x.0) x.1) (keyed f rows) ≡ map (put_of f) rows
puts-keyed f [] = refl
puts-keyed f (x ∷ xs) = λ i. put_of f x ∷ puts-keyed f xs i

batch-listed : (f : Format) (s : State) → ValidState s → batch_between f start s ≡ map (put_of f) (listed f s)
batch-listed f s v =
    batch_from_start f s ∙ ap (λ (rows : Rows). map (λ (x : Key × List ℕ). Put (key_bytes x.0) x.1) rows) (sym (lists_state f s v).entries) ∙ puts-keyed f (listed f s)

pub loads-listed : (f : Format) (ops : List Op) (s : State) → ValidState s → ops ≡ batch_between f start s → Loads f ops (listed f s)
loads-listed f ops s v e = record {
  spelled = e ∙ batch-listed f s v;
  form = (lists_state f s v).form;
  rises = subst (λ (rows : Rows). Rises key_cmp rows) (sym (lists_state f s v).entries) (Rises-rows_of f s (IsNumbered-valid s v) (AscendIn-valid f s v));
}

-- whatever rows the changes put, they are these
pub are-listed : (f : Format) (ops : List Op) (rows : List Row) (s : State) → ValidState s → ops ≡ batch_between f start s → Loads f ops rows → listed f s ≡ rows
are-listed f ops rows s v e loads =
    same_rows f (listed f s) rows (lists_state f s v).form loads.form (sym (batch-listed f s v) ∙ sym e ∙ loads.spelled)

-- ---- what is built of them

leads : (f : Format) (s : State) → ValidState s → HasRows f s → Leads (next_in (listed f s)) (listed f s) start (with_claims s.intercepts s.serial s)
leads f s v has = listed_leads f s v has (next_in (listed f s)) (next_in-listed f s v)

pub flawless-rows : (f : Format) (ops : List Op) (rows : List Row) (s : State) → ValidState s → HasRows f s → ops ≡ batch_between f start s → Loads f ops rows
    → AreFlawless (next_in rows) rows start
flawless-rows f ops rows s v has e loads = subst (λ xs. AreFlawless (next_in xs) xs start) (are-listed f ops rows s v e loads) (leads f s v has).flawless

pub counted-rows : (f : Format) (ops : List Op) (rows : List Row) (s : State) → ValidState s → HasRows f s → ops ≡ batch_between f start s → Loads f ops rows → HaveCounts rows (built rows start)
counted-rows f ops rows s v has e loads =
    subst (λ xs. HaveCounts xs (built xs start)) (are-listed f ops rows s v e loads) (λ r a b.
    count_in-listed f s v r a b ∙ sym (count-end r s s.intercepts s.serial a b) ∙ ap (λ t. count r t a b) (sym (leads f s v has).ends))

pub same-state : (f : Format) (ops : List Op) (rows : List Row) (s : State) → ValidState s → HasRows f s → ops ≡ batch_between f start s → Loads f ops rows → state_in rows ≡ s
same-state f ops rows s v has e loads =
    ap state_in (sym (are-listed f ops rows s v e loads))
    ∙ ap (with_nexts (next_in (listed f s))) (leads f s v has).ends
    ∙ with_nexts-end (next_in (listed f s)) s (next_in-listed f s v)
