-- The rows of a valid state are found to be its own.
use Rattle.std.proofs.Common.{◌≡◌, ℕ, Bool, true, cond, List, [], ◌∷◌, None, Some, refl, sym, ap, ◌∙◌}
use Rattle.std.specs.declared.option.Option.{Option}
use Rattle.std.specs.Option.{option_map, option_and_then, is_none}
use Rattle.std.specs.List.{list_all}
use Rattle.std.specs.Cmp.Derive.{both_true}
use Rattle.std.proofs.lemmas.Bool.{and_parts}
use Rattle.ctrl_model.proofs.DistinctLaws.{same_bytes}
use Rattle.ctrl_model.specs.declared.formats.Format.{Format}
use Rattle.ctrl_model.specs.declared.kinds.Kind.{Kind}
use Rattle.ctrl_model.specs.State.{State, start}
use Rattle.ctrl_model.specs.ValidState.{ValidState}
use Rattle.row_codec.specs.declared.rows.Row.{Row}
use Rattle.row_codec.specs.RowKeys.{key_bytes}
use Rattle.row_codec.specs.RowForm.{is_row, key_of, value_of}
use Rattle.row_codec.specs.StateRows.{rows_of, HasRows}
use Rattle.row_codec.specs.Batches.{spelled_rows, batch_between}
use Rattle.row_reading.specs.RowReading.{row_of}
use Rattle.row_reading.proofs.RowLaws.{row_again}
use Rattle.state_building.specs.BuiltStates.{with_row, AreFlawless, next_in, state_in}
use Rattle.row_loading.specs.LoadedRows.{keyed, Loads}
use Rattle.row_loading.proofs.ListedStates.{listed, lists_state}
use Rattle.row_loading.proofs.LoadedStates.{loads-listed, flawless-rows, same-state}
use Rattle.slot_reading.specs.BatchRows.{ByteRows}
use Rattle.row_judging.specs.JudgedRows.{rows_read, are_flawless, same_rows, judged_rows, judged}

-- ---- rows as bytes

-- Rows under the bytes of their keys.
abbrev spelled_of : Format → List Row → ByteRows
spelled_of f xs = spelled_rows (keyed f xs)

-- They are read again.
read_again : (f : Format) (xs : List Row) → list_all (is_row f) xs ≡ true → rows_read f (spelled_of f xs) ≡ Some xs
read_again f [] form = refl
read_again f (x ∷ xs) form =
    let parts = and_parts (is_row f x) (list_all (is_row f) xs) form in
    let one : row_of f (key_bytes (key_of x)) (value_of f x) ≡ Some x =
    row_again f (key_bytes (key_of x)) (value_of f x) x (record { form = parts.0; key_is = refl; value_is = refl }) in
    ap (λ (o : Option Row). option_and_then (λ y. option_map (λ more. y ∷ more) (rows_read f (spelled_of f xs))) o) one
    ∙ ap (λ (o : Option (List Row)). option_map (λ more. x ∷ more) o) (read_again f xs parts.1)

-- ---- what is tested

flawless_is : (nexts : Kind → ℕ) (xs : List Row) (s : State) → AreFlawless nexts xs s → are_flawless nexts xs s ≡ true
flawless_is nexts [] s flawless = refl
flawless_is nexts (x ∷ xs) s flawless = both_true (ap is_none flawless.0) (flawless_is nexts xs (with_row x s) flawless.1)

same_self : (rows : ByteRows) → same_rows rows rows ≡ true
same_self [] = refl
same_self (x ∷ xs) = both_true (both_true (same_bytes x.0 x.0 refl) (same_bytes x.1 x.1 refl)) (same_self xs)

-- ---- all of it

pub complete : (f : Format) (s : State) → ValidState s → HasRows f s → judged f (spelled_rows (rows_of f s)) ≡ Some s
complete f s v has =
    let ops = batch_between f start s in
    let xs = listed f s in
    let loads : Loads f ops xs = loads-listed f ops s v refl in
    let rows : spelled_rows (rows_of f s) ≡ spelled_of f xs = ap spelled_rows (sym (lists_state f s v).entries) in
    let read : rows_read f (spelled_rows (rows_of f s)) ≡ Some xs = ap (rows_read f) rows ∙ read_again f xs loads.form in
    let flawless : are_flawless (next_in xs) xs start ≡ true = flawless_is (next_in xs) xs start (flawless-rows f ops xs s v has refl loads) in
    let state : state_in xs ≡ s = same-state f ops xs s v has refl loads in
    let same : same_rows (spelled_rows (rows_of f s)) (spelled_rows (rows_of f (state_in xs))) ≡ true =
    ap (λ (t : State). same_rows (spelled_rows (rows_of f s)) (spelled_rows (rows_of f t))) state ∙ same_self (spelled_rows (rows_of f s)) in
    ap (λ (o : Option (List Row)). option_and_then (λ l. judged_rows f (spelled_rows (rows_of f s)) l) o) read
    ∙ ap (λ (b : Bool). cond b (Some (state_in xs)) None) (both_true flawless same)
    ∙ ap (λ (t : State). Some t) state
