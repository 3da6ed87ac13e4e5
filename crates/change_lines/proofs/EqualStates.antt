-- Nothing is said exactly where all things are the same, and so exactly of equal states.
use Rattle.std.proofs.Common.{◌≡◌, ℕ, Bool, true, false, cond, List, [], ◌∷◌, ◌++◌, map, flat_map, None, Some, refl, sym, ◌∙◌, ap, ap₂, Less, Equal, Greater}
use Rattle.std.specs.Prelude.{codes}
use Rattle.std.specs.Str.{bytes_eq}
use Rattle.std.specs.declared.cmp.Ordering.{Ordering}
use Rattle.std.specs.declared.option.Option.{Option}
use Rattle.std.specs.Ordering.{match_ordering}
use Rattle.std.proofs.lemmas.Cmp.{tied_itself}
use Rattle.std.proofs.lemmas.Slice.Eq.{bytes_eq-Decides}
use Rattle.ctrl_model.specs.declared.formats.Format.TheVariants.{Two}
use Rattle.ctrl_model.specs.declared.intercepts.Intercept.{Intercept}
use Rattle.ctrl_model.specs.Grants.{count, left_numbers, right_numbers}
use Rattle.ctrl_model.specs.State.{State}
use Rattle.ctrl_model.specs.Tables.{Record, table}
use Rattle.ctrl_model.specs.ValidState.{ValidState}
use Rattle.row_codec.specs.RowKeys.{Key, RowTable, key_cmp, key_in, kind_number, kinds, tables_of}
use Rattle.row_codec.specs.RowKeys.RowTable.{Next, Setting, Records, Counts, Intercepts, Serial}
use Rattle.row_codec.specs.RowValues.{intercept_value, record_value}
use Rattle.row_codec.specs.StateRows.{Rows, count_value, next_value, row_if_some, rows_in, rows_of, serial_value, setting_value}
use Rattle.row_laws.proofs.KeyOrders.{key_exact, key_total}
use Rattle.row_laws.proofs.SameStates.{same_from_rows}
use Rattle.record_lines.specs.RecordLines.{intercept_line, line_of}
use Rattle.change_lines.specs.SideBySide.{side_by_side, with_first}
use Rattle.change_lines.specs.ChangeLines.{Thing, Things, change_lines, grant_word, kind_word, number_line, pair_line, said, thing_if_some, things, things_in, worded}
use Rattle.change_lines.proofs.RowStates.{map_each, map_flat}

-- ---- the same things

same_bytes : (v : List ℕ) → bytes_eq v v ≡ true
same_bytes v = (bytes_eq-Decides v v).1 refl

of_equal : (x : Thing) (rest : List ℕ) → said (Some x) (Some x) ++ rest ≡ rest
of_equal x rest = ap (λ (b : Bool). cond b [] (codes "~ " ++ (x.line ++ (codes "> " ++ x.line))) ++ rest) (same_bytes x.value)

nothing_of_same : (xs : Things) → side_by_side said xs xs ≡ []
nothing_of_same [] = refl
nothing_of_same (x ∷ xs) =
    ap (λ (o : Ordering). match_ordering o (said (Some x.1) None ++ side_by_side said xs (x ∷ xs)) (said (Some x.1) (Some x.1) ++ side_by_side said xs xs)
    (said None (Some x.1) ++ with_first said x (side_by_side said xs) xs)) (tied_itself key_total x.0)
    ∙ of_equal x.1 (side_by_side said xs xs)
    ∙ nothing_of_same xs

pub nothing_said : (s : State) → change_lines s s ≡ []
nothing_said s = nothing_of_same (things s)

-- ---- and back

-- the value of a thing under its key
abbrev kept : Key × Thing → Key × List ℕ
kept x = (x.0, x.1.value)

kept_step : (x y : Key × Thing) (xs ys : Things) → (side_by_side said xs ys ≡ [] → map kept xs ≡ map kept ys) → (o : Ordering) → key_cmp x.0 y.0 ≡ o
    → match_ordering o (said (Some x.1) None ++ side_by_side said xs (y ∷ ys)) (said (Some x.1) (Some y.1) ++ side_by_side said xs ys)
    (said None (Some y.1) ++ with_first said x (side_by_side said xs) ys) ≡ []
    → map kept (x ∷ xs) ≡ map kept (y ∷ ys)
kept_step x y xs ys later Less is none = absurd (cc)
kept_step x y xs ys later Equal is none = one (bytes_eq x.1.value y.1.value) refl none
  where
    one : (b : Bool) → bytes_eq x.1.value y.1.value ≡ b → cond b [] (codes "~ " ++ (x.1.line ++ (codes "> " ++ y.1.line))) ++ side_by_side said xs ys ≡ []
        → map kept (x ∷ xs) ≡ map kept (y ∷ ys)
    one true same rest =
        ap₂ (λ (a : Key × List ℕ) (b : Rows). a ∷ b) (λ i. (key_exact x.0 y.0 is i, (bytes_eq-Decides x.1.value y.1.value).0 same i)) (later rest)
    one false other rest = absurd (cc)
kept_step x y xs ys later Greater is none = absurd (cc)

kept_same : (xs ys : Things) → side_by_side said xs ys ≡ [] → map kept xs ≡ map kept ys
kept_same [] [] e = refl
kept_same [] (y ∷ ys) e = absurd (cc)
kept_same (x ∷ xs) [] e = absurd (cc)
kept_same (x ∷ xs) (y ∷ ys) e = kept_step x y xs ys (kept_same xs ys) (key_cmp x.0 y.0) refl e

-- ---- the values are the rows

kept_if : (key : Key) (value : Option (List ℕ)) (line : List ℕ) → map kept (thing_if_some key value line) ≡ row_if_some key value
kept_if key None line = refl
kept_if key (Some value) line = refl

kept_in : (t : RowTable) (s : State) → map kept (things_in t s) ≡ rows_in Two t s
kept_in Next s =
    map_flat kept (λ k. thing_if_some (key_in Next (kind_number k) 0) (next_value (table k s).next) (worded (codes "next") (worded (kind_word k) (number_line (table k s).next))))
    (λ k. row_if_some (key_in Next (kind_number k) 0) (next_value (table k s).next)) (λ k. kept_if _ (next_value (table k s).next) _) kinds
kept_in Setting s = kept_if _ (setting_value s.least_router_cost) _
kept_in (Records k) s =
    map_each kept (λ (x : ℕ × Record k). (key_in (Records k) x.0 0, record { value = record_value k x.1; line = worded (kind_word k) (line_of k s x) }))
    (λ (x : ℕ × Record k). (key_in (Records k) x.0 0, record_value k x.1)) (λ x. refl) (table k s).rows
kept_in (Counts r) s =
    map_flat kept (λ a. flat_map (λ b. thing_if_some (key_in (Counts r) a b) (count_value Two (count r s a b)) (worded (grant_word r) (pair_line r s a b (count r s a b)))) (right_numbers r s))
    (λ a. flat_map (λ b. row_if_some (key_in (Counts r) a b) (count_value Two (count r s a b))) (right_numbers r s))
    (λ a. map_flat kept (λ b. thing_if_some (key_in (Counts r) a b) (count_value Two (count r s a b)) (worded (grant_word r) (pair_line r s a b (count r s a b))))
    (λ b. row_if_some (key_in (Counts r) a b) (count_value Two (count r s a b))) (λ b. kept_if _ (count_value Two (count r s a b)) _) (right_numbers r s)) (left_numbers r s)
kept_in Intercepts s =
    map_each kept (λ (x : ℕ × Intercept). (key_in Intercepts x.0 0, record { value = intercept_value x.1; line = worded (codes "intercepts") (intercept_line s x.0 x.1) }))
    (λ (x : ℕ × Intercept). (key_in Intercepts x.0 0, intercept_value x.1)) (λ x. refl) s.intercepts
kept_in Serial s = kept_if _ (serial_value s.serial) _

kept_rows : (s : State) → map kept (things s) ≡ rows_of Two s
kept_rows s = map_flat kept (λ t. things_in t s) (λ t. rows_in Two t s) (λ t. kept_in t s) (tables_of Two)

pub same_from_nothing : (s t : State) → ValidState s → ValidState t → change_lines s t ≡ [] → s ≡ t
same_from_nothing s t v w none = same_from_rows Two s t v w tt tt (sym (kept_rows s) ∙ kept_same (things s) (things t) none ∙ kept_rows t)
