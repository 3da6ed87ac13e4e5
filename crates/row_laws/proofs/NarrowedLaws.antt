-- The rows of a valid state in the second format are those in the first with narrowed counts.
use Rattle.std.proofs.Common.{◌≡◌, ℕ, nat_lt, nat_le, ◌&&◌, Bool, true, false, cond, List, [], ◌∷◌, ◌++◌, map, take, flat_map, Option, None, Some, refl, sym, ◌∙◌, ap, ap₂}
use Rattle.std.proofs.lemmas.Bool.{true≢false}
use Rattle.std.proofs.lemmas.List.{map-append}
use Rattle.ctrl_model.specs.declared.formats.Format.TheVariants.{One, Two}
use Rattle.ctrl_model.specs.declared.kinds.Kind.{Kind}
use Rattle.ctrl_model.specs.declared.kinds.Kind.TheVariants as kind
use Rattle.ctrl_model.specs.declared.kinds.Relation.{Relation}
use Rattle.ctrl_model.specs.declared.kinds.Relation.TheVariants.{Dial, Bind, IdentityRouter, ServiceRouter}
use Rattle.ctrl_model.specs.State.{State}
use Rattle.ctrl_model.specs.Tables.{table}
use Rattle.ctrl_model.specs.Grants.{count, left_numbers, right_numbers}
use Rattle.row_codec.specs.RowKeys.{RowTable, Key, kinds, kind_number, key_in, key_bytes, tables_of_both, tables_of_two, table_number}
use Rattle.row_codec.specs.RowKeys.RowTable.{Next, Setting, Records, Counts, Intercepts, Serial}
use Rattle.row_codec.specs.RowValues.{long, short, record_value, intercept_value}
use Rattle.row_codec.specs.StateRows.{Rows, next_value, setting_value, serial_value, count_value, row_if_some, rows_in, rows_of, HasRows}
use Rattle.row_codec.specs.Batches.{spelled_rows}
use Rattle.row_codec.specs.NarrowedRows.{narrowed}

-- ---- rows that are no counts stay

-- the number of a table that has no counts
abbrev counts_none : ℕ → Bool
counts_none t = nat_le 12 t && nat_le t 15

kept : (key : List ℕ) (b : Bool) → b ≡ false → (value : List ℕ) → ◌≡◌ {A = List ℕ × List ℕ} (key, value) (key, cond b (take 2 value) value)
kept key true e value = absurd (true≢false e)
kept key false e value = refl

kept_lone : (key : Key) → counts_none key.0 ≡ false → (o : Option (List ℕ)) → spelled_rows (row_if_some key o) ≡ map narrowed (spelled_rows (row_if_some key o))
kept_lone key e None = refl
kept_lone key e (Some value) = ap (λ x. x ∷ []) (kept (key_bytes key) (counts_none key.0) e value)

kept_records : {R : Type 0} (t : ℕ) → counts_none t ≡ false → (f : R → List ℕ) (rows : List (ℕ × R))
    → spelled_rows (map (λ x. ((t, x.0, 0), f x.1)) rows) ≡ map narrowed (spelled_rows (map (λ x. ((t, x.0, 0), f x.1)) rows))
kept_records t e f [] = refl
kept_records t e f (x ∷ xs) = ap₂ (λ y ys. y ∷ ys) (kept (key_bytes (t, x.0, 0)) (counts_none t) e (f x.1)) (kept_records t e f xs)

records_are_none : (k : Kind) → counts_none (table_number (Records k)) ≡ false
records_are_none kind.Identity = refl
records_are_none kind.Service = refl
records_are_none kind.Router = refl
records_are_none kind.Link = refl
records_are_none kind.ServicePolicy = refl
records_are_none kind.EdgeRouterPolicy = refl
records_are_none kind.ServiceEdgeRouterPolicy = refl
records_are_none kind.Terminator = refl
records_are_none kind.Circuit = refl
records_are_none kind.Attribute = refl

-- ---- what holds of each part holds of the whole

joined : {X : Type 0} (f g : X → Rows) → ((x : X) → spelled_rows (f x) ≡ map narrowed (spelled_rows (g x))) → (xs : List X)
    → spelled_rows (flat_map f xs) ≡ map narrowed (spelled_rows (flat_map g xs))
joined f g each [] = refl
joined f g each (x ∷ xs) =
    map-append (λ (y : Key × List ℕ). (key_bytes y.0, y.1)) (f x) (flat_map f xs)
    ∙ ap₂ (λ a b. a ++ b) (each x) (joined f g each xs)
    ∙ sym (map-append narrowed (spelled_rows (g x)) (spelled_rows (flat_map g xs)))
    ∙ ap (map narrowed) (sym (map-append (λ (y : Key × List ℕ). (key_bytes y.0, y.1)) (g x) (flat_map g xs)))

-- ---- a count is narrowed

count_narrowed : (r : Relation) (a b n : ℕ)
    → spelled_rows (row_if_some (key_in (Counts r) a b) (count_value Two n)) ≡ map narrowed (spelled_rows (row_if_some (key_in (Counts r) a b) (count_value One n)))
count_narrowed r a b n = by r (nat_lt 0 n)
  where
    by : (r : Relation) (above : Bool) → spelled_rows (row_if_some (key_in (Counts r) a b) (cond above (Some (short n)) None))
        ≡ map narrowed (spelled_rows (row_if_some (key_in (Counts r) a b) (cond above (Some (long n)) None)))
    by r false = refl
    by Dial true = refl
    by Bind true = refl
    by IdentityRouter true = refl
    by ServiceRouter true = refl

table_narrowed : (s : State) (t : RowTable) → spelled_rows (rows_in Two t s) ≡ map narrowed (spelled_rows (rows_in One t s))
table_narrowed s Next =
    joined (λ k. row_if_some (key_in Next (kind_number k) 0) (next_value (table k s).next)) (λ k. row_if_some (key_in Next (kind_number k) 0) (next_value (table k s).next))
    (λ k. kept_lone (key_in Next (kind_number k) 0) refl (next_value (table k s).next)) kinds
table_narrowed s Setting = kept_lone (key_in Setting 0 0) refl (setting_value s.least_router_cost)
table_narrowed s (Records k) = kept_records (table_number (Records k)) (records_are_none k) (record_value k) (table k s).rows
table_narrowed s (Counts r) =
    joined (λ a. flat_map (λ b. row_if_some (key_in (Counts r) a b) (count_value Two (count r s a b))) (right_numbers r s))
    (λ a. flat_map (λ b. row_if_some (key_in (Counts r) a b) (count_value One (count r s a b))) (right_numbers r s))
    (λ a. joined (λ b. row_if_some (key_in (Counts r) a b) (count_value Two (count r s a b))) (λ b. row_if_some (key_in (Counts r) a b) (count_value One (count r s a b)))
    (λ b. count_narrowed r a b (count r s a b)) (right_numbers r s)) (left_numbers r s)
table_narrowed s Intercepts = kept_records 16 refl intercept_value s.intercepts
table_narrowed s Serial = kept_lone (key_in Serial 0 0) refl (serial_value s.serial)

-- ---- and the last two tables are empty

pub rows_narrowed : (s : State) → HasRows One s → spelled_rows (rows_of Two s) ≡ map narrowed (spelled_rows (rows_of One s))
rows_narrowed s has = behind tables_of_both
  where
    none : spelled_rows (flat_map (λ t. rows_in Two t s) tables_of_two) ≡ []
    none = ap₂ (λ is n. spelled_rows (map (λ x. (key_in Intercepts x.0 0, intercept_value x.1)) is ++ (row_if_some (key_in Serial 0 0) (serial_value n) ++ []))) has.0 has.1

    behind : (ts : List RowTable) → spelled_rows (flat_map (λ t. rows_in Two t s) (ts ++ tables_of_two)) ≡ map narrowed (spelled_rows (flat_map (λ t. rows_in One t s) ts))
    behind [] = none
    behind (t ∷ ts) =
        map-append (λ (y : Key × List ℕ). (key_bytes y.0, y.1)) (rows_in Two t s) (flat_map (λ t. rows_in Two t s) (ts ++ tables_of_two))
        ∙ ap₂ (λ a b. a ++ b) (table_narrowed s t) (behind ts)
        ∙ sym (map-append narrowed (spelled_rows (rows_in One t s)) (spelled_rows (flat_map (λ t. rows_in One t s) ts)))
        ∙ ap (map narrowed) (sym (map-append (λ (y : Key × List ℕ). (key_bytes y.0, y.1)) (rows_in One t s) (flat_map (λ t. rows_in One t s) ts)))
