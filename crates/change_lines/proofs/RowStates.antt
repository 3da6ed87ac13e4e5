-- The rows of a valid state are its things, one by one, so that what is said of rows is what is said of their states.
use Rattle.std.proofs.Common.{◌≡◌, ℕ, ◌==◌, nat_lt, not, Bool, true, false, cond, List, [], ◌∷◌, ◌++◌, map, flat_map, None, Some, refl, sym, ◌∙◌, ap, ap₂, subst, append-nil}
use Rattle.std.specs.Prelude.{codes}
use Rattle.std.specs.List.{list_all}
use Rattle.std.proofs.lemmas.List.{map-append}
use Rattle.std.proofs.lemmas.Grind.{flat_map-append}
use Rattle.ctrl_model.specs.declared.formats.Format.{Format}
use Rattle.ctrl_model.specs.declared.formats.Format.TheVariants.{One, Two}
use Rattle.ctrl_model.specs.declared.intercepts.Intercept.{Intercept}
use Rattle.ctrl_model.specs.declared.kinds.Kind.{Kind}
use Rattle.ctrl_model.specs.declared.kinds.Kind.TheVariants as kind
use Rattle.ctrl_model.specs.declared.kinds.Relation.{Relation}
use Rattle.ctrl_model.specs.declared.kinds.Relation.TheVariants.{Dial, Bind, IdentityRouter, ServiceRouter}
use Rattle.ctrl_model.specs.Grants.{count, left_numbers, right_numbers}
use Rattle.ctrl_model.specs.State.{State, Terminator, start}
use Rattle.ctrl_model.specs.Tables.{Record, table}
use Rattle.row_codec.specs.declared.rows.Row.{Row}
use Rattle.row_codec.specs.declared.rows.Row.TheVariants as row
use Rattle.row_codec.specs.Batches.{batch_between}
use Rattle.row_codec.specs.RowForm.{is_row, key_of}
use Rattle.row_codec.specs.RowKeys.{Key, RowTable, key_in, kind_number, kinds, tables_of}
use Rattle.row_codec.specs.RowKeys.RowTable.{Next, Setting, Records, Counts, Intercepts, Serial}
use Rattle.row_codec.specs.RowValues.{count_bytes, intercept_value, long, record_value, wide}
use Rattle.row_codec.specs.StateRows.{HasRows, count_value, next_value}
use Rattle.row_loading.proofs.ListedStates.{count_row, hosts_back, listed, listed_in, lists_state, row_for, row_if}
use Rattle.row_loading.proofs.LoadedStates.{are-listed, same-state}
use Rattle.state_building.specs.BuiltStates.{state_in}
use Rattle.record_lines.specs.RecordLines.{intercept_line, line_of, terminator_line}
use Rattle.change_lines.specs.SideBySide.{side_by_side}
use Rattle.change_lines.specs.ChangeLines.{Thing, Things, change_lines, grant_word, kind_word, number_line, pair_line, said, thing_if_some, things, things_in, worded}
use Rattle.change_lines.specs.RowChanges.{AreRowsOf, between, numbered_word, row_thing, row_things}

-- ---- lists of lists

pub map_flat : {A B C : Type 0} (h : B → C) (f : A → List B) (g : A → List C) → ((x : A) → map h (f x) ≡ g x) → (xs : List A) → map h (flat_map f xs) ≡ flat_map g xs
map_flat h f g each [] = refl
map_flat {C = C} h f g each (x ∷ xs) = map-append h (f x) (flat_map f xs) ∙ ap₂ (λ (a b : List C). a ++ b) (each x) (map_flat h f g each xs)

pub map_each : {A B C : Type 0} (h : B → C) (f : A → B) (g : A → C) → ((x : A) → h (f x) ≡ g x) → (xs : List A) → map h (map f xs) ≡ map g xs
map_each h f g each [] = refl
map_each {C = C} h f g each (x ∷ xs) = ap₂ (λ (a : C) (b : List C). a ∷ b) (each x) (map_each h f g each xs)

-- ---- the thing that a row is

-- what a row is, under its key
abbrev keyed_thing : State → Row → Key × Thing
keyed_thing s x = (key_of x, row_thing s x)

-- a line with nothing behind it
alone : (key : Key) (value word line : List ℕ)
    → ◌≡◌ {A = Key × Thing} (key, record { value = value; line = worded word (line ++ []) }) (key, record { value = value; line = worded word line })
alone key value word line = λ i. (key, record { value = value; line = worded word (append-nil line i) })

record_thing : (k : Kind) (s : State) (n : ℕ) (r : Record k) → (kind_number k == 0) ≡ false
    → ◌≡◌ {A = Key × Thing} (keyed_thing s (row_for k n r)) (key_in (Records k) n 0, record { value = record_value k r; line = worded (kind_word k) (line_of k s (n, r)) })
record_thing kind.Identity s n r has = alone (key_in (Records kind.Identity) n 0) (record_value kind.Identity r) (kind_word kind.Identity) (line_of kind.Identity s (n, r))
record_thing kind.Service s n r has = alone (key_in (Records kind.Service) n 0) (record_value kind.Service r) (kind_word kind.Service) (line_of kind.Service s (n, r))
record_thing kind.Router s n r has = alone (key_in (Records kind.Router) n 0) (record_value kind.Router r) (kind_word kind.Router) (line_of kind.Router s (n, r))
record_thing kind.Link s n r has = alone (key_in (Records kind.Link) n 0) (record_value kind.Link r) (kind_word kind.Link) (line_of kind.Link s (n, r))
record_thing kind.ServicePolicy s n r has =
    alone (key_in (Records kind.ServicePolicy) n 0) (record_value kind.ServicePolicy r) (kind_word kind.ServicePolicy) (line_of kind.ServicePolicy s (n, r))
record_thing kind.EdgeRouterPolicy s n r has =
    alone (key_in (Records kind.EdgeRouterPolicy) n 0) (record_value kind.EdgeRouterPolicy r) (kind_word kind.EdgeRouterPolicy) (line_of kind.EdgeRouterPolicy s (n, r))
record_thing kind.ServiceEdgeRouterPolicy s n r has =
    alone (key_in (Records kind.ServiceEdgeRouterPolicy) n 0) (record_value kind.ServiceEdgeRouterPolicy r) (kind_word kind.ServiceEdgeRouterPolicy) (line_of kind.ServiceEdgeRouterPolicy s (n, r))
record_thing kind.Terminator s n t has = hosted ∙ alone (key_in (Records kind.Terminator) n 0) (record_value kind.Terminator t) (kind_word kind.Terminator) (line_of kind.Terminator s (n, t))
  where
    hosted : ◌≡◌ {A = Key × Thing} (keyed_thing s (row_for kind.Terminator n t))
        (key_in (Records kind.Terminator) n 0, record { value = record_value kind.Terminator t; line = worded (kind_word kind.Terminator) (line_of kind.Terminator s (n, t) ++ []) })
    hosted = λ i. (
      key_in (Records kind.Terminator) n 0,
      record {
        value = record_value kind.Terminator (record t { host = hosts_back t.host i });
        line = worded (kind_word kind.Terminator) (terminator_line s n (record t { host = hosts_back t.host i }) ++ []);
      },
    )
record_thing kind.Circuit s n r has = alone (key_in (Records kind.Circuit) n 0) (record_value kind.Circuit r) (kind_word kind.Circuit) (line_of kind.Circuit s (n, r))
record_thing kind.Attribute s n r has = absurd (cc)

records_things : (k : Kind) (s : State) → (kind_number k == 0) ≡ false → map (keyed_thing s) (listed_in (Records k) s) ≡ things_in (Records k) s
records_things k s has =
    map_each (keyed_thing s) (λ (x : ℕ × Record k). row_for k x.0 x.1)
    (λ (x : ℕ × Record k). (key_in (Records k) x.0 0, record { value = record_value k x.1; line = worded (kind_word k) (line_of k s x) }))
    (λ x. record_thing k s x.0 x.1 has) (table k s).rows

-- ---- a row that is there where a test holds

row_there : (s : State) (x : Row) (key : Key) (value line : List ℕ) → ◌≡◌ {A = Key × Thing} (keyed_thing s x) (key, record { value = value; line = line }) → (t : Bool)
    → map (keyed_thing s) (row_if t x) ≡ thing_if_some key (cond t (Some value) None) line
row_there s x key value line is true = ap (λ (y : Key × Thing). y ∷ []) is
row_there s x key value line is false = refl

row_absent : (s : State) (x : Row) (key : Key) (value line : List ℕ) → ◌≡◌ {A = Key × Thing} (keyed_thing s x) (key, record { value = value; line = line }) → (t : Bool)
    → map (keyed_thing s) (row_if (not t) x) ≡ thing_if_some key (cond t None (Some value)) line
row_absent s x key value line is true = refl
row_absent s x key value line is false = ap (λ (y : Key × Thing). y ∷ []) is

count_thing : (r : Relation) (s : State) (a b c : ℕ)
    → map (keyed_thing s) (row_if (nat_lt 0 c) (count_row r a b c)) ≡ thing_if_some (key_in (Counts r) a b) (count_value Two c) (worded (grant_word r) (pair_line r s a b c))
count_thing Dial s a b c = row_there s (count_row Dial a b c) (key_in (Counts Dial) a b) (count_bytes Two c) (worded (grant_word Dial) (pair_line Dial s a b c)) refl (nat_lt 0 c)
count_thing Bind s a b c = row_there s (count_row Bind a b c) (key_in (Counts Bind) a b) (count_bytes Two c) (worded (grant_word Bind) (pair_line Bind s a b c)) refl (nat_lt 0 c)
count_thing IdentityRouter s a b c =
    row_there s (count_row IdentityRouter a b c) (key_in (Counts IdentityRouter) a b) (count_bytes Two c) (worded (grant_word IdentityRouter) (pair_line IdentityRouter s a b c)) refl (nat_lt 0 c)
count_thing ServiceRouter s a b c =
    row_there s (count_row ServiceRouter a b c) (key_in (Counts ServiceRouter) a b) (count_bytes Two c) (worded (grant_word ServiceRouter) (pair_line ServiceRouter s a b c)) refl (nat_lt 0 c)

number_of_word : (k : Kind) → numbered_word (kind_number k) ≡ kind_word k
number_of_word kind.Identity = refl
number_of_word kind.Service = refl
number_of_word kind.Router = refl
number_of_word kind.Link = refl
number_of_word kind.ServicePolicy = refl
number_of_word kind.EdgeRouterPolicy = refl
number_of_word kind.ServiceEdgeRouterPolicy = refl
number_of_word kind.Terminator = refl
number_of_word kind.Circuit = refl
number_of_word kind.Attribute = refl

next_thing : (s : State) (k : Kind) (n : ℕ) → map (keyed_thing s) (row_if (nat_lt 1 n) (row.Next (kind_number k) n))
    ≡ thing_if_some (key_in Next (kind_number k) 0) (next_value n) (worded (codes "next") (worded (kind_word k) (number_line n)))
next_thing s k n =
    row_there s (row.Next (kind_number k) n) (key_in Next (kind_number k) 0) (long n) (worded (codes "next") (worded (kind_word k) (number_line n)))
    (λ i. (key_in Next (kind_number k) 0, record { value = long n; line = worded (codes "next") (worded (number_of_word k i) (number_line n)) })) (nat_lt 1 n)

-- ---- table by table

table_things : (t : RowTable) (s : State) → map (keyed_thing s) (listed_in t s) ≡ things_in t s
table_things Next s =
    map_flat (keyed_thing s) (λ k. row_if (nat_lt 1 (table k s).next) (row.Next (kind_number k) (table k s).next))
    (λ k. thing_if_some (key_in Next (kind_number k) 0) (next_value (table k s).next) (worded (codes "next") (worded (kind_word k) (number_line (table k s).next))))
    (λ k. next_thing s k (table k s).next) kinds
table_things Setting s =
    row_absent s (row.Setting s.least_router_cost) (key_in Setting 0 0) (long s.least_router_cost) (worded (codes "least-router-cost") (number_line s.least_router_cost)) refl
    (s.least_router_cost == start.least_router_cost)
table_things (Records kind.Attribute) s = refl
table_things (Records kind.Identity) s = records_things kind.Identity s refl
table_things (Records kind.Service) s = records_things kind.Service s refl
table_things (Records kind.Router) s = records_things kind.Router s refl
table_things (Records kind.Link) s = records_things kind.Link s refl
table_things (Records kind.ServicePolicy) s = records_things kind.ServicePolicy s refl
table_things (Records kind.EdgeRouterPolicy) s = records_things kind.EdgeRouterPolicy s refl
table_things (Records kind.ServiceEdgeRouterPolicy) s = records_things kind.ServiceEdgeRouterPolicy s refl
table_things (Records kind.Terminator) s = records_things kind.Terminator s refl
table_things (Records kind.Circuit) s = records_things kind.Circuit s refl
table_things (Counts r) s =
    map_flat (keyed_thing s) (λ a. flat_map (λ b. row_if (nat_lt 0 (count r s a b)) (count_row r a b (count r s a b))) (right_numbers r s))
    (λ a. flat_map (λ b. thing_if_some (key_in (Counts r) a b) (count_value Two (count r s a b)) (worded (grant_word r) (pair_line r s a b (count r s a b)))) (right_numbers r s))
    (λ a. map_flat (keyed_thing s) (λ b. row_if (nat_lt 0 (count r s a b)) (count_row r a b (count r s a b)))
    (λ b. thing_if_some (key_in (Counts r) a b) (count_value Two (count r s a b)) (worded (grant_word r) (pair_line r s a b (count r s a b))))
    (λ b. count_thing r s a b (count r s a b)) (right_numbers r s)) (left_numbers r s)
table_things Intercepts s =
    map_each (keyed_thing s) (λ (x : ℕ × Intercept). row.Intercept (record { 0 = x.0 }) x.1)
    (λ (x : ℕ × Intercept). (key_in Intercepts x.0 0, record { value = intercept_value x.1; line = worded (codes "intercepts") (intercept_line s x.0 x.1) }))
    (λ x. alone (key_in Intercepts x.0 0) (intercept_value x.1) (codes "intercepts") (intercept_line s x.0 x.1)) s.intercepts
table_things Serial s = row_there s (row.Serial s.serial) (key_in Serial 0 0) (wide s.serial) (worded (codes "serial") (number_line s.serial)) refl (nat_lt 0 s.serial)

listed_things : (s : State) → row_things s (listed Two s) ≡ things s
listed_things s = map_flat (keyed_thing s) (λ t. listed_in t s) (λ t. things_in t s) (λ t. table_things t s) (tables_of Two)

-- ---- the rows of a state

no_intercepts : (is : List (ℕ × Intercept)) → is ≡ [] → map (λ (x : ℕ × Intercept). row.Intercept (record { 0 = x.0 }) x.1) is ≡ []
no_intercepts [] e = refl
no_intercepts (x ∷ xs) e = absurd (cc)

listed_in_two : (s : State) → HasRows One s → listed Two s ≡ listed One s
listed_in_two s has =
    flat_map-append (λ t. listed_in t s) (tables_of One) (Intercepts ∷ Serial ∷ [])
    ∙ ap₂ (λ (xs ys : List Row). listed One s ++ (xs ++ (ys ++ []))) (no_intercepts s.intercepts has.0) (ap (λ (n : ℕ). row_if (nat_lt 0 n) (row.Serial n)) has.1)
    ∙ append-nil (listed One s)

-- whatever format they were read of, they are those of the second one
pub rows_are : (f : Format) (s : State) (rows : List Row) → AreRowsOf f s rows → listed Two s ≡ rows
rows_are One s rows are = listed_in_two s are.has ∙ are-listed One (batch_between One start s) rows s are.valid refl are.loads
rows_are Two s rows are = are-listed Two (batch_between Two start s) rows s are.valid refl are.loads

-- each of them has a row's form
pub form_of_rows : (f : Format) (s : State) (rows : List Row) → AreRowsOf f s rows → list_all (is_row Two) rows ≡ true
form_of_rows f s rows are = subst (λ (xs : List Row). list_all (is_row Two) xs ≡ true) (rows_are f s rows are) (lists_state Two s are.valid).form

things_of_rows : (f : Format) (s : State) (rows : List Row) → AreRowsOf f s rows → row_things (state_in rows) rows ≡ things s
things_of_rows f s rows are =
    ap (λ (u : State). row_things u rows) (same-state f (batch_between f start s) rows s are.valid are.has refl are.loads)
    ∙ ap (row_things s) (sym (rows_are f s rows are))
    ∙ listed_things s

-- what is said of rows is what is said of their states
pub changes_of_rows : (f g : Format) (s t : State) (xs ys : List Row) → AreRowsOf f s xs → AreRowsOf g t ys → between (state_in xs) (state_in ys) xs ys ≡ change_lines s t
changes_of_rows f g s t xs ys are_xs are_ys = ap₂ (λ (us vs : Things). side_by_side said us vs) (things_of_rows f s xs are_xs) (things_of_rows g t ys are_ys)
