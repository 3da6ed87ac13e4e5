-- The records and the intercepts of a state that rows give are those that the rows are, in their order.
use Rattle.std.proofs.Common.{◌≡◌, ℕ, ◌==◌, ◌&&◌, nat_le, Bool, true, false, cond, List, [], ◌∷◌, ◌++◌, flat_map, Option, None, Some, option_map, refl, sym, ◌∙◌, ap, append-nil, append_assoc}
use Rattle.std.specs.Prelude.{option_and_then}
use Rattle.std.specs.Option.{option_map_or, option_or, unwrap_or}
use Rattle.ctrl_model.specs.declared.intercepts.Intercept.{Intercept}
use Rattle.ctrl_model.specs.declared.kinds.Kind.{Kind}
use Rattle.ctrl_model.specs.declared.kinds.Kind.TheVariants as kind
use Rattle.ctrl_model.specs.Networks.{other_end}
use Rattle.ctrl_model.specs.Numbered.{at, with_last}
use Rattle.ctrl_model.specs.State.{State, Link, start}
use Rattle.ctrl_model.specs.Tables.{Record, table, record_name}
use Rattle.row_codec.specs.declared.rows.Row.{Row}
use Rattle.row_codec.specs.declared.rows.Row.TheVariants as row
use Rattle.row_codec.specs.RowKeys.{kind_number}
use Rattle.state_building.specs.RowForms.{by_row}
use Rattle.state_building.specs.JoinedRecords.{joined}
use Rattle.state_building.specs.BuiltStates.{with_row, built, next_in, with_nexts, state_in}
use Rattle.record_lines.specs.declared.listing.Listed.{Listed}
use Rattle.record_lines.specs.declared.listing.Listed.TheVariants as listed
use Rattle.record_lines.specs.RecordLines.{intercept_line, line_asked, line_of, lines_asked, lines_of}
use Rattle.record_lines.specs.RecordNames.{name_of, router_behind}
use Rattle.record_lines.specs.RowTexts.{same_kind, name_in, name_said, name_among, ends_said, ends_among, behind, is_entity, is_policy, is_way, is_use, is_of, is_asked, line_where, row_line}

-- ---- the records of a kind

-- a record as one of a kind, if it is one
abbrev pub one_of : (k j : Kind) → ℕ → Record j → List (ℕ × Record k)
one_of kind.Identity kind.Identity n r = (n, r) ∷ []
one_of kind.Service kind.Service n r = (n, r) ∷ []
one_of kind.Router kind.Router n r = (n, r) ∷ []
one_of kind.Link kind.Link n r = (n, r) ∷ []
one_of kind.ServicePolicy kind.ServicePolicy n r = (n, r) ∷ []
one_of kind.EdgeRouterPolicy kind.EdgeRouterPolicy n r = (n, r) ∷ []
one_of kind.ServiceEdgeRouterPolicy kind.ServiceEdgeRouterPolicy n r = (n, r) ∷ []
one_of kind.Terminator kind.Terminator n r = (n, r) ∷ []
one_of kind.Circuit kind.Circuit n r = (n, r) ∷ []
one_of k j n r = []

-- the record of a kind that a row is
abbrev pub record_in : (k : Kind) → Row → List (ℕ × Record k)
record_in k x = by_row (record { next = λ j n. []; setting = λ cost. []; one = one_of k; count = λ r a b c. []; intercept = λ n i. []; serial = λ n. [] }) x

-- the records of a kind that rows are
abbrev pub records_in : (k : Kind) → List Row → List (ℕ × Record k)
records_in k [] = []
records_in k (x ∷ xs) = record_in k x ++ records_in k xs

-- ---- the tables that rows give

joins : (k j : Kind) (n : ℕ) (r : Record j) (s : State) → (table k (joined j n r s)).rows ≡ (table k s).rows ++ one_of k j n r
joins kind.Identity kind.Identity n r s = refl
joins kind.Service kind.Service n r s = refl
joins kind.Router kind.Router n r s = refl
joins kind.Link kind.Link n r s = refl
joins kind.ServicePolicy kind.ServicePolicy n r s = refl
joins kind.EdgeRouterPolicy kind.EdgeRouterPolicy n r s = refl
joins kind.ServiceEdgeRouterPolicy kind.ServiceEdgeRouterPolicy n r s = refl
joins kind.Terminator kind.Terminator n r s = refl
joins kind.Circuit kind.Circuit n r s = refl
joins kind.Attribute j n r s = refl
joins k j n r s = sym (append-nil (table k s).rows)

others_keep : (k : Kind) (cost : ℕ) (is : List (ℕ × Intercept)) (n : ℕ) (s : State)
    → (table k (record s { least_router_cost = cost; intercepts = is; serial = n })).rows ≡ (table k s).rows ++ []
others_keep kind.Attribute cost is n s = refl
others_keep k cost is n s = sym (append-nil (table k s).rows)

row_joins : (k : Kind) (x : Row) (s : State) → (table k (with_row x s)).rows ≡ (table k s).rows ++ record_in k x
row_joins k (row.Identity n name attributes) s = joins k kind.Identity n.0 (record { name = name; attributes = attributes }) s
row_joins k (row.Service n name attributes) s = joins k kind.Service n.0 (record { name = name; attributes = attributes }) s
row_joins k (row.Router n name attributes cost through connected) s =
    joins k kind.Router n.0 (record { name = name; attributes = attributes; cost = cost; through = through; connected = connected }) s
row_joins k (row.Link n name a b cost latency_a latency_b up) s =
    joins k kind.Link n.0 (record { name = name; a = a.0; b = b.0; cost = cost; latency_a = latency_a; latency_b = latency_b; up = up }) s
row_joins k (row.ServicePolicy n name relation semantic identities services) s = joins k kind.ServicePolicy n.0 _ s
row_joins k (row.EdgeRouterPolicy n name semantic identities routers) s = joins k kind.EdgeRouterPolicy n.0 _ s
row_joins k (row.ServiceEdgeRouterPolicy n name semantic services routers) s = joins k kind.ServiceEdgeRouterPolicy n.0 _ s
row_joins k (row.Terminator n service router host instance cost precedence) s = joins k kind.Terminator n.0 _ s
row_joins k (row.Circuit n identity service terminator ingress links) s = joins k kind.Circuit n.0 _ s
row_joins k (row.Setting cost) s = others_keep k cost s.intercepts s.serial s
row_joins k (row.Intercept n i) s = others_keep k s.least_router_cost (with_last s.intercepts n.0 i) s.serial s
row_joins k (row.Serial n) s = others_keep k s.least_router_cost s.intercepts n s
row_joins k x s = sym (append-nil (table k s).rows)

built_rows : (k : Kind) (rows : List Row) (s : State) → (table k (built rows s)).rows ≡ (table k s).rows ++ records_in k rows
built_rows k [] s = sym (append-nil (table k s).rows)
built_rows k (x ∷ xs) s =
    built_rows k xs (with_row x s) ∙ ap (λ (l : List (ℕ × Record k)). l ++ records_in k xs) (row_joins k x s)
    ∙ append_assoc (table k s).rows (record_in k x) (records_in k xs)

empty_rows : (k : Kind) → (table k start).rows ≡ []
empty_rows kind.Attribute = refl
empty_rows k = refl

nexts_keep : (k : Kind) (nexts : Kind → ℕ) (s : State) → (table k (with_nexts nexts s)).rows ≡ (table k s).rows
nexts_keep kind.Attribute nexts s = refl
nexts_keep k nexts s = refl

-- the records of a kind in the state that rows give are those that the rows are
pub table_rows : (k : Kind) (rows : List Row) → (table k (state_in rows)).rows ≡ records_in k rows
table_rows k rows =
    nexts_keep k (next_in rows) (built rows start) ∙ built_rows k rows start ∙ ap (λ (l : List (ℕ × Record k)). l ++ records_in k rows) (empty_rows k)

-- ---- the intercepts

-- the intercept that a row says
abbrev pub intercept_in : Row → List (ℕ × Intercept)
intercept_in x = by_row (record { next = λ j n. []; setting = λ cost. []; one = λ k n r. []; count = λ r a b c. []; intercept = λ n i. (n, i) ∷ []; serial = λ n. [] }) x

-- the intercepts that rows say
abbrev pub intercepts_in : List Row → List (ℕ × Intercept)
intercepts_in rows = flat_map intercept_in rows

claim_joins : (x : Row) (s : State) → (with_row x s).intercepts ≡ s.intercepts ++ intercept_in x
claim_joins (row.Intercept n i) s = refl
claim_joins x s = sym (append-nil s.intercepts)

built_claims : (rows : List Row) (s : State) → (built rows s).intercepts ≡ s.intercepts ++ intercepts_in rows
built_claims [] s = sym (append-nil s.intercepts)
built_claims (x ∷ xs) s =
    built_claims xs (with_row x s) ∙ ap (λ (l : List (ℕ × Intercept)). l ++ intercepts_in xs) (claim_joins x s)
    ∙ append_assoc s.intercepts (intercept_in x) (intercepts_in xs)

-- the intercepts of the state that rows give are those that the rows say
pub claims_of_rows : (rows : List Row) → (state_in rows).intercepts ≡ intercepts_in rows
claims_of_rows rows = built_claims rows start

-- ---- the names of records

by_test : {R : Type 0} (name_of : R → List ℕ) (r : R) (rest : Option R) (later : List ℕ) (test : Bool) → later ≡ option_map_or name_of rest []
    → unwrap_or (cond test (Some (name_of r)) None) later ≡ option_map_or name_of (cond test (Some r) rest) []
by_test name_of r rest later true is = refl
by_test name_of r rest later false is = is

name_step : (k j : Kind) → nat_le 1 (kind_number j) ≡ true → (m : ℕ) (r : Record j) (n : ℕ) (rest : List (ℕ × Record k)) (later : List ℕ)
    → later ≡ option_map_or (record_name k) (at rest n) []
    → unwrap_or (name_in k n (j, m, record_name j r)) later ≡ option_map_or (record_name k) (at (one_of k j m r ++ rest) n) []
name_step kind.Identity kind.Identity h m r n rest later is = by_test (record_name kind.Identity) r (at rest n) later (m == n) is
name_step kind.Service kind.Service h m r n rest later is = by_test (record_name kind.Service) r (at rest n) later (m == n) is
name_step kind.Router kind.Router h m r n rest later is = by_test (record_name kind.Router) r (at rest n) later (m == n) is
name_step kind.Link kind.Link h m r n rest later is = by_test (record_name kind.Link) r (at rest n) later (m == n) is
name_step kind.ServicePolicy kind.ServicePolicy h m r n rest later is = by_test (record_name kind.ServicePolicy) r (at rest n) later (m == n) is
name_step kind.EdgeRouterPolicy kind.EdgeRouterPolicy h m r n rest later is = by_test (record_name kind.EdgeRouterPolicy) r (at rest n) later (m == n) is
name_step kind.ServiceEdgeRouterPolicy kind.ServiceEdgeRouterPolicy h m r n rest later is = by_test (record_name kind.ServiceEdgeRouterPolicy) r (at rest n) later (m == n) is
name_step kind.Terminator kind.Terminator h m r n rest later is = by_test (record_name kind.Terminator) r (at rest n) later (m == n) is
name_step kind.Circuit kind.Circuit h m r n rest later is = by_test (record_name kind.Circuit) r (at rest n) later (m == n) is
name_step kind.Attribute kind.Attribute h m r n rest later is = absurd (cc)
name_step k j h m r n rest later is = is

name_row : (k : Kind) (x : Row) (n : ℕ) (rest : List (ℕ × Record k)) (later : List ℕ) → later ≡ option_map_or (record_name k) (at rest n) []
    → unwrap_or (name_said k n x) later ≡ option_map_or (record_name k) (at (record_in k x ++ rest) n) []
name_row k (row.Identity m name attributes) n rest later is = name_step k kind.Identity refl m.0 _ n rest later is
name_row k (row.Service m name attributes) n rest later is = name_step k kind.Service refl m.0 _ n rest later is
name_row k (row.Router m name attributes cost through connected) n rest later is = name_step k kind.Router refl m.0 _ n rest later is
name_row k (row.Link m name a b cost latency_a latency_b up) n rest later is = name_step k kind.Link refl m.0 _ n rest later is
name_row k (row.ServicePolicy m name relation semantic identities services) n rest later is = name_step k kind.ServicePolicy refl m.0 _ n rest later is
name_row k (row.EdgeRouterPolicy m name semantic identities routers) n rest later is = name_step k kind.EdgeRouterPolicy refl m.0 _ n rest later is
name_row k (row.ServiceEdgeRouterPolicy m name semantic services routers) n rest later is = name_step k kind.ServiceEdgeRouterPolicy refl m.0 _ n rest later is
name_row k (row.Terminator m service router host instance cost precedence) n rest later is = name_step k kind.Terminator refl m.0 _ n rest later is
name_row k (row.Circuit m identity service terminator ingress links) n rest later is = name_step k kind.Circuit refl m.0 _ n rest later is
name_row k x n rest later is = is

names_in : (k : Kind) (rows : List Row) (n : ℕ) → name_among rows k n ≡ option_map_or (record_name k) (at (records_in k rows) n) []
names_in k [] n = refl
names_in k (x ∷ xs) n = name_row k x n (records_in k xs) (name_among xs k n) (names_in k xs n)

-- the first name that rows say is that of the state that they give
pub name_of_rows : (k : Kind) (rows : List Row) (n : ℕ) → name_among rows k n ≡ name_of k (state_in rows) n
name_of_rows k rows n =
    names_in k rows n ∙ ap (λ (l : List (ℕ × Record k)). option_map_or (record_name k) (at l n) []) (sym (table_rows k rows))

-- ---- the ends of links

end_step : (r : Link) (rest : Option Link) (later : Option (ℕ × ℕ)) (test : Bool) → later ≡ option_map (λ (l : Link). (l.a, l.b)) rest
    → option_or (cond test (Some (r.a, r.b)) None) later ≡ option_map (λ (l : Link). (l.a, l.b)) (cond test (Some r) rest)
end_step r rest later true is = refl
end_step r rest later false is = is

end_row : (x : Row) (n : ℕ) (rest : List (ℕ × Link)) (later : Option (ℕ × ℕ)) → later ≡ option_map (λ (l : Link). (l.a, l.b)) (at rest n)
    → option_or (ends_said n x) later ≡ option_map (λ (l : Link). (l.a, l.b)) (at (record_in kind.Link x ++ rest) n)
end_row (row.Link m name a b cost latency_a latency_b up) n rest later is =
    end_step (record { name = name; a = a.0; b = b.0; cost = cost; latency_a = latency_a; latency_b = latency_b; up = up }) (at rest n) later (m.0 == n) is
end_row x n rest later is = is

ends_in : (rows : List Row) (n : ℕ) → ends_among rows n ≡ option_map (λ (l : Link). (l.a, l.b)) (at (records_in kind.Link rows) n)
ends_in [] n = refl
ends_in (x ∷ xs) n = end_row x n (records_in kind.Link xs) (ends_among xs n) (ends_in xs n)

behind_in : (v : ℕ) (link : Option Link) → behind v (option_map (λ (l : Link). (l.a, l.b)) link) ≡ unwrap_or (option_and_then (other_end v) link) 0
behind_in v None = refl
behind_in v (Some l) = by_tests (l.a == v) (l.b == v)
  where
    by_tests : (first second : Bool) → cond first l.b (cond second l.a 0) ≡ unwrap_or (cond first (Some l.b) (cond second (Some l.a) None)) 0
    by_tests true second = refl
    by_tests false true = refl
    by_tests false false = refl

-- the router behind the first link that rows say is that of the state that they give
pub behind_rows : (rows : List Row) (v n : ℕ) → behind v (ends_among rows n) ≡ router_behind (state_in rows) v n
behind_rows rows v n =
    ap (behind v) (ends_in rows n) ∙ behind_in v (at (records_in kind.Link rows) n)
    ∙ ap (λ (l : List (ℕ × Link)). unwrap_or (option_and_then (other_end v) (at l n)) 0) (sym (table_rows kind.Link rows))

-- ---- what is said of each

-- what is said of a row, by what is said of a record of a kind under its number, and of an intercept
abbrev pub row_said : ((k : Kind) → ℕ × Record k → List ℕ) → (ℕ × Intercept → List ℕ) → Row → List ℕ
row_said f g x = by_row (record { next = λ k n. []; setting = λ cost. []; one = λ k n r. f k (n, r); count = λ r a b c. []; intercept = λ n i. g (n, i); serial = λ n. [] }) x

said_step : (f : (k : Kind) → ℕ × Record k → List ℕ) (k j : Kind) → nat_le 1 (kind_number j) ≡ true → (m : ℕ) (r : Record j) (rest : List (ℕ × Record k)) (later : List ℕ)
    → later ≡ flat_map (f k) rest
    → cond (same_kind j k) (f j (m, r)) [] ++ later ≡ flat_map (f k) (one_of k j m r ++ rest)
said_step f kind.Identity kind.Identity h m r rest later is = ap (λ (l : List ℕ). f kind.Identity (m, r) ++ l) is
said_step f kind.Service kind.Service h m r rest later is = ap (λ (l : List ℕ). f kind.Service (m, r) ++ l) is
said_step f kind.Router kind.Router h m r rest later is = ap (λ (l : List ℕ). f kind.Router (m, r) ++ l) is
said_step f kind.Link kind.Link h m r rest later is = ap (λ (l : List ℕ). f kind.Link (m, r) ++ l) is
said_step f kind.ServicePolicy kind.ServicePolicy h m r rest later is = ap (λ (l : List ℕ). f kind.ServicePolicy (m, r) ++ l) is
said_step f kind.EdgeRouterPolicy kind.EdgeRouterPolicy h m r rest later is = ap (λ (l : List ℕ). f kind.EdgeRouterPolicy (m, r) ++ l) is
said_step f kind.ServiceEdgeRouterPolicy kind.ServiceEdgeRouterPolicy h m r rest later is =
    ap (λ (l : List ℕ). f kind.ServiceEdgeRouterPolicy (m, r) ++ l) is
said_step f kind.Terminator kind.Terminator h m r rest later is = ap (λ (l : List ℕ). f kind.Terminator (m, r) ++ l) is
said_step f kind.Circuit kind.Circuit h m r rest later is = ap (λ (l : List ℕ). f kind.Circuit (m, r) ++ l) is
said_step f kind.Attribute kind.Attribute h m r rest later is = absurd (cc)
said_step f k j h m r rest later is = is

said_row : (f : (k : Kind) → ℕ × Record k → List ℕ) (g : ℕ × Intercept → List ℕ) (k : Kind) (x : Row) (rest : List (ℕ × Record k)) (later : List ℕ)
    → later ≡ flat_map (f k) rest → cond (is_of (listed.Records k) x) (row_said f g x) [] ++ later ≡ flat_map (f k) (record_in k x ++ rest)
said_row f g k (row.Identity m name attributes) rest later is = said_step f k kind.Identity refl m.0 _ rest later is
said_row f g k (row.Service m name attributes) rest later is = said_step f k kind.Service refl m.0 _ rest later is
said_row f g k (row.Router m name attributes cost through connected) rest later is = said_step f k kind.Router refl m.0 _ rest later is
said_row f g k (row.Link m name a b cost latency_a latency_b up) rest later is = said_step f k kind.Link refl m.0 _ rest later is
said_row f g k (row.ServicePolicy m name relation semantic identities services) rest later is = said_step f k kind.ServicePolicy refl m.0 _ rest later is
said_row f g k (row.EdgeRouterPolicy m name semantic identities routers) rest later is = said_step f k kind.EdgeRouterPolicy refl m.0 _ rest later is
said_row f g k (row.ServiceEdgeRouterPolicy m name semantic services routers) rest later is = said_step f k kind.ServiceEdgeRouterPolicy refl m.0 _ rest later is
said_row f g k (row.Terminator m service router host instance cost precedence) rest later is = said_step f k kind.Terminator refl m.0 _ rest later is
said_row f g k (row.Circuit m identity service terminator ingress links) rest later is = said_step f k kind.Circuit refl m.0 _ rest later is
said_row f g k x rest later is = is

claim_row : (f : (k : Kind) → ℕ × Record k → List ℕ) (g : ℕ × Intercept → List ℕ) (x : Row) (rest : List (ℕ × Intercept)) (later : List ℕ) → later ≡ flat_map g rest
    → cond (is_of listed.Intercepts x) (row_said f g x) [] ++ later ≡ flat_map g (intercept_in x ++ rest)
claim_row f g (row.Intercept n i) rest later is = ap (λ (l : List ℕ). g (n.0, i) ++ l) is
claim_row f g x rest later is = is

said_in_rows : (f : (k : Kind) → ℕ × Record k → List ℕ) (g : ℕ × Intercept → List ℕ) (k : Kind) (rows : List Row)
    → flat_map (λ x. cond (is_of (listed.Records k) x) (row_said f g x) []) rows ≡ flat_map (f k) (records_in k rows)
said_in_rows f g k [] = refl
said_in_rows f g k (x ∷ xs) =
    said_row f g k x (records_in k xs) (flat_map (λ y. cond (is_of (listed.Records k) y) (row_said f g y) []) xs) (said_in_rows f g k xs)

claims_in_rows : (f : (k : Kind) → ℕ × Record k → List ℕ) (g : ℕ × Intercept → List ℕ) (rows : List Row)
    → flat_map (λ x. cond (is_of listed.Intercepts x) (row_said f g x) []) rows ≡ flat_map g (intercepts_in rows)
claims_in_rows f g [] = refl
claims_in_rows f g (x ∷ xs) =
    claim_row f g x (intercepts_in xs) (flat_map (λ y. cond (is_of listed.Intercepts y) (row_said f g y) []) xs) (claims_in_rows f g xs)

-- what is said of the rows that are of a kind is what is said of the records that the state has of it
pub said_of_records : (f : (k : Kind) → ℕ × Record k → List ℕ) (g : ℕ × Intercept → List ℕ) (k : Kind) (rows : List Row)
    → flat_map (λ x. cond (is_of (listed.Records k) x) (row_said f g x) []) rows ≡ flat_map (f k) (table k (state_in rows)).rows
said_of_records f g k rows = said_in_rows f g k rows ∙ ap (λ (l : List (ℕ × Record k)). flat_map (f k) l) (sym (table_rows k rows))

-- and what is said of those that are intercepts is what is said of the state's
pub said_of_intercepts : (f : (k : Kind) → ℕ × Record k → List ℕ) (g : ℕ × Intercept → List ℕ) (rows : List Row)
    → flat_map (λ x. cond (is_of listed.Intercepts x) (row_said f g x) []) rows ≡ flat_map g (state_in rows).intercepts
said_of_intercepts f g rows = claims_in_rows f g rows ∙ ap (λ (l : List (ℕ × Intercept)). flat_map g l) (sym (claims_of_rows rows))

-- ---- lines

-- the lines of rows are those of what the state has that they give
pub lines_of_rows : (l : Listed) (rows : List Row) → flat_map (line_where (is_of l) (state_in rows)) rows ≡ lines_of l (state_in rows)
lines_of_rows (listed.Records k) rows =
    said_of_records (λ j x. line_of j (state_in rows) x) (λ x. intercept_line (state_in rows) x.0 x.1) k rows
lines_of_rows listed.Intercepts rows =
    said_of_intercepts (λ j x. line_of j (state_in rows) x) (λ x. intercept_line (state_in rows) x.0 x.1) rows

-- ---- lines that a word asks for

both_tests : (a b : Bool) (l : List ℕ) → cond (a && b) l [] ≡ cond a (cond b l []) []
both_tests true b l = refl
both_tests false b l = refl

-- what is said of a row that a word asks for
abbrev row_asked : List ℕ → State → Row → List ℕ
row_asked word s x = row_said (λ k y. line_asked (listed.Records k) word s y) (λ y. line_asked listed.Intercepts word s y) x

tested : (l : Listed) (word : List ℕ) (s : State) (x : Row) → line_where (is_asked l word s) s x ≡ cond (is_of l x) (row_asked word s x) []
tested (listed.Records k) word s (row.Identity m name attributes) = both_tests (same_kind kind.Identity k) _ _
tested (listed.Records k) word s (row.Service m name attributes) = both_tests (same_kind kind.Service k) _ _
tested (listed.Records k) word s (row.Router m name attributes cost through connected) = both_tests (same_kind kind.Router k) _ _
tested (listed.Records k) word s (row.Link m name a b cost latency_a latency_b up) = both_tests (same_kind kind.Link k) _ _
tested (listed.Records k) word s (row.ServicePolicy m name relation semantic identities services) = both_tests (same_kind kind.ServicePolicy k) _ _
tested (listed.Records k) word s (row.EdgeRouterPolicy m name semantic identities routers) = both_tests (same_kind kind.EdgeRouterPolicy k) _ _
tested (listed.Records k) word s (row.ServiceEdgeRouterPolicy m name semantic services routers) = both_tests (same_kind kind.ServiceEdgeRouterPolicy k) _ _
tested (listed.Records k) word s (row.Terminator m service router host instance cost precedence) = both_tests (same_kind kind.Terminator k) _ _
tested (listed.Records k) word s (row.Circuit m identity service terminator ingress links) = both_tests (same_kind kind.Circuit k) _ _
tested (listed.Records k) word s x = refl
tested listed.Intercepts word s (row.Intercept n i) = refl
tested listed.Intercepts word s x = refl

all_tested : (l : Listed) (word : List ℕ) (s : State) (rows : List Row)
    → flat_map (line_where (is_asked l word s) s) rows ≡ flat_map (λ x. cond (is_of l x) (row_asked word s x) []) rows
all_tested l word s [] = refl
all_tested l word s (x ∷ xs) =
    ap (λ (h : List ℕ). h ++ flat_map (line_where (is_asked l word s) s) xs) (tested l word s x)
    ∙ ap (λ (t : List ℕ). cond (is_of l x) (row_asked word s x) [] ++ t) (all_tested l word s xs)

-- the lines of rows that a word asks for are those of what it asks for in the state that they give
pub lines_asked_of_rows : (l : Listed) (word : List ℕ) (rows : List Row)
    → flat_map (line_where (is_asked l word (state_in rows)) (state_in rows)) rows ≡ lines_asked l word (state_in rows)
lines_asked_of_rows (listed.Records k) word rows =
    let s = state_in rows in
    all_tested (listed.Records k) word s rows
    ∙ said_of_records (λ j x. line_asked (listed.Records j) word s x) (λ x. line_asked listed.Intercepts word s x) k rows
lines_asked_of_rows listed.Intercepts word rows =
    let s = state_in rows in
    all_tested listed.Intercepts word s rows
    ∙ said_of_intercepts (λ j x. line_asked (listed.Records j) word s x) (λ x. line_asked listed.Intercepts word s x) rows

-- ---- the families of rows

-- a row is of one family at most
pub line_by_family : (s : State) (x : Row)
    → line_where is_entity s x ++ (line_where is_policy s x ++ (line_where is_way s x ++ line_where is_use s x)) ≡ row_line s x
line_by_family s (row.Identity n name attributes) = append-nil _
line_by_family s (row.Service n name attributes) = append-nil _
line_by_family s (row.Router n name attributes cost through connected) = append-nil _
line_by_family s (row.ServicePolicy n name relation semantic identities services) = append-nil _
line_by_family s (row.EdgeRouterPolicy n name semantic identities routers) = append-nil _
line_by_family s (row.ServiceEdgeRouterPolicy n name semantic services routers) = append-nil _
line_by_family s (row.Link n name a b cost latency_a latency_b up) = append-nil _
line_by_family s (row.Terminator n service router host instance cost precedence) = append-nil _
line_by_family s x = refl
