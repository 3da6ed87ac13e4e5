-- The states that the rows of a valid state lead through: the records of the kinds before one, and a front of those of that kind. Each
-- record at the end of the front leads to a front that is one longer.
use Rattle.std.proofs.Common.{◌≡◌, ℕ, zero, suc, ◌+◌, true, List, [], ◌∷◌, get_or, refl, sym, ap}
use Rattle.ctrl_model.specs.declared.formats.Format.TheVariants.{One}
use Rattle.ctrl_model.specs.declared.intercepts.Intercept.{Intercept}
use Rattle.ctrl_model.specs.declared.kinds.Kind.{Kind}
use Rattle.ctrl_model.specs.declared.kinds.Kind.TheVariants as kind
use Rattle.ctrl_model.specs.declared.kinds.Relation.{Relation}
use Rattle.ctrl_model.specs.declared.kinds.Relation.TheVariants.{Dial, Bind, IdentityRouter, ServiceRouter}
use Rattle.ctrl_model.specs.Numbered.{Table, with_last}
use Rattle.ctrl_model.specs.State.{State, start}
use Rattle.ctrl_model.specs.Tables.{Record, table, with_table}
use Rattle.ctrl_model.specs.Grants.{count}
use Rattle.ctrl_model.proofs.DistinctLaws.{Includes}
use Rattle.model_laws.proofs.KindLaws.{with_table-holds}
use Rattle.row_codec.specs.RowKeys.{kinds}
use Rattle.row_codec.specs.RowKeys.RowTable.{Records}
use Rattle.row_laws.proofs.TableRows.{has_number}
use Rattle.state_building.specs.JoinedRecords.{joined}
use Rattle.state_building.specs.BuiltStates.{with_nexts}

-- ---- tables of which each next number is that after the last record

-- the number after the last record, or the least one where there is none
abbrev pub past : {R : Type 0} → ℕ → List (ℕ × R) → ℕ
past low [] = low
past low (x ∷ xs) = past (x.0 + 1) xs

-- the table of some records
abbrev pub so_far : {R : Type 0} → List (ℕ × R) → Table R
so_far rows = record { rows = rows; next = past 1 rows }

past-last : {R : Type 0} (low : ℕ) (rows : List (ℕ × R)) (n : ℕ) (r : R) → past low (with_last rows n r) ≡ n + 1
past-last low [] n r = refl
past-last low (x ∷ xs) n r = past-last (x.0 + 1) xs n r

so_far-last : {R : Type 0} (rows : List (ℕ × R)) (n : ℕ) (r : R)
    → ◌≡◌ {A = Table R} (record { rows = with_last rows n r; next = n + 1 }) (so_far (with_last rows n r))
so_far-last rows n r = λ i. record { rows = with_last rows n r; next = sym (past-last 1 rows n r) i }

-- ---- states

-- the state with all records of the first kinds
abbrev pub with_first : ℕ → State → State
with_first zero s = record start { least_router_cost = s.least_router_cost }
with_first (suc n) s = with_table (get_or kinds n kind.Attribute) (so_far (table (get_or kinds n kind.Attribute) s).rows) (with_first n s)

-- the place of a kind among all; attributes, which have no records, come last
abbrev pub place : Kind → ℕ
place kind.Identity = 0
place kind.Service = 1
place kind.Router = 2
place kind.Link = 3
place kind.ServicePolicy = 4
place kind.EdgeRouterPolicy = 5
place kind.ServiceEdgeRouterPolicy = 6
place kind.Terminator = 7
place kind.Circuit = 8
place kind.Attribute = 9

-- the state before the records of a kind
abbrev pub before : Kind → State → State
before k s = with_first (place k) s

-- the state with a front of the records of a kind
abbrev pub front : (k : Kind) → List (ℕ × Record k) → State → State
front k rows s = with_table k (so_far rows) (before k s)

-- ---- what a front has

pub table-front : (k : Kind) → has_number One (Records k) ≡ true → (rows : List (ℕ × Record k)) (s : State) → table k (front k rows s) ≡ so_far rows
table-front kind.Attribute has rows s = absurd (cc)
table-front k has rows s = refl

pub front-nothing : (k : Kind) (s : State) → front k [] s ≡ before k s
front-nothing kind.Attribute s = refl
front-nothing k s = refl

pub joined-front : (k : Kind) → has_number One (Records k) ≡ true → (rows : List (ℕ × Record k)) (n : ℕ) (r : Record k) (s : State)
    → joined k n r (front k rows s) ≡ front k (with_last rows n r) s
joined-front kind.Attribute has rows n r s = absurd (cc)
joined-front k has rows n r s = ap (λ t. with_table k t (before k s)) (so_far-last rows n r)

-- ---- all that a front has the state has

inside-first : (n : ℕ) (s : State) (j : Kind) → Includes (table j (with_first n s)).rows (table j s).rows
inside-first zero s = nothing
  where
    nothing : (j : Kind) → Includes (table j (with_first 0 s)).rows (table j s).rows
    nothing kind.Attribute x m = absurd m
    nothing j x m = absurd m
inside-first (suc n) s =
    let k = get_or kinds n kind.Attribute in
    with_table-holds (λ j t. Includes t.rows (table j s).rows) (with_first n s) k (so_far (table k s).rows) (λ x m. m) (λ x m. m) (inside-first n s)

pub inside-front : (k : Kind) (rows : List (ℕ × Record k)) (s : State) → Includes rows (table k s).rows → (j : Kind) → Includes (table j (front k rows s)).rows (table j s).rows
inside-front k rows s inside = with_table-holds (λ j t. Includes t.rows (table j s).rows) (before k s) k (so_far rows) (λ x m. m) inside (inside-first (place k) s)

-- ---- the end

-- the state with all records, some intercepts and a serial
abbrev pub with_claims : List (ℕ × Intercept) → ℕ → State → State
with_claims is n s = record (before kind.Attribute s) { intercepts = is; serial = n }

-- counts are those of the state
pub count-end : (r : Relation) (s : State) (is : List (ℕ × Intercept)) (n a b : ℕ) → count r (with_claims is n s) a b ≡ count r s a b
count-end Dial s is n a b = refl
count-end Bind s is n a b = refl
count-end IdentityRouter s is n a b = refl
count-end ServiceRouter s is n a b = refl

-- with its intercepts, its serial and the next numbers of the state it is the state
pub with_nexts-end : (nexts : Kind → ℕ) (s : State) → ((k : Kind) → nexts k ≡ (table k s).next) → with_nexts nexts (with_claims s.intercepts s.serial s) ≡ s
with_nexts-end nexts s e = λ i. with_nexts (λ k. e k i) (with_claims s.intercepts s.serial s)
