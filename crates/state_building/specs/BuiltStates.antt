-- A state that is built of rows, one after another: what each row makes of the state so far, and why it cannot be the next one
-- (docs/FORMATS.md, "Rows of a valid state").
use Rattle.std.specs.Prelude.{◌≡◌, ℕ, ◌==◌, ⊤, not, cond, List, [], ◌∷◌, None, Some}
use Rattle.std.specs.declared.option.Option.{Option}
use Rattle.std.specs.Option.{unwrap_or}
use Rattle.ctrl_model.specs.declared.kinds.Kind.{Kind}
use Rattle.ctrl_model.specs.declared.kinds.Relation.{Relation}
use Rattle.ctrl_model.specs.ValueForms.{is_link_cost}
use Rattle.ctrl_model.specs.State.{State, start}
use Rattle.ctrl_model.specs.Grants.{count, same_relation}
use Rattle.row_codec.specs.declared.rows.Row.{Row}
use Rattle.row_codec.specs.RowKeys.{kinds, kind_number}
use Rattle.state_building.specs.declared.flaws.Flaw.{Flaw}
use Rattle.state_building.specs.declared.flaws.Flaw.TheVariants.{NoRecord, WrongCount}
use Rattle.state_building.specs.RowForms.{by_row}
use Rattle.state_building.specs.JoinedRecords.{skipped, joined, claimed, flaw_if, flaw_of, flaw_of_intercept, flaw_of_serial}

-- The state with one more row: a record or an intercept joins it, the setting or the serial is set. Next numbers wait for the end, and
-- counts are computed.
abbrev pub with_row : Row → State → State
with_row x s = by_row (record {
  next = λ k n. s;
  setting = λ cost. record s { least_router_cost = cost };
  one = λ k n r. joined k n r s;
  count = λ r a b c. s;
  intercept = λ n i. claimed n i s;
  serial = λ n. record s { serial = n };
}) x

-- Why a row cannot come next: a record or an intercept that cannot join, a setting or a serial out of its range, or a count that is not
-- what the policies give.
abbrev pub flaw_in : (Kind → ℕ) → Row → State → Option Flaw
flaw_in nexts x s = by_row (record {
  next = λ k n. None;
  setting = λ cost. flaw_if (not (is_link_cost cost)) NoRecord None;
  one = λ k n r. flaw_of nexts k n r s;
  count = λ r a b c. flaw_if (not (count r s a b == c)) WrongCount None;
  intercept = λ n i. flaw_of_intercept n i s;
  serial = λ n. flaw_of_serial n;
}) x

-- The state with all rows of a list.
abbrev pub built : List Row → State → State
built [] s = s
built (x ∷ xs) s = built xs (with_row x s)

-- Each row of a list can come after those before it.
abbrev pub AreFlawless : (Kind → ℕ) → List Row → State → Type 0
AreFlawless nexts [] s = ⊤
AreFlawless nexts (x ∷ xs) s = (flaw_in nexts x s ≡ None) × AreFlawless nexts xs (with_row x s)

-- The next number that a row has of a kind, if it has it.
abbrev pub next_said : Kind → Row → Option ℕ
next_said k x = by_row (record {
  next = λ number n. cond (number == kind_number k) (Some n) None;
  setting = λ cost. None;
  one = λ j n r. None;
  count = λ r a b c. None;
  intercept = λ n i. None;
  serial = λ n. None;
}) x

-- The next number that some rows have of a kind, 1 where they have none.
abbrev pub next_in : List Row → Kind → ℕ
next_in [] k = 1
next_in (x ∷ xs) k = unwrap_or (next_said k x) (next_in xs k)

-- The state with the next numbers of some kinds.
abbrev pub with_nexts_of : List Kind → (Kind → ℕ) → State → State
with_nexts_of [] nexts s = s
with_nexts_of (k ∷ ks) nexts s = with_nexts_of ks nexts (skipped k (nexts k) s)

-- The state with the next numbers of all kinds.
abbrev pub with_nexts : (Kind → ℕ) → State → State
with_nexts nexts s = with_nexts_of kinds nexts s

-- The state that rows give: all records and intercepts, the setting and the serial, and then the next numbers.
abbrev pub state_in : List Row → State
state_in rows = with_nexts (next_in rows) (built rows start)

-- The count that a row has of a pair, if it has it.
abbrev pub count_said : Relation → ℕ → ℕ → Row → Option ℕ
count_said r a b x = by_row (record {
  next = λ k n. None;
  setting = λ cost. None;
  one = λ k n q. None;
  count = λ q left right c. cond (same_relation r q) (cond (left == a) (cond (right == b) (Some c) None) None) None;
  intercept = λ n i. None;
  serial = λ n. None;
}) x

-- The count that some rows have of a pair, 0 where they have none.
abbrev pub count_in : List Row → Relation → ℕ → ℕ → ℕ
count_in [] r a b = 0
count_in (x ∷ xs) r a b = unwrap_or (count_said r a b x) (count_in xs r a b)

-- Some rows have every count of a state.
abbrev pub HaveCounts : List Row → State → Type 0
HaveCounts rows s = (r : Relation) (a b : ℕ) → count_in rows r a b ≡ count r s a b
