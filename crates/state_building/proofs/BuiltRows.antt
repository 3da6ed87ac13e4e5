-- States that rows without flaws build, and their next numbers.
use Rattle.std.proofs.Common.{◌≡◌, ℕ, ◌+◌, ◌<◌, ◌≤◌, true, List, [], ◌∷◌, refl, arith}
use Rattle.ctrl_model.specs.declared.kinds.Kind.{Kind}
use Rattle.ctrl_model.specs.declared.kinds.Kind.TheVariants as kind
use Rattle.ctrl_model.specs.Limits.{last_next}
use Rattle.ctrl_model.specs.Numbered.{Table, with_last, with_new}
use Rattle.ctrl_model.specs.State.{State, start}
use Rattle.ctrl_model.specs.Tables.{Record, table}
use Rattle.ctrl_model.specs.ValueForms.{is_link_cost}
use Rattle.ctrl_model.specs.ValidState.{ValidState, ValidTable}
use Rattle.ctrl_model.proofs.TableLaws.{valid-none}
use Rattle.ctrl_model.specs.declared.intercepts.Intercept.{Intercept}
use Rattle.row_codec.specs.declared.rows.Row.{Row}
use Rattle.model_laws.proofs.KindLaws.{with_table-holds}
use Rattle.state_building.specs.JoinedRecords.{skipped, joined}
use Rattle.state_building.specs.BuiltStates.{built, AreFlawless, with_nexts_of}
use Rattle.state_building.proofs.SkippedStates.{renumbered, skipped-valid}
use Rattle.state_building.proofs.JoinedStates.{IsFlawless, IsFlawless-from}
use Rattle.state_building.proofs.ComingRows.{row-holds, row-valid}

-- ---- the state at the start

pub start-valid : ValidState start
start-valid = record { kinds = kinds; setting = refl; attributes = refl; repaired = refl; ordered = tt; intercepts = refl; counted = omega arith }
  where
    kinds : (k : Kind) → ValidTable k start (table k start)
    kinds kind.Link = valid-none kind.Link start
    kinds k = valid-none k start

-- ---- the rows that build

pub built-valid : (nexts : Kind → ℕ) → ((k : Kind) → nexts k ≤ last_next) → (rows : List Row) (s : State) → ValidState s → AreFlawless nexts rows s → ValidState (built rows s)
built-valid nexts last [] s v f = v
built-valid nexts last (x ∷ rows) s v f = built-valid nexts last rows _ (row-valid nexts x s v last f.0) f.1

-- the next number of each kind is at most the one that it is to have in the end, where that is none below 1
abbrev pub AreBelow : (Kind → ℕ) → State → Type 0
AreBelow nexts s = (k : Kind) → 1 ≤ nexts k → (table k s).next ≤ nexts k

pub start-below : (nexts : Kind → ℕ) → AreBelow nexts start
start-below nexts kind.Attribute h = h
start-below nexts k h = h

joined-below : (nexts : Kind → ℕ) (k : Kind) (n : ℕ) (r : Record k) (s : State) → AreBelow nexts s → IsFlawless nexts k n r s → AreBelow nexts (joined k n r s)
joined-below nexts k n r s h f =
    with_table-holds Below (skipped k n s) k (with_new r (table k (skipped k n s))) (λ one. one) (raised k n s f.above f.below)
    (with_table-holds Below s k (renumbered k n s) (λ one. one) (λ one. omega (arith, f.below)) h)
  where
    Below : (j : Kind) → Table (Record j) → Type 0
    Below j t = 1 ≤ nexts j → t.next ≤ nexts j

    raised : (k : Kind) (n : ℕ) (s : State) → (table k s).next ≤ n → n < nexts k → 1 ≤ nexts k → (table k (skipped k n s)).next + 1 ≤ nexts k
    raised kind.Attribute n s above below one = omega (arith, above, below)
    raised k n s above below one = omega (arith, below)

pub built-below : (nexts : Kind → ℕ) (rows : List Row) (s : State) → AreBelow nexts s → AreFlawless nexts rows s → AreBelow nexts (built rows s)
built-below nexts [] s h f = h
built-below nexts (x ∷ rows) s h f =
    built-below nexts rows _ (row-holds (AreBelow nexts) nexts s h (λ k n r e. joined-below nexts k n r s h (IsFlawless-from nexts k n r s e)) (set-below s h) (λ n i after fits there. claims-below s h (with_last s.intercepts n i) s.serial) (λ n fits. claims-below s h s.intercepts n) x f.0) f.1
  where
    set-below : (s : State) → AreBelow nexts s → (cost : ℕ) → is_link_cost cost ≡ true → AreBelow nexts (record s { least_router_cost = cost })
    set-below s h cost fits kind.Attribute = h kind.Attribute
    set-below s h cost fits k = h k

    claims-below : (s : State) → AreBelow nexts s → (is : List (ℕ × Intercept)) (n : ℕ) → AreBelow nexts (record s { intercepts = is; serial = n })
    claims-below s h is n kind.Attribute = h kind.Attribute
    claims-below s h is n k = h k

-- ---- the next numbers at the end

pub with_nexts-valid : (nexts : Kind → ℕ) → ((k : Kind) → nexts k ≤ last_next) → (ks : List Kind) (s : State) → ValidState s → ((k : Kind) → (table k s).next ≤ nexts k)
    → ValidState (with_nexts_of ks nexts s)
with_nexts-valid nexts last [] s v h = v
with_nexts-valid nexts last (k ∷ ks) s v h =
    with_nexts-valid nexts last ks (skipped k (nexts k) s) (skipped-valid k (nexts k) s v (h k) (last k))
    (with_table-holds (λ j t. t.next ≤ nexts j) s k (renumbered k (nexts k) s) (h kind.Attribute) (omega arith) h)
