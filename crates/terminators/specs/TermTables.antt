-- What a store of terminators holds, as contracts see it: the table of terminators, and how many circuits are open at each
-- (docs/RULES.md, "Records and numbers", "Terminators").
use Rattle.std.specs.Prelude.{◌≡◌, ℕ, ◌+◌, ◌≤◌, nat_le, true, false, List, [], length, map, unwrap_or}
use Rattle.std.specs.Option.{option_map_or}
use Rattle.ctrl_model.specs.declared.kinds.Kind.TheVariants as kind
use Rattle.ctrl_model.specs.declared.kinds.Precedence.{Precedence}
use Rattle.ctrl_model.specs.ValueForms.{is_cost}
use Rattle.ctrl_model.specs.Limits.{limit, last_next}
use Rattle.ctrl_model.specs.Numbered.{Table, at, is_present, no_rows, with_last, edit_at, without, with_new, with_edit, with_removed, Between}
use Rattle.ctrl_model.specs.State.{Terminator}
use Rattle.ctrl_model.specs.ValidState.{each_passes}
use Rattle.terminators.specs.declared.kept.KeptTerm.{KeptTerm}

-- The table of terminators, and under their numbers how many circuits are open at each.
pub record TermTables : Type 0 where
  pub terminators : Table Terminator
  pub loads : List (ℕ × ℕ)

-- A store without terminators. The first gets the number 1.
abbrev pub no_terminators : TermTables
no_terminators = record { terminators = no_rows; loads = [] }

-- The table with one more terminator, under the next number. No circuit is open there.
abbrev pub with_term : Terminator → TermTables → TermTables
with_term e t = record { terminators = with_new e t.terminators; loads = with_last t.loads t.terminators.next 0 }

-- The table, of which one terminator has this cost and this precedence.
abbrev pub with_set : ℕ → ℕ → Precedence → TermTables → TermTables
with_set n cost precedence t = record t { terminators = with_edit n (λ e. record e { cost = cost; precedence = precedence }) t.terminators }

-- The table without one terminator.
abbrev pub without_term : ℕ → TermTables → TermTables
without_term n t = record { terminators = with_removed n t.terminators; loads = without t.loads n }

-- The table with another next number.
abbrev pub with_next : ℕ → TermTables → TermTables
with_next next t = record t { terminators = record t.terminators { next = next } }

-- The table, of which one terminator has so many open circuits.
abbrev pub with_open : ℕ → ℕ → TermTables → TermTables
with_open n count t = record t { loads = edit_at t.loads n (λ old. count) }

-- How many circuits are open at the terminator of a number; 0 where it is absent.
abbrev pub open_at : TermTables → ℕ → ℕ
open_at t n = unwrap_or (at t.loads n) 0

-- What the terminator of a number costs: its static cost, and 1 for each circuit that is open there; 0 where it is absent.
abbrev pub cost_at : TermTables → ℕ → ℕ
cost_at t n = option_map_or (λ (e : Terminator). e.cost + open_at t n) (at t.terminators.rows n) 0

-- What a store keeps: the numbers ascend from 1 below the next one, which has an end; there are no more terminators than may be;
-- each cost is in its range; no terminator has more open circuits than there may be circuits; and none is open where no terminator is.
pub record KeepsTerms (t : TermTables) : Type 0 where
  pub first : 1 ≤ t.terminators.next
  pub last : t.terminators.next ≤ last_next
  pub ordered : Between 1 t.terminators.next t.terminators.rows
  pub few : length t.terminators.rows ≤ limit kind.Terminator
  pub costs : each_passes (λ e. is_cost e.cost) t.terminators.rows ≡ true
  pub loads : (n : ℕ) → open_at t n ≤ limit kind.Circuit
  pub absent : (n : ℕ) → is_present t.terminators.rows n ≡ false → open_at t n ≡ 0

-- The tables of terminators that are kept with their open circuits.
abbrev pub tables_of : Table KeptTerm → TermTables
tables_of t = record {
  terminators = record { rows = map (λ x. (x.0, x.1.term)) t.rows; next = t.next };
  loads = map (λ x. (x.0, x.1.load)) t.rows;
}

-- What it keeps besides the order of its table.
pub record AreFit (t : Table KeptTerm) : Type 0 where
  pub few : length t.rows ≤ limit kind.Terminator
  pub costs : each_passes (λ k. is_cost k.term.cost) t.rows ≡ true
  pub loads : each_passes (λ k. nat_le k.load (limit kind.Circuit)) t.rows ≡ true
