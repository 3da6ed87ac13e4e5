-- That the loads of terminators are kept: at each number as many circuits are open as there are circuits to it (docs/RULES.md,
-- "Terminators").
use Rattle.std.specs.Prelude.{◌≡◌, ◌≢◌, ℕ, ◌+◌, ◌≤◌, ◌==◌, false, ◌&&◌, cond, ⊤, List, length}
use Rattle.ctrl_model.specs.declared.kinds.Kind.TheVariants as kind
use Rattle.ctrl_model.specs.Limits.{limit}
use Rattle.ctrl_model.specs.Matches.{is_nothing}
use Rattle.ctrl_model.specs.Networks.{open_circuits}
use Rattle.ctrl_model.specs.Numbered.{is_present}
use Rattle.ctrl_model.specs.State.{State}
use Rattle.ctrl_model.specs.Walks.{is_among}
use Rattle.circuits.specs.declared.changes.CircuitChange.TheVariants as circuit
use Rattle.terminators.specs.TermTables.{TermTables, open_at}
use Rattle.core_stores.specs.declared.changes.Change.{Change}
use Rattle.core_stores.specs.declared.changes.Change.TheVariants as change
use Rattle.core_stores.specs.declared.loads.Loads.{Loads}
use Rattle.core_stores.specs.declared.loads.Loads.TheVariants as loads
use Rattle.core_stores.specs.declared.settled.Settled.{Settled}
use Rattle.core_stores.specs.declared.stores.Stores.{Stores}
use Rattle.core_stores.specs.StoredState.{state_of}

-- The load of each terminator is kept: the circuits that are open there. Where no terminator is none is open.
abbrev pub CountsOpen : Stores → Type 0
CountsOpen st = (n : ℕ) → open_at st.terminators n ≡ open_circuits (state_of st) n

-- Only loads change, and all else is as it was.
pub record ChangesLoads (old new : Stores) : Type 0 where
  pub same : state_of new ≡ state_of old
  pub entities : new.entities ≡ old.entities
  pub policies : new.policies ≡ old.policies
  pub counts : new.grants ≡ old.grants

-- The load of each present terminator is counted, and where none is there is none.
pub record CountsAnew (old new : Stores) : Type 0 where
  pub changes : ChangesLoads old new
  pub counted : (n : ℕ) → open_at new.terminators n ≡ cond (is_present old.terminators.terminators.rows n) (open_circuits (state_of old) n) 0

-- The load of one terminator is one higher; those of the others stay.
pub record CountsMore (n : ℕ) (old new : Stores) : Type 0 where
  pub changes : ChangesLoads old new
  pub more : open_at new.terminators n ≡ open_at old.terminators n + 1
  pub others : (m : ℕ) → m ≢ n → open_at new.terminators m ≡ open_at old.terminators m

-- Of the terminators of some numbers the loads are set, and those of the others stay.
pub record SetsEach (loads : ℕ → ℕ) (ns : List ℕ) (old new : TermTables) : Type 0 where
  pub terminators : new.terminators ≡ old.terminators
  pub each : (n : ℕ) → open_at new n ≡ cond (is_among n ns) (loads n) (open_at old n)

-- Where loads change by a change where nothing settles.
abbrev pub loads_by : Change → Loads
loads_by (change.Entity c) = loads.Same
loads_by (change.Policy c) = loads.Same
loads_by (change.Link c) = loads.Same
loads_by (change.Terminator c) = loads.Same
loads_by (change.Intercept c) = loads.Same
loads_by (change.Circuit (circuit.Add c)) = loads.More (record { 0 = c.terminator })
loads_by (change.Circuit (circuit.Remove n)) = loads.Any

-- The same with what settles: anywhere, if a terminator goes or a circuit does not stay as it is.
abbrev pub loads_after : Change → Settled → Loads
loads_after c g = cond (is_nothing g.terminators && is_nothing g.going) (loads_by c) loads.Any

-- Each circuit ends at a present terminator, and there are no more circuits than may be.
pub record EndThere (s : State) : Type 0 where
  pub absent : (n : ℕ) → is_present s.terminators.rows n ≡ false → open_circuits s n ≡ 0
  pub few : length s.circuits.rows ≤ limit kind.Circuit

-- The loads that are kept lack this alone of the circuits that are open: nothing, or one at a terminator. Or they may be any.
abbrev pub CountsBut : Loads → Stores → Type 0
CountsBut loads.Same st = CountsOpen st
CountsBut (loads.More n) st = (m : ℕ) → open_at st.terminators m + cond (n.0 == m) 1 0 ≡ open_circuits (state_of st) m
CountsBut loads.Any st = ⊤
