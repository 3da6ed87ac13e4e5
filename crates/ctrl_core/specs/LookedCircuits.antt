-- When it is enough to look at some circuits after a change (docs/RULES.md, "Settling"). Only private functions and proofs of this crate cite this file.
use Rattle.std.specs.Prelude.{◌≡◌, ℕ, true, false, ⊤, List, filter, None}
use Rattle.ctrl_model.specs.Membership.{Among}
use Rattle.ctrl_model.specs.Numbered.{numbers}
use Rattle.ctrl_model.specs.Settling.{granted_in, stays_in}
use Rattle.ctrl_model.specs.State.{State, Circuit}
use Rattle.circuit_settling.specs.OtherLinks.{before_circuits}
use Rattle.circuit_settling.specs.declared.looking.Look.{Look}
use Rattle.circuit_settling.specs.declared.looking.Look.TheVariants.{Paths, These, All}
use Rattle.circuit_settling.specs.EmptiedPairs.{no_pairs}
use Rattle.circuit_settling.specs.LookedCircuits.{is_looked_at, needs}
use Rattle.core_stores.specs.declared.changes.Change.{Change}
use Rattle.circuit_settling.specs.declared.emptying.Pairs.{Pairs}
use Rattle.core_stores.specs.declared.stores.Stores.{Stores}
use Rattle.core_stores.specs.ChangeParts.{circuit_part}
use Rattle.core_stores.specs.StoredState.{state_of}
use Rattle.ctrl_core.specs.Changes.{after_change}

-- What granted each circuit of a state that needs none of some pairs stands in another where its path does, if it stood.
abbrev pub StillGranted : Pairs → State → State → Type 0
StillGranted g s t =
    (x : ℕ × Circuit) → Among x s.circuits.rows → needs g s.terminators.rows x.1 ≡ false → stays_in (before_circuits t) x ≡ true → granted_in t x ≡ true

-- Those that are looked at after a change are enough: what granted the others stands where their path does. A circuit that comes or goes
-- ends no grant.
abbrev pub LooksAt : Change → Stores → List ℕ → Look → Type 0
LooksAt c st pathless Paths = StillGranted no_pairs (state_of st) (after_change c (state_of st))
LooksAt c st pathless (These ns) =
    (g : Pairs) × (circuit_part c ≡ None) × (ns ≡ filter (is_looked_at st.circuits.circuits.rows st.terminators.terminators.rows g pathless) (numbers st.circuits.circuits.rows)) × StillGranted g (state_of st) (after_change c (state_of st))
LooksAt c st pathless All = ⊤
