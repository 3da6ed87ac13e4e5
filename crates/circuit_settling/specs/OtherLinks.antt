-- Over which links the circuits go on whose own links fail (docs/RULES.md, "Settling").
use Rattle.std.specs.Prelude.{ℕ, Bool, true, false, not, ◌&&◌, cond, List, [], ◌∷◌, filter, None, option_and_then}
use Rattle.std.specs.declared.option.Option.{Option}
use Rattle.std.specs.Option.{option_map_or}
use Rattle.ctrl_model.specs.Networks.{Network, network_of, least_path}
use Rattle.ctrl_model.specs.Numbered.{at, numbers}
use Rattle.ctrl_model.specs.Settling.{granted_in, stays_in, settle_links, settle_terminators}
use Rattle.ctrl_model.specs.State.{State, Terminator, Circuit}
use Rattle.ctrl_model.specs.Walks.{is_among}
use Rattle.circuit_settling.specs.declared.granting.GrantsAfter.{GrantsAfter}
use Rattle.circuit_settling.specs.declared.staying.Present.{Present}
use Rattle.circuit_settling.specs.PresentRecords.{network_in, granted_beside, stays_beside}

-- The links that a circuit goes on over where its own are a path no more: those of the least path from its ingress to its terminator's
-- router, if there is one and its identity, its service and its terminator are present.
abbrev pub other_links : Network → List ℕ → List ℕ → Circuit → Option (List ℕ)
other_links w identities services c =
    cond (is_among c.identity identities && is_among c.service services)
    (option_and_then (λ (e : Terminator). least_path w c.ingress e.router) (at w.terminators c.terminator)) None

-- The same beside what is present.
abbrev pub other_links_beside : Present → Circuit → Option (List ℕ)
other_links_beside p c = other_links (network_in p) p.identities.now p.services.now c

-- ---- with what granted them

-- The links that a circuit goes on over where it does not stay as it is: what granted it has to stand.
abbrev pub way_beside : Present → GrantsAfter → Circuit → Option (List ℕ)
way_beside p g c = cond (granted_beside p g c) (other_links_beside p c) None

-- The same of the circuit at a number of some, if one is there.
abbrev pub way_at : Present → GrantsAfter → List (ℕ × Circuit) → ℕ → Option (List ℕ)
way_at p g rows n = option_and_then (way_beside p g) (at rows n)

-- Whether what granted the circuit at a number stands beside what is present, if one is there.
abbrev pub granted_at : Present → GrantsAfter → List (ℕ × Circuit) → ℕ → Bool
granted_at p g rows n = option_map_or (granted_beside p g) (at rows n) true

-- Whether a circuit stays as it is beside what is present: what granted it stands, and so does its path.
abbrev pub keeps_beside : Present → GrantsAfter → Circuit → Bool
keeps_beside p g c = granted_beside p g c && stays_beside p c

-- Whether the circuit at a number stays as it is beside what is present, if one is there.
abbrev pub keeps_at : Present → GrantsAfter → List (ℕ × Circuit) → ℕ → Bool
keeps_at p g rows n = option_map_or (keeps_beside p g) (at rows n) true

-- The numbers of those of some circuits that do not stay as they are, beside what is present and what is granted.
abbrev pub going_beside : Present → GrantsAfter → List (ℕ × Circuit) → List ℕ
going_beside p g rows = numbers (filter (λ row. not (keeps_beside p g row.1)) rows)

-- The numbers of the circuits that do not stay as they are after a change, of all and of those whose path the change takes: these alone,
-- where what granted each circuit stood before and no count falls; those whose grant is gone, where no path is taken; and else those
-- that do not stay.
abbrev pub going_after : Bool → List ℕ → List ℕ → (ℕ → Bool) → (ℕ → Bool) → List ℕ
going_after true pathless all granted keeps = pathless
going_after false [] all granted keeps = filter (λ n. not (granted n)) all
going_after false (x ∷ xs) all granted keeps = filter (λ n. not (keeps n)) all

-- The state in which the circuits of a state are judged: its links and terminators are settled.
abbrev pub before_circuits : State → State
before_circuits s = settle_terminators (settle_links s)

-- Whether a circuit of a state stays as it is once the state is settled.
abbrev pub keeps_in : State → ℕ × Circuit → Bool
keeps_in s row = granted_in s row && stays_in (before_circuits s) row

-- The numbers of the circuits of a state that do not stay as they are once it is settled.
abbrev pub going_in : State → List ℕ
going_in s = numbers (filter (λ row. not (keeps_in s row)) s.circuits.rows)

-- The links that the circuit at a number of a state goes on over where it does not stay as it is once the state is settled, if one is
-- there and goes on.
abbrev pub way_in : State → ℕ → Option (List ℕ)
way_in s n =
    option_and_then (λ c. cond (granted_in s (n, c)) (other_links (network_of (before_circuits s)) (numbers s.identities.rows) (numbers s.services.rows) c) None)
    (at s.circuits.rows n)
