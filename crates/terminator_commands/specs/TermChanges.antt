-- What a command on terminators changes, in the terminators themselves and in a state (docs/PROMISES.md, "Commands on
-- terminators").
use Rattle.std.specs.Prelude.{◌≡◌, true, []}
use Rattle.ctrl_model.specs.ValueForms.{is_cost}
use Rattle.ctrl_model.specs.Numbered.{is_present}
use Rattle.ctrl_model.specs.State.{State}
use Rattle.entity_store.specs.EntityTables.{Tables}
pub use Rattle.terminators.specs.TermChanges.{after_term_change}
use Rattle.terminators.specs.TermTables.{TermTables}
use Rattle.terminators.specs.TermRules.{has_term_room}
use Rattle.terminators.specs.declared.changes.TermChange.{TermChange}
use Rattle.terminators.specs.declared.changes.TermChange.TheVariants as change

-- The terminators of a state. What is open at them is no part of the commands on them.
abbrev pub terms_of : State → TermTables
terms_of s = record { terminators = s.terminators; loads = [] }

-- A state with these terminators in place of its own.
abbrev pub with_terms : TermTables → State → State
with_terms k s = record s { terminators = k.terminators }

-- A state with the entities of these tables and with these terminators in place of its own. Commands on terminators are judged
-- by these and by the counts of Bind alone, so what is said of all such states is said of the one whose parts they are.
abbrev pub over : Tables → TermTables → State → State
over t k s = with_terms k (record s { identities = t.identities; services = t.services; routers = t.routers })

-- What a change needs of the terminators: that there is room for one that is added, that one that is changed or removed is there,
-- and that each cost is in its range.
abbrev pub CanChangeTerms : TermChange → TermTables → Type 0
CanChangeTerms (change.Add term) k = (has_term_room k ≡ true) × (is_cost term.cost ≡ true)
CanChangeTerms (change.Set n cost precedence) k = (is_present k.terminators.rows n.0 ≡ true) × (is_cost cost ≡ true)
CanChangeTerms (change.Remove n) k = is_present k.terminators.rows n.0 ≡ true

-- The state after a change of its terminators, not yet settled.
abbrev pub offered : TermChange → State → State
offered c s = with_terms (after_term_change c (terms_of s)) s

-- What a change needs of a state.
abbrev pub CanOffer : TermChange → State → Type 0
CanOffer c s = CanChangeTerms c (terms_of s)
