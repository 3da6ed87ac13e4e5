-- What does not stay in a state as it is, and what does not by what is gone (docs/RULES.md, "Settling").
use Rattle.std.specs.Prelude.{◌≡◌, ℕ, Bool, not, ◌&&◌, cond, List, [], filter, None, Some}
use Rattle.std.specs.declared.option.Option.{Option}
use Rattle.ctrl_model.specs.declared.kinds.Kind.{Kind}
use Rattle.ctrl_model.specs.declared.kinds.Kind.TheVariants as kind
use Rattle.ctrl_model.specs.Numbered.{numbers}
use Rattle.ctrl_model.specs.Settling.{link_stays, terminator_stays, stays_in, settle_links, settle_terminators}
use Rattle.ctrl_model.specs.State.{State, Router}
use Rattle.circuits.specs.LostCircuits.{needs, passes_through}
use Rattle.fabric_graph.specs.LinkEnds.{is_at}
use Rattle.terminators.specs.NamedTerms.{stands_on}

-- Settling takes these links and terminators out of a state, and these circuits do not stay as they are.
pub record Falls (t : State) (links terminators circuits : List ℕ) : Type 0 where
  pub links_are : links ≡ numbers (filter (λ row. not (link_stays t row)) t.links.rows)
  pub terms_are : terminators ≡ numbers (filter (λ row. not (terminator_stays (settle_links t) row)) t.terminators.rows)
  pub circuits_are : circuits ≡ numbers (filter (λ row. not (stays_in (settle_terminators (settle_links t)) row)) t.circuits.rows)

-- The links at a router.
abbrev pub links_at : ℕ → State → List ℕ
links_at n s = numbers (filter (λ x. is_at n x.1) s.links.rows)

-- The links at an entity, if it is a router.
abbrev pub links_of : Kind → ℕ → State → List ℕ
links_of kind.Router n s = links_at n s
links_of k n s = []

-- The terminators that stand on an entity.
abbrev pub ends_on : Kind → ℕ → State → List ℕ
ends_on k n s = numbers (filter (λ x. stands_on k n x.1) s.terminators.rows)

-- The circuits that need an entity, one of some links or one of some terminators.
abbrev pub circuits_on : Option (Kind × ℕ) → List ℕ → List ℕ → State → List ℕ
circuits_on entity links terminators s = numbers (filter (λ x. needs entity links terminators x.1) s.circuits.rows)

-- The circuits that pass through a router.
abbrev pub circuits_through : ℕ → State → List ℕ
circuits_through n s = numbers (filter (λ x. passes_through n (links_at n s) (ends_on kind.Router n s) x.1) s.circuits.rows)

-- The circuits that do not stay where a router of a number, which has these marks if it is there, gets others: those that need it or a link at it
-- where it is not connected any more, and else those that pass through it where it may not be passed through any more.
abbrev pub marked_circuits : Option Router → ℕ → Bool → Bool → State → List ℕ
marked_circuits None n through connected s = []
marked_circuits (Some r) n through connected s =
    cond (r.connected && not connected) (circuits_on (Some (kind.Router, n)) (links_at n s) [] s)
    (cond (r.through && not through) (circuits_through n s) [])
