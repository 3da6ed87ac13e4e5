-- What settling makes of a state, by its numbers (docs/RULES.md, "Settling").
use Rattle.std.specs.Prelude.{◌≡◌, ℕ, not, List, filter}
use Rattle.ctrl_model.specs.Numbered.{numbers}
use Rattle.ctrl_model.specs.Settling.{link_stays, terminator_stays, settle_links}
use Rattle.ctrl_model.specs.State.{State}
use Rattle.circuits.specs.MovedCircuits.{moves_by, ended_by}
pub use Rattle.circuit_settling.specs.OtherLinks.{before_circuits}
use Rattle.circuit_settling.specs.OtherLinks.{going_in, way_in}
use Rattle.circuit_settling.specs.declared.judging.Judged.{Judged}
use Rattle.core_stores.specs.declared.settled.Settled.{Settled}

-- The circuits that do not stay as they are, judged: those end that cannot go on, and the others are moved to their other links.
pub record AreJudged (s : State) (going : List ℕ) (j : Judged) : Type 0 where
  pub going_are : going ≡ going_in s
  pub ended_are : j.ended ≡ ended_by (way_in s) going
  pub moves_are : j.moves ≡ moves_by (way_in s) going

-- What settling makes of a state is named: the links and terminators that go, the circuits that do not stay as they are, and what becomes
-- of each of these.
pub record AreSettled (s : State) (g : Settled) : Type 0 where
  pub links_are : g.links ≡ numbers (filter (λ row. not (link_stays s row)) s.links.rows)
  pub terms_are : g.terminators ≡ numbers (filter (λ row. not (terminator_stays (settle_links s) row)) s.terminators.rows)
  pub judged : AreJudged s g.going (record { ended = g.ended; moves = g.moves })
