-- What stands before a change, and what settles after it by its numbers (docs/PROMISES.md, "Commands on circuits").
use Rattle.std.specs.Prelude.{◌≡◌, ℕ, Bool, cond, List, [], ◌∷◌, None, Some}
use Rattle.ctrl_model.specs.Numbered.{at}
use Rattle.ctrl_model.specs.Settling.{link_stays, terminator_stays}
use Rattle.ctrl_model.specs.State.{State, Router, start}
use Rattle.entity_store.specs.declared.changes.EntityChange.{EntityChange}
use Rattle.entity_store.specs.declared.changes.EntityChange.TheVariants as entity
use Rattle.fabric_graph.specs.declared.changes.LinkChange.{LinkChange}
use Rattle.fabric_graph.specs.declared.changes.LinkChange.TheVariants as link
use Rattle.terminators.specs.declared.changes.TermChange.{TermChange}
use Rattle.terminators.specs.declared.changes.TermChange.TheVariants as term
use Rattle.fallen_records.specs.declared.falling.Standing.{Standing}
use Rattle.fallen_records.specs.declared.falling.Fallen.{Fallen}
use Rattle.fallen_records.specs.FallenRecords.{links_of, ends_on, circuits_on, marked_circuits}

-- The state of what stands. Of policies it has none: they settle nothing.
abbrev pub state_of : Standing → State
state_of p = record start {
  identities = p.entities.now.identities;
  services = p.entities.now.services;
  routers = p.entities.now.routers;
  links = p.fabric.now.links;
  terminators = p.terminators.now.terminators;
  circuits = p.circuits.now.circuits;
  least_router_cost = p.fabric.now.least;
}

-- What settles is named by these numbers.
pub record Names (links terminators circuits : List ℕ) (g : Fallen) : Type 0 where
  pub links_are : g.links ≡ links
  pub terminators_are : g.terminators ≡ terminators
  pub circuits_are : g.circuits ≡ circuits

-- A number, where its record does not stay.
abbrev pub number_unless : Bool → ℕ → List ℕ
number_unless stays n = cond stays [] (n ∷ [])

-- Whether a router may be passed through, and whether it is connected.
abbrev pub marks_of : Router → Bool × Bool
marks_of r = (r.through, r.connected)

-- What settles after a change of entities: with an entity what needs it, and with the marks of a router the circuits that need them.
abbrev pub NamesByEntity : EntityChange → State → Fallen → Type 0
NamesByEntity (entity.DescribeRouter n attributes cost through connected) s g = Names [] [] (marked_circuits (at s.routers.rows n) n through connected s) g
NamesByEntity (entity.Mark n cost through connected) s g = Names [] [] (marked_circuits (at s.routers.rows n) n through connected s) g
NamesByEntity (entity.Remove k n name) s g = Names (links_of k n s) (ends_on k n s) (circuits_on (Some (k, n)) (links_of k n s) (ends_on k n s) s) g
NamesByEntity _ s g = Names [] [] [] g

-- What settles after a change of links: a new one that does not stay, and with one that is down or gone its circuits.
abbrev pub NamesByLink : LinkChange → State → Fallen → Type 0
NamesByLink (link.Add l) s g = Names (number_unless (link_stays s (0, l)) s.links.next) [] [] g
NamesByLink (link.Set n cost latency_a latency_b up) s g = Names [] [] (cond up [] (circuits_on None (n.0 ∷ []) [] s)) g
NamesByLink (link.Remove n) s g = Names [] [] (circuits_on None (n.0 ∷ []) [] s) g
NamesByLink (link.SetLeast cost) s g = Names [] [] [] g

-- What settles after a change of terminators: a new one that does not stay, and with one that is gone its circuits.
abbrev pub NamesByTerm : TermChange → State → Fallen → Type 0
NamesByTerm (term.Add e) s g = Names [] (number_unless (terminator_stays s (0, e)) s.terminators.next) [] g
NamesByTerm (term.Set n cost precedence) s g = Names [] [] [] g
NamesByTerm (term.Remove n) s g = Names [] [] (circuits_on None [] (n.0 ∷ []) s) g
