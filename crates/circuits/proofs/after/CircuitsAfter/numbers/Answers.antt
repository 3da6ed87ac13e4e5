use Rattle.std.proofs.Common.{◌≡◌, IfOk, ◌∙◌, ap, ap₂, sym, subst, rules}
use Rattle.std.specs.Option.{option_map}
use Rattle.ctrl_model.specs.Numbered.{Table, numbers, Between}
use Rattle.ctrl_model.specs.State.{Circuit}
use Rattle.record_tables.specs.AfterChange.{without_numbers}
use Rattle.record_tables.specs.Turns.{turned, turned_table, left_of}
use Rattle.record_tables.proofs.TurnLaws.{numbers-left, numbers-turned, ordered-left, ordered-turned}
use Rattle.circuits.specs.ChangedCircuits.{turn_of}
use Rattle.circuits.specs.CircuitChanges.{circuits_after}
use Rattle.circuits.specs.CircuitTables.{CircuitTables}
use Rattle.circuits.specs.MovedCircuits.{moved_table}
use Rattle.circuits.proofs.ChangeLaws.{circuits_turned}
use Rattle.circuits.proofs.MoveLaws.{numbers-moved, ordered-moved}
use Rattle.circuits.proofs.after.CircuitsAfter.numbers.Goals as goal

pub returns-clause-all : goal.returns-clause-all
returns-clause-all c =
    let i = c.self.inside in
    let change = option_map (λ d. d.now) i.change in
    let table = i.circuits.now.circuits in
    let changed : c.in_ok-changed.changed ≡ turned (turn_of change) table.next (numbers table.rows) =
    c.in_ok-changed.ensures ∙ ap₂ (λ t n. turned t n c.in_ok-numbers.numbers) c.turn.ensures c.next.ensures.next
    ∙ ap (turned (turn_of change) table.next) c.in_ok-numbers.ensures.all in
    subst (λ ms. IfOk c.left_of.result (λ ns. ns ≡ ms))
    (ap (left_of i.gone.now) (changed ∙ numbers-turned (λ r. r) (turn_of change) table) ∙ numbers-left i.gone.now (turned_table (λ r. r) (turn_of change) table)
    ∙ ap (λ (t : Table Circuit). numbers (without_numbers i.gone.now t).rows) (circuits_turned change i.circuits.now)
    ∙ sym (numbers-moved i.moves.now (circuits_after change i.gone.now i.circuits.now).circuits)
    ∙ ap (λ (f : CircuitTables). numbers f.circuits.rows) c.self.view_is)
    c.left_of.ensures

pub returns-clause-ordered : goal.returns-clause-ordered
returns-clause-ordered c =
    let i = c.self.inside in
    let change = option_map (λ d. d.now) i.change in
    let g = turned_table (λ r. r) (turn_of change) i.circuits.now.circuits in
    let keeps = c.in_ok-numbers.ensures.keeps in
    let here : Between 1 c.args.self.now.circuits.next c.args.self.now.circuits.rows =
    subst (λ (f : CircuitTables). Between 1 f.circuits.next f.circuits.rows) c.self.view_is
    (subst (λ (t : Table Circuit). Between 1 t.next (moved_table i.moves.now (without_numbers i.gone.now t)).rows) (circuits_turned change i.circuits.now)
    (ordered-moved i.moves.now (without_numbers i.gone.now g) g.next (ordered-left i.gone.now g 1 g.next (ordered-turned (λ r. r) (turn_of change) i.circuits.now.circuits keeps.first keeps.ordered)))) in
    search (rules, here)
