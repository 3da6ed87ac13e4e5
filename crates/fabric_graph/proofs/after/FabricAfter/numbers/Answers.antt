use Rattle.std.proofs.Common.{◌≡◌, IfOk, ◌∙◌, ap, ap₂, subst, rules}
use Rattle.std.specs.Option.{option_map}
use Rattle.ctrl_model.specs.Numbered.{Table, numbers, Between}
use Rattle.ctrl_model.specs.State.{Link}
use Rattle.record_tables.specs.AfterChange.{without_numbers}
use Rattle.record_tables.specs.Turns.{turned, turned_table, left_of}
use Rattle.record_tables.proofs.TurnLaws.{numbers-left, numbers-turned, ordered-left, ordered-turned}
use Rattle.fabric_graph.specs.ChangedLinks.{turn_of, set_by}
use Rattle.fabric_graph.specs.FabricTables.{FabricSeen}
use Rattle.fabric_graph.proofs.ChangeLaws.{links_turned}
use Rattle.fabric_graph.proofs.after.FabricAfter.numbers.Goals as goal

pub returns-clause-all : goal.returns-clause-all
returns-clause-all c =
    let i = c.self.inside in
    let change = option_map (λ d. d.now) i.change in
    let table = i.fabric.now.links in
    let changed : c.in_ok-changed.changed ≡ turned (turn_of change) table.next (numbers table.rows) =
    c.in_ok-changed.ensures ∙ ap₂ (λ t n. turned t n c.in_ok-numbers.numbers) c.turn.ensures c.next.ensures.next
    ∙ ap (turned (turn_of change) table.next) c.in_ok-numbers.ensures.all in
    subst (λ ms. IfOk c.left_of.result (λ ns. ns ≡ ms))
    (ap (left_of i.gone.now) (changed ∙ numbers-turned (set_by change) (turn_of change) table) ∙ numbers-left i.gone.now (turned_table (set_by change) (turn_of change) table)
    ∙ ap (λ (t : Table Link). numbers (without_numbers i.gone.now t).rows) (links_turned change i.fabric.now)
    ∙ ap (λ (f : FabricSeen). numbers f.links.rows) c.self.view_is)
    c.left_of.ensures

pub returns-clause-ordered : goal.returns-clause-ordered
returns-clause-ordered c =
    let i = c.self.inside in
    let change = option_map (λ d. d.now) i.change in
    let g = turned_table (set_by change) (turn_of change) i.fabric.now.links in
    let keeps = c.in_ok-numbers.ensures.numbers in
    let here : Between 1 c.args.self.now.links.next c.args.self.now.links.rows =
    subst (λ (f : FabricSeen). Between 1 f.links.next f.links.rows) c.self.view_is
    (subst (λ (t : Table Link). Between 1 t.next (without_numbers i.gone.now t).rows) (links_turned change i.fabric.now)
    (ordered-left i.gone.now g 1 g.next (ordered-turned (set_by change) (turn_of change) i.fabric.now.links keeps.first keeps.ordered))) in
    search (rules, here)
