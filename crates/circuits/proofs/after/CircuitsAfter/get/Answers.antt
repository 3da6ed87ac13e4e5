use Rattle.std.proofs.Common.{Some, sym, ◌∙◌, ap}
use Rattle.std.specs.Option.{option_map}
use Rattle.ctrl_model.specs.Numbered.{at}
use Rattle.circuits.specs.CircuitTables.{CircuitTables}
use Rattle.circuits.proofs.MoveLaws.{at-looked_up}
use Rattle.circuits.proofs.after.CircuitsAfter.get.Goals as goal

pub returns-in_err-circuit : goal.returns-in_err-circuit
returns-in_err-circuit c =
    let i = c.self.inside in
    c.from_residual.ensures
    ∙ at-looked_up i.moves.now (option_map (λ d. d.now) i.change) i.gone.now i.circuits.now c.args.no.0 _
    (sym c.in_err-circuit.was ∙ c.record_after.ensures i.circuits.now.circuits (sym c.next-next.ensures.next) c.next-next.ensures.keeps.ordered c.seen-present.ensures)
    ∙ ap (λ (k : CircuitTables). at k.circuits.rows c.args.no.0) c.self.view_is

pub returns : goal.returns
returns c =
    let i = c.self.inside in
    ap Some c.moved.ensures
    ∙ at-looked_up i.moves.now (option_map (λ d. d.now) i.change) i.gone.now i.circuits.now c.args.no.0 (Some c.in_ok-circuit.circuit)
    (sym c.in_ok-circuit.was ∙ c.record_after.ensures i.circuits.now.circuits (sym c.next-next.ensures.next) c.next-next.ensures.keeps.ordered c.seen-present.ensures)
    ∙ ap (λ (k : CircuitTables). at k.circuits.rows c.args.no.0) c.self.view_is
