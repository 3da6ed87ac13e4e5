use Rattle.std.proofs.Common.{sym}
use Rattle.ctrl_model.specs.Numbered.{no_rows}
use Rattle.fabric_graph.proofs.EndLaws.{end_is, end_none}
use Rattle.fabric_graph.proofs.HopLaws.{place_of_end}
use Rattle.fabric_graph.proofs.steps.connected_place.Goals as goal

pub returns-in_err-end-clause-off : goal.returns-in_err-end-clause-off
returns-in_err-end-clause-off c = rw c.from_residual.ensures (end_none c.args.routers.now 0 c.args.router.0 (sym c.in_err-end.ensures.end))

pub returns-clause-on : goal.returns-clause-on
returns-clause-on c =
    place_of_end (record { links = no_rows; least = 0 }) c.args.routers.now c.requires.ordered c.args.router.0 c.in_ok-end.end
    (end_is c.args.routers.now 0 c.args.router.0 c.in_ok-end.end (sym c.in_ok-end.ensures.end))
