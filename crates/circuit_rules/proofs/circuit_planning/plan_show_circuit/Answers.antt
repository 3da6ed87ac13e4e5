use Rattle.std.proofs.Common.{sym, subst}
use Rattle.circuit_rules.specs.CircuitParts.{with_parts}
use Rattle.circuit_rules.proofs.PresentLaws.{Stands, stands, found_so}
use Rattle.circuit_rules.proofs.circuit_planning.plan_show_circuit.Goals as goal

pub name_at-requires-clause-there : goal.name_at-requires-clause-there
name_at-requires-clause-there c =
    (subst (Stands (with_parts c.args.parts.now c.requires.state)) (sym c.circuit.view_is)
    (stands (with_parts c.args.parts.now c.requires.state) c.args.no.0 c.in-Ok.circuit.now c.requires.valid (found_so _ _ _ c.in-Ok.ensures))).identity

pub router_name-requires : goal.router_name-requires
router_name-requires c =
    (subst (Stands (with_parts c.args.parts.now c.requires.state)) (sym c.circuit.view_is)
    (stands (with_parts c.args.parts.now c.requires.state) c.args.no.0 c.in-Ok.circuit.now c.requires.valid (found_so _ _ _ c.in-Ok.ensures))).ingress

pub name_at-requires-2-clause-there : goal.name_at-requires-2-clause-there
name_at-requires-2-clause-there c =
    (subst (Stands (with_parts c.args.parts.now c.requires.state)) (sym c.circuit.view_is)
    (stands (with_parts c.args.parts.now c.requires.state) c.args.no.0 c.in-Ok.circuit.now c.requires.valid (found_so _ _ _ c.in-Ok.ensures))).service
