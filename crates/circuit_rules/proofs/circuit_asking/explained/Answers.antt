use Rattle.std.proofs.Common.{sym, ◌∙◌, subst}
use Rattle.fabric_graph.specs.Routers.{AreRouters}
use Rattle.fabric_graph.proofs.StateLaws.{are_routers}
use Rattle.circuit_rules.specs.CircuitParts.{with_parts}
use Rattle.circuit_rules.proofs.circuit_asking.explained.Goals as goal

pub explain-requires : goal.explain-requires
explain-requires c =
    subst AreRouters (sym (c.view_of-view.ensures.routers ∙ c.as_slice.ensures.value ∙ c.in_ok-routers.ensures))
    (are_routers (with_parts c.args.parts.now c.requires.state) c.requires.valid)
