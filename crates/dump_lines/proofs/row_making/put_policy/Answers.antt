use Rattle.std.proofs.Common.{◌≡◌, true, [], subst}
use Rattle.ctrl_model.specs.declared.commands.Command.TheVariants as command
use Rattle.row_codec.specs.declared.rows.Row.{Row}
use Rattle.state_building.specs.BuiltStates.{state_in}
use Rattle.dump_lines.specs.Dumps.{are_spelled}
use Rattle.dump_lines.specs.RowDumps.{policy_making}
use Rattle.dump_lines.proofs.FitRows.{first_spelled}
use Rattle.dump_lines.proofs.row_making.put_policy.Goals as goal

pub put_service_policy-requires : goal.put_service_policy-requires
put_service_policy-requires c = first_spelled (command.CreateServicePolicy c.in-ServicePolicy.name c.in-ServicePolicy.relation c.in-ServicePolicy.semantic c.in-ServicePolicy.identities c.in-ServicePolicy.services) [] (subst (λ (x : Row). are_spelled (policy_making x) ≡ true) c.in-ServicePolicy.is c.requires)

pub put_edge_router_policy-requires : goal.put_edge_router_policy-requires
put_edge_router_policy-requires c = first_spelled (command.CreateEdgeRouterPolicy c.in-EdgeRouterPolicy.name c.in-EdgeRouterPolicy.semantic c.in-EdgeRouterPolicy.identities c.in-EdgeRouterPolicy.routers) [] (subst (λ (x : Row). are_spelled (policy_making x) ≡ true) c.in-EdgeRouterPolicy.is c.requires)

pub put_service_edge_router_policy-requires : goal.put_service_edge_router_policy-requires
put_service_edge_router_policy-requires c = first_spelled (command.CreateServiceEdgeRouterPolicy c.in-ServiceEdgeRouterPolicy.name c.in-ServiceEdgeRouterPolicy.semantic c.in-ServiceEdgeRouterPolicy.services c.in-ServiceEdgeRouterPolicy.routers) [] (subst (λ (x : Row). are_spelled (policy_making x) ≡ true) c.in-ServiceEdgeRouterPolicy.is c.requires)
