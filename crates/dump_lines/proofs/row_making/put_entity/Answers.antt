use Rattle.std.proofs.Common.{◌≡◌, true, [], subst}
use Rattle.ctrl_model.specs.declared.commands.Command.TheVariants as command
use Rattle.row_codec.specs.declared.rows.Row.{Row}
use Rattle.state_building.specs.BuiltStates.{state_in}
use Rattle.dump_lines.specs.Dumps.{are_spelled}
use Rattle.dump_lines.specs.RowDumps.{entity_making}
use Rattle.dump_lines.proofs.FitRows.{first_spelled}
use Rattle.dump_lines.proofs.row_making.put_entity.Goals as goal

pub put_identity-requires : goal.put_identity-requires
put_identity-requires c = first_spelled (command.CreateIdentity c.in-Identity.name c.in-Identity.attributes) [] (subst (λ (x : Row). are_spelled (entity_making (state_in c.args.rows.now) x) ≡ true) c.in-Identity.is c.requires)

pub put_service-requires : goal.put_service-requires
put_service-requires c = first_spelled (command.CreateService c.in-Service.name c.in-Service.attributes) [] (subst (λ (x : Row). are_spelled (entity_making (state_in c.args.rows.now) x) ≡ true) c.in-Service.is c.requires)

pub put_router-requires : goal.put_router-requires
put_router-requires c = subst (λ (x : Row). are_spelled (entity_making (state_in c.args.rows.now) x) ≡ true) c.in-Router.is c.requires
