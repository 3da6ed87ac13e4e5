use Rattle.std.proofs.Common.{[], ◌∷◌, cond, not}
use Rattle.ctrl_model.specs.declared.commands.Command.TheVariants as command
use Rattle.dump_lines.proofs.FitRows.{first_spelled, router_name}
use Rattle.dump_lines.proofs.making.put_router.Goals as goal

pub put_new_router-requires : goal.put_new_router-requires
put_new_router-requires c = first_spelled (command.CreateRouter c.args.name.now c.args.attributes.now c.args.cost (not c.args.through))
    (cond c.args.connected (command.ConnectRouter c.args.name.now ∷ []) []) c.requires

pub put_connected-requires : goal.put_connected-requires
put_connected-requires c = router_name (record {
  name = c.args.name.now;
  attributes = c.args.attributes.now;
  cost = c.args.cost;
  through = c.args.through;
  connected = c.args.connected;
}) c.requires
