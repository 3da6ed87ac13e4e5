use Rattle.std.proofs.Common.{sym}
use Rattle.ctrl_model.specs.State.{entity_named}
use Rattle.entity_store.specs.declared.entities.EntityFault.TheVariants.{Unknown}
use Rattle.entity_store.proofs.LookUps.{some_from_ok, none_from_err}
use Rattle.show_commands.proofs.showing.identity_named.Goals as goal

pub returns-in-Ok : goal.returns-in-Ok
returns-in-Ok c = sym (some_from_ok (entity_named c.args.entities.now.identities.rows c.args.name.now) Unknown c.in-Ok.number c.in-Ok.ensures.found)

pub returns-in-Err : goal.returns-in-Err
returns-in-Err c = sym (none_from_err (entity_named c.args.entities.now.identities.rows c.args.name.now) Unknown c.in-Err._fault c.in-Err.ensures.found)
