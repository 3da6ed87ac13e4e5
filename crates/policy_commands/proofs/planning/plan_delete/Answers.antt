use Rattle.policy_store.specs.declared.policies.PolicyFault.TheVariants.{Unknown}
use Rattle.policy_store.specs.PolicyTables.{number_of}
use Rattle.entity_store.proofs.LookUps.{some_from_ok, none_from_err}
use Rattle.policy_commands.proofs.PolicyPlans.{delete_unknown, delete_planned}
use Rattle.policy_commands.proofs.planning.plan_delete.Goals as goal

pub returns-in-Ok : goal.returns-in-Ok
returns-in-Ok c = λ t s valid held.
    rw (c.changed.ensures)
    (delete_planned c.args.kind c.args.name.now c.in-Ok.number.0 (record { entities = t; policies = c.args.policies.now; rest = s }) c.requires c.in-Ok.ensures.numbers
    (some_from_ok (number_of c.args.kind c.args.name.now c.args.policies.now) Unknown c.in-Ok.number.0 c.in-Ok.ensures.found))

pub returns-in-Err : goal.returns-in-Err
returns-in-Err c = λ t s valid held.
    rw (c.unknown_name.ensures)
    (delete_unknown c.args.kind c.args.name.now (record { entities = t; policies = c.args.policies.now; rest = s }) c.requires
    (none_from_err (number_of c.args.kind c.args.name.now c.args.policies.now) Unknown c.in-Err.field-0 c.in-Err.ensures.found))
