use Rattle.command_bodies.proofs.PutLaws.{PutBetween, of_two}
use Rattle.command_bodies.proofs.families.put_circuits.Goals as goal

pub returns-in-ShowGrants-clause-put : goal.returns-in-ShowGrants-clause-put
returns-in-ShowGrants-clause-put c =
    let done = c.put in
    let said = c.in-ShowGrants in
    of_two (PutBetween done.result 1400 1600 c.args.body.now done.new.self) said.is done.ensures.put done.ensures.put

pub returns-in-DeleteCircuit-clause-put : goal.returns-in-DeleteCircuit-clause-put
returns-in-DeleteCircuit-clause-put c =
    let done = c.put-in-DeleteCircuit in
    let said = c.in-DeleteCircuit in
    of_two (PutBetween done.result 1400 1600 c.args.body.now done.new.self) said.is done.ensures.put done.ensures.put

pub returns-in-CreateCircuit-clause-put : goal.returns-in-CreateCircuit-clause-put
returns-in-CreateCircuit-clause-put c =
    let done = c.put-in-CreateCircuit in
    let said = c.in-CreateCircuit in
    of_two (PutBetween done.result 1400 1600 c.args.body.now done.new.self) said.is done.ensures.put done.ensures.put
