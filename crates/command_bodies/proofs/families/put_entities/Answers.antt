use Rattle.command_bodies.proofs.PutLaws.{PutBetween, of_five, of_four, of_two}
use Rattle.command_bodies.proofs.families.put_entities.Goals as goal

pub returns-in-DeleteIdentity-clause-put : goal.returns-in-DeleteIdentity-clause-put
returns-in-DeleteIdentity-clause-put c =
    let done = c.put in
    let said = c.in-DeleteIdentity in
    of_five (PutBetween done.result 1000 1100 c.args.body.now done.new.self) said.is done.ensures.put done.ensures.put done.ensures.put done.ensures.put done.ensures.put

pub returns-in-CreateRouter-clause-put : goal.returns-in-CreateRouter-clause-put
returns-in-CreateRouter-clause-put c =
    let done = c.put-in-CreateRouter in
    let said = c.in-CreateRouter in
    of_two (PutBetween done.result 1000 1100 c.args.body.now done.new.self) said.is done.ensures.put done.ensures.put

pub returns-in-CreateIdentity-clause-put : goal.returns-in-CreateIdentity-clause-put
returns-in-CreateIdentity-clause-put c =
    let done = c.put-in-CreateIdentity in
    let said = c.in-CreateIdentity in
    of_four (PutBetween done.result 1000 1100 c.args.body.now done.new.self) said.is done.ensures.put done.ensures.put done.ensures.put done.ensures.put
