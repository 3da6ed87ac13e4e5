use Rattle.command_bodies.proofs.PutLaws.{PutBetween, of_one}
use Rattle.command_bodies.proofs.families.put_route.Goals as goal

pub returns-in-VerifyRoute-clause-put : goal.returns-in-VerifyRoute-clause-put
returns-in-VerifyRoute-clause-put c =
    let done = c.put in
    let said = c.in-VerifyRoute in
    of_one (PutBetween done.result 1403 1404 c.args.body.now done.new.self) said.is done.ensures.put
