use Rattle.command_bodies.proofs.PutLaws.{PutBetween, of_one}
use Rattle.command_bodies.proofs.families.put_links.Goals as goal

pub returns-in-CreateLink-clause-put : goal.returns-in-CreateLink-clause-put
returns-in-CreateLink-clause-put c =
    let done = c.put in
    let said = c.in-CreateLink in
    of_one (PutBetween done.result 1200 1300 c.args.body.now done.new.self) said.is done.ensures.put

pub returns-in-SetLinkCost-clause-put : goal.returns-in-SetLinkCost-clause-put
returns-in-SetLinkCost-clause-put c =
    let done = c.put-in-SetLinkCost in
    let said = c.in-SetLinkCost in
    of_one (PutBetween done.result 1200 1300 c.args.body.now done.new.self) said.is done.ensures.put

pub returns-in-ReportLatency-clause-put : goal.returns-in-ReportLatency-clause-put
returns-in-ReportLatency-clause-put c =
    let done = c.put-in-ReportLatency in
    let said = c.in-ReportLatency in
    of_one (PutBetween done.result 1200 1300 c.args.body.now done.new.self) said.is done.ensures.put

pub returns-in-ReportState-clause-put : goal.returns-in-ReportState-clause-put
returns-in-ReportState-clause-put c =
    let done = c.put-in-ReportState in
    let said = c.in-ReportState in
    of_one (PutBetween done.result 1200 1300 c.args.body.now done.new.self) said.is done.ensures.put

pub returns-in-DeleteLink-clause-put : goal.returns-in-DeleteLink-clause-put
returns-in-DeleteLink-clause-put c =
    let done = c.put-in-DeleteLink in
    let said = c.in-DeleteLink in
    of_one (PutBetween done.result 1200 1300 c.args.body.now done.new.self) said.is done.ensures.put

pub returns-in-SetLeastRouterCost-clause-put : goal.returns-in-SetLeastRouterCost-clause-put
returns-in-SetLeastRouterCost-clause-put c =
    let done = c.put-in-SetLeastRouterCost in
    let said = c.in-SetLeastRouterCost in
    of_one (PutBetween done.result 1200 1300 c.args.body.now done.new.self) said.is done.ensures.put
