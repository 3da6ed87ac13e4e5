use Rattle.std.proofs.Common.{length}
use Rattle.path_certificate.proofs.StepLaws.{step_found, found_from}
use Rattle.path_certificate.proofs.checking.step_over.Goals as goal

pub counts-requires : goal.counts-requires
counts-requires c =
    (step_found (length c.args.graph.now.through) c.args.place c.args.link c.steps.result.now c.args.graph.now.steps
    c.in_ok-step.step c.steps.ensures.graph.each c.steps.ensures.steps c.in_ok-step.ensures).to

pub returns-then-counts-clause-from : goal.returns-then-counts-clause-from
returns-then-counts-clause-from c = found_from c.args.place c.args.link c.steps.result.now c.in_ok-step.step c.in_ok-step.ensures

pub returns-then-counts-clause-to : goal.returns-then-counts-clause-to
returns-then-counts-clause-to c =
    (step_found (length c.args.graph.now.through) c.args.place c.args.link c.steps.result.now c.args.graph.now.steps
    c.in_ok-step.step c.steps.ensures.graph.each c.steps.ensures.steps c.in_ok-step.ensures).to
