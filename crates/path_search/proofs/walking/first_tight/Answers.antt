use Rattle.std.proofs.Common.{ap, ◌∙◌}
use Rattle.std.specs.List.{find}
use Rattle.path_search.specs.Supports.{falls_from}
use Rattle.path_search.proofs.PlaceSteps.{falls_behind}
use Rattle.path_search.proofs.walking.first_tight.Goals as goal

pub steps-init : goal.steps-init
steps-init c =
    ap (find (falls_from c.args.graph.now.through c.args.target c.args.potentials.now c.args.place)) c.steps_on-steps.ensures.rest
    ∙ falls_behind c.args.graph.now.through c.args.target c.args.potentials.now c.args.place c.args.graph.now.steps
