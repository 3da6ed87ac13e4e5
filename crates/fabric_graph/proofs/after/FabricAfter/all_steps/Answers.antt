use Rattle.std.proofs.Common.{◌++◌, ◌∙◌, ap}
use Rattle.std.specs.List.{flat_map}
use Rattle.fabric_graph.specs.Steps.{steps_at}
use Rattle.fabric_graph.proofs.AfterLaws.{steps_by_number}
use Rattle.fabric_graph.proofs.after.FabricAfter.all_steps.Goals as goal

pub links-init : goal.links-init
links-init c =
    let s = c.args.self.now in
    ap (λ xs. xs ++ flat_map (steps_at c.args.routers.now s.least s.links.rows) c.as_slice-number-items.result.now) c.new-steps.ensures.items
    ∙ ap (flat_map (steps_at c.args.routers.now s.least s.links.rows)) (c.as_slice-number-items.ensures ∙ c.in_ok-numbers.ensures.all)
    ∙ steps_by_number c.args.routers.now s.least s.links.next s.links.rows c.in_ok-numbers.ensures.ordered
