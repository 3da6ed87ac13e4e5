use Rattle.std.proofs.Common.{◌+◌, List, drop, map, filter, Option, sym, ◌∙◌, ap}
use Rattle.ctrl_model.specs.declared.intercepts.PortRange.{PortRange}
use Rattle.ctrl_model.specs.Hits.{Hit, has_port}
use Rattle.intercepts.specs.FirstHits.{first_with}
use Rattle.intercepts.proofs.FirstLaws.{next_hit, no_hit}
use Rattle.intercepts.proofs.hits.first_by_ranges.Goals.{then-has_port, else-has_port}
use Rattle.intercepts.proofs.hits.first_by_ranges.Goals as goal

pub held-preserved : goal.held-preserved
held-preserved c =
    let xs : List PortRange = c.args.ranges.now in
    let i = c.held.range-index in
    let hit : PortRange → Hit = λ r. record { service = c.args.service; near = c.args.near; address = c.args.address.now; ports = r } in
    let rest : Option Hit → Option Hit = λ b. first_with b (map hit (filter (has_port c.args.port) (drop (i + 1) xs))) in
    elim c.if-has_port.branch [
      | then-has_port w ↦ ap rest (w.best-is ∙ w.keep-best.ensures)
          ∙ next_hit xs i _ c.held.best c.held-test.true hit (has_port c.args.port) (sym c.has_port.ensures ∙ w.if-has_port.true)
          ∙ c.held.invariant
      | else-has_port w ↦ ap rest w.best-is
          ∙ no_hit xs i _ c.held.best c.held-test.true hit (has_port c.args.port) (sym c.has_port.ensures ∙ w.if-has_port.false)
          ∙ c.held.invariant
    ]
