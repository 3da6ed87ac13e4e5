use Rattle.std.proofs.Common.{◌≡◌, Ok, sym, ◌∙◌}
use Rattle.trace_lines.specs.TraceWords.{traced_by}
use Rattle.trace_lines.proofs.TurnLaws.{traced_short}
use Rattle.trace_lines.proofs.turning.take_line.Goals as goal

pub take_said-requires : goal.take_said-requires
take_said-requires c =
    let is : traced_by c.args.line.now ≡ Ok c.in-Ok.said = sym c.in_ok-said.ensures.said ∙ c.in-Ok.is in
    traced_short c.args.line.now c.in-Ok.said is
