use Rattle.std.proofs.Common.{List, ℕ, ap, ◌∙◌}
use Rattle.frame_lines.specs.TextTelling.{text_of}
use Rattle.frame_lines.specs.TellingSoFar.{end_fault}
use Rattle.frame_lines.proofs.DecodeLaws.{all_told}
use Rattle.frame_lines.proofs.decoding.LineTelling.fault.Goals as goal

pub returns : goal.returns
returns g c = λ came follows.
    let k = g.K.LineKind.reading in
    let t = c.args.self.now in
    c.end_fault.ensures ∙ ap (λ (held : List ℕ). end_fault t.fault held t.at t.number) c.as_slice.ensures.value
    ∙ (all_told k c.in_order.ensures came (text_of k came) t.number t.at t.held.items t.fault follows).1
