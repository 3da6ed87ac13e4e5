use Rattle.std.proofs.Common.{drop, sym, ap, ◌∙◌}
use Rattle.frame_lines.proofs.DecodeLaws.{fed_ended, fed_turned}
use Rattle.frame_lines.proofs.decoding.LineTelling.feed.Goals as goal

pub returns-then-is_some-clause-lines : goal.returns-then-is_some-clause-lines
returns-then-is_some-clause-lines g c = λ came follows.
    let t = c.args.self.now in
    (fed_ended g.K.LineKind.reading came c.args.piece.now t.number t.at t.held.items t.fault c.of.result (sym c.is_some.ensures ∙ c.if-is_some.true) (c.of.ensures ∙ c.new.ensures.items) follows).0

pub returns-then-is_some-clause-ok : goal.returns-then-is_some-clause-ok
returns-then-is_some-clause-ok g c = λ came follows.
    let t = c.args.self.now in
    (fed_ended g.K.LineKind.reading came c.args.piece.now t.number t.at t.held.items t.fault c.of.result (sym c.is_some.ensures ∙ c.if-is_some.true) (c.of.ensures ∙ c.new.ensures.items) follows).1

pub returns-in-Ok-clause-lines : goal.returns-in-Ok-clause-lines
returns-in-Ok-clause-lines g c = λ came follows.
    let t = c.args.self.now in
    let kept = c.keep.ensures.kept in
    (fed_turned g.K.LineKind.reading c.in_order.ensures came c.args.piece.now t.number t.at t.held.items t.fault c.as_slice.result.now c.in-Ok.turned c.keep.result
    (c.keep.new.self).held.items (c.keep.new.self).number (c.keep.new.self).at (c.keep.new.self).fault (sym c.is_some.ensures ∙ c.if-is_some.false)
    (c.as_slice.ensures.value ∙ c.in_ok-extend_from_slice.ensures.items) c.in-Ok.ensures.turns c.keep.ensures.lines (kept.0 ∙ ap (drop c.in-Ok.turned.used) (sym c.as_slice.ensures.value)) kept.1 kept.2 kept.3 follows).0

pub returns-in-Ok-clause-ok : goal.returns-in-Ok-clause-ok
returns-in-Ok-clause-ok g c = λ came follows.
    let t = c.args.self.now in
    let kept = c.keep.ensures.kept in
    (fed_turned g.K.LineKind.reading c.in_order.ensures came c.args.piece.now t.number t.at t.held.items t.fault c.as_slice.result.now c.in-Ok.turned c.keep.result
    (c.keep.new.self).held.items (c.keep.new.self).number (c.keep.new.self).at (c.keep.new.self).fault (sym c.is_some.ensures ∙ c.if-is_some.false)
    (c.as_slice.ensures.value ∙ c.in_ok-extend_from_slice.ensures.items) c.in-Ok.ensures.turns c.keep.ensures.lines (kept.0 ∙ ap (drop c.in-Ok.turned.used) (sym c.as_slice.ensures.value)) kept.1 kept.2 kept.3 follows).1
