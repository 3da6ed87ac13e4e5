use Rattle.std.proofs.Common.{List, ℕ, [], ap, ◌∙◌, drop}
use Rattle.frame_lines.specs.TellingSoFar.{end_fault}
use Rattle.frame_lines.proofs.DecodeLaws.{goes_start, all_told}
use Rattle.frame_lines.proofs.decoding.tell_all.Goals as goal

pub returns-clause-text : goal.returns-clause-text
returns-clause-text g c =
    let k = g.K.LineKind.reading in
    let bytes = c.args.bytes.now in
    let t = c.in_ok-told.told in
    (all_told k c.in_order.ensures bytes t.lines t.number t.at (drop t.used bytes) t.fault (c.in_ok-told.ensures.turns.stands bytes [] (goes_start k bytes))).0

pub returns-clause-fault : goal.returns-clause-fault
returns-clause-fault g c =
    let k = g.K.LineKind.reading in
    let bytes = c.args.bytes.now in
    let t = c.in_ok-told.told in
    c.end_fault-fault.ensures ∙ ap (λ (rest : List ℕ). end_fault t.fault rest t.at t.number) c.split_at.ensures.back
    ∙ (all_told k c.in_order.ensures bytes t.lines t.number t.at (drop t.used bytes) t.fault (c.in_ok-told.ensures.turns.stands bytes [] (goes_start k bytes))).1
