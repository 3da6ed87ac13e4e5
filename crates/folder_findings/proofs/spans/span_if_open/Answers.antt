use Rattle.std.proofs.Common.{arith, ◌≡◌, ◌+◌, drop, length, Some, sym, ◌∙◌, subst}
use Rattle.std.proofs.lemmas.Result.{IfOk-weaker}
use Rattle.ziti_outside.specs.Images.{Image}
use Rattle.folder_findings.specs.Spans.{record_len, span_past}
use Rattle.folder_findings.proofs.SpanLaws.{goes_on}
use Rattle.folder_findings.proofs.spans.span_if_open.Goals as goal

pub returns-in-Some-clause-span : goal.returns-in-Some-clause-span
returns-in-Some-clause-span g c =
    IfOk-weaker c.span_on.result _ _
    (λ span is. λ told.
    let bytes = (g.D.Desk.seen c.args.desk.now).reads c.args.part in
    let next = c.args.at + (5 + c.in-Some.len) in
    let same = c.record_len.ensures.reads.parts in
    let some : record_len (drop (c.args.at + 1) bytes) ≡ Some c.in-Some.len = sym (c.in_ok-record_len.ensures.len told) ∙ c.in-Some.is in
    let within = rw c.in-Some.is at c.in_ok-record_len.ensures.within in
    let whole : c.args.end ≡ length bytes = c.requires.end told in
    subst (λ (i : Image). span ≡ span_past (drop next (i c.args.part)) 0 next 1) same (is told) ∙ sym (goes_on c.args.at 0 c.in-Some.len next bytes some (omega arith) (omega arith)))
    c.span_on.ensures.span
