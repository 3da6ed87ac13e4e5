use Rattle.std.proofs.Common.{rules, arith, ◌≡◌, true, ◌+◌, ◌∷◌, drop, length, Some, sym, ◌∙◌, subst}
use Rattle.ziti_outside.specs.Images.{Image}
use Rattle.ziti_outside.proofs.MomentLaws.{OnlyReads-then}
use Rattle.folder_findings.specs.Spans.{record_len}
use Rattle.folder_findings.proofs.SpanLaws.{past_record}
use Rattle.folder_findings.proofs.spans.span_on.Goals as goal

pub records-preserved : goal.records-preserved
records-preserved g c = record {
  found = λ told.
      let reads = (g.D.Desk.seen c.args.desk.now).reads in
      let first = c.records.invariant.only.parts in
      let later = c.is_open.ensures.reads.parts ∙ first in
      let gate = c.in_ok-is_open.ensures.gate told in
      let opened : c.in_ok-is_open.field-0 ≡ true = search rules in
      let here = subst (λ (i : Image). drop c.records.at (i c.args.part) ≡ gate.0 ∷ drop (c.records.at + 1) (i c.args.part)) first gate.2 in
      let some = subst (λ (i : Image). record_len (drop (c.records.at + 1) (i c.args.part)) ≡ Some c.in-Some.len) later (sym (c.in_ok-len.ensures.len told) ∙ c.in-Some.is) in
      let within = rw c.in-Some.is at c.in_ok-len.ensures.within in
      let whole : c.args.end ≡ length (reads c.args.part) = c.requires.end told in
      c.records.invariant.found told
      ∙ past_record c.records.at c.records.records gate.0 c.in-Some.len (c.records.at + (5 + c.in-Some.len)) (reads c.args.part) (sym gate.1 ∙ opened) here some (omega arith) (omega arith);
  few = omega (arith, c.records.invariant.few);
  calm = c.in_ok-len.ensures.cause.calm ∙ c.in_ok-is_open.ensures.cause.calm ∙ c.records.invariant.calm;
  only = OnlyReads-then c.records.invariant.only (OnlyReads-then c.is_open.ensures.reads c.record_len.ensures.reads);
}
