use Rattle.std.proofs.Common.{length, sym, ap, ◌∙◌, arith}
use Rattle.session_mux.specs.Arrivals.{tail_of}
use Rattle.session_mux.proofs.RecordLaws.{passes_tail, stops_tail}
use Rattle.session_mux.proofs.muxing.tail_len.Goals as goal

pub records-preserved : goal.records-preserved
records-preserved c = record {
  tail = ap (tail_of c.pass.new.stages) c.split_at.ensures.back ∙ sym (passes_tail c.records.stages c.pass.new.stages c.records.rest.now c.in-Some.len c.in-Some.ensures) ∙ c.records.invariant.tail;
  numbers = omega (arith, c.pass.auto.stages, c.records.invariant.numbers);
}

pub returns : goal.returns
returns c = ap length (sym (stops_tail c.records.stages c.pass.new.stages c.records.rest.now c.in_default.ensures) ∙ c.records.invariant.tail)
