use Rattle.std.proofs.Common.{◌*◌, inl, inr, arith}
use Rattle.std.proofs.lemmas.Bool.{OnTrue_at}
use Rattle.std.proofs.lemmas.Bool.Decides.{leb_tells}
use Rattle.bit_lanes.proofs.place_tests.vectors_pass.Goals as goal

pub vectors-preserved : goal.vectors-preserved
vectors-preserved g c = λ n less. elim (leb_tells (c.vectors.vector * 8) n) [
  | inl here ↦ OnTrue_at c.if-not-passes_from.false c.passes_from.ensures.all n here.1 (omega arith)
  | inr before ↦ c.vectors.invariant n before.1
]
