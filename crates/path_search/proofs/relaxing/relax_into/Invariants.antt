use Rattle.std.proofs.Common.{take}
use Rattle.path_search.specs.Supports.{Grown, places_of}
use Rattle.path_search.proofs.Relaxations.{Relaxing}
use Rattle.path_search.proofs.relaxing.relax_into.Given as goal

-- what stands and what waits after the steps before the index
abbrev pub invariant-steps : goal.invariant-steps
invariant-steps l = record {
  relaxing : Relaxing l.graph l.target l.place l.fn.potentials l.potentials (take l.step-index l.into);
  grown : Grown l.fn.potentials l.potentials (places_of l.fn.waiting) (places_of l.waiting);
}
