use Rattle.std.proofs.Common.{◌+◌, length, sum}
use Rattle.path_search.specs.Supports.{Spread, IsWaiting, places_of}
use Rattle.path_search.proofs.relaxing.settle.Given as goal

abbrev pub invariant-turns : goal.invariant-turns
invariant-turns l = record {
  spread : Spread l.search.graph.now l.search.target l.potentials l.fixed;
  waiting : IsWaiting l.potentials l.fixed (places_of l.waiting);
}

-- each turn takes a place from those that wait, and for each that it adds lowers a potential
abbrev pub decreases-turns : goal.decreases-turns
decreases-turns l = length l.waiting + sum l.potentials + sum l.fixed
