use Rattle.std.proofs.Common.{◌≡◌, drop}
use Rattle.std.specs.List.{find}
use Rattle.path_search.specs.Supports.{falls_from}
use Rattle.path_search.proofs.walking.first_tight.Given as goal

-- the search of what is left finds what the search of all steps finds
abbrev pub invariant-steps : goal.invariant-steps
invariant-steps l =
    find (falls_from l.graph.through l.target l.potentials l.place) (drop l.step-index l.steps)
    ≡ find (falls_from l.graph.through l.target l.potentials l.place) l.graph.steps
