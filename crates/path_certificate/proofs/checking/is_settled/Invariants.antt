use Rattle.std.proofs.Common.{◌≡◌, ◌↔◌, take, not, true}
use Rattle.std.specs.List.{list_all}
use Rattle.path_certificate.specs.Columns.{Hold}
use Rattle.path_certificate.specs.Graphs.{improves}
use Rattle.path_certificate.proofs.checking.is_settled.Given as goal

-- the columns hold just where none of the steps so far improves
abbrev pub invariant-steps : goal.invariant-steps
invariant-steps l =
    Hold l.columns ↔ (list_all (λ s. not (improves l.graph.through l.target l.potentials s)) (take l.step-index l.steps) ≡ true)
