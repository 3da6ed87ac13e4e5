use Rattle.std.proofs.Common.{◌≡◌, drop}
use Rattle.std.specs.List.{find}
use Rattle.path_certificate.specs.Graphs.{leaves}
use Rattle.path_certificate.proofs.checking.find_step.Given as goal

-- the search of what is left finds what the search of all finds
abbrev pub invariant-steps : goal.invariant-steps
invariant-steps l = find (leaves l.place l.link) (drop l.step-index l.steps) ≡ find (leaves l.place l.link) l.steps
