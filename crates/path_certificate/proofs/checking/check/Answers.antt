use Rattle.std.proofs.Common.{subst}
use Rattle.path_certificate.specs.Certified.{Certified}
use Rattle.path_certificate.proofs.Certificates.{certified_path, certified_least}
use Rattle.path_certificate.proofs.checking.check.Goals as goal

pub returns-then-potentials-places-clause-path : goal.returns-then-potentials-places-clause-path
returns-then-potentials-places-clause-path c = λ yes.
    certified_path _ _ _ _ _ c.places.ensures.graph
    (subst (λ p. Certified c.args.graph.now c.args.target p c.args.from c.args.path.now) c.as_slice-potentials.ensures
    (c.is_certified.ensures.0 yes))

pub returns-then-potentials-places-clause-least : goal.returns-then-potentials-places-clause-least
returns-then-potentials-places-clause-least c = λ yes.
    certified_least _ _ _ _ _ c.places.ensures.graph
    (subst (λ p. Certified c.args.graph.now c.args.target p c.args.from c.args.path.now) c.as_slice-potentials.ensures
    (c.is_certified.ensures.0 yes))
