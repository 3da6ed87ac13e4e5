use Rattle.std.proofs.Common.{ℕ, ◌+◌, List, drop, Option, ◌∙◌, ap}
use Rattle.ctrl_model.specs.Hits.{Hit, hits, hits_of}
use Rattle.intercepts.specs.FirstHits.{first_with}
use Rattle.intercepts.proofs.FirstLaws.{next_hits}
use Rattle.intercepts.proofs.store.picked_in.Goals as goal

pub services-preserved : goal.services-preserved
services-preserved c =
    let xs : List ℕ = c.args.dialled.now in
    let i = c.services.service-index in
    ap (λ (b : Option Hit). first_with b (hits c.args.claims.now.entries (drop (i + 1) xs) c.args.to.udp c.args.to.address.now c.args.to.port)) c.first_of_service-best.ensures
    ∙ next_hits xs i 0 c.services.best c.services-test.true (hits_of c.args.claims.now.entries c.args.to.udp c.args.to.address.now c.args.to.port)
    ∙ c.services.invariant
