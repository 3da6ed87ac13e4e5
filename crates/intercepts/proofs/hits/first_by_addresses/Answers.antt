use Rattle.std.proofs.Common.{◌+◌, List, drop, Option, ◌∙◌, ap}
use Rattle.std.specs.List.{flat_map}
use Rattle.ctrl_model.specs.declared.addresses.Address.{Address}
use Rattle.ctrl_model.specs.Hits.{Hit, hits_at}
use Rattle.intercepts.specs.FirstHits.{first_with}
use Rattle.intercepts.proofs.FirstLaws.{next_hits}
use Rattle.intercepts.proofs.hits.first_by_addresses.Goals as goal

pub addresses-preserved : goal.addresses-preserved
addresses-preserved c =
    let xs : List Address = c.as_slice-address-items.result.now in
    let i = c.addresses.address-index in
    let hits : Address → List Hit = hits_at c.args.service c.as_slice-ranges.result.now c.args.to.port c.args.to.address.now in
    ap (λ (b : Option Hit). first_with b (flat_map hits (drop (i + 1) xs))) (c.first_at-best.ensures ∙ ap (λ (a : Address). first_with c.addresses.best (hits a)) c.address-item.is)
    ∙ next_hits xs i c.address-item.result c.addresses.best c.addresses-test.true hits
    ∙ c.addresses.invariant
