use Rattle.std.proofs.Common.{sym, ap, ◌∙◌, subst, map}
use Rattle.std.proofs.lemmas.Result.{IfOk-weaker}
use Rattle.ctrl_model.specs.Networks.{Network, seen}
use Rattle.fabric_graph.specs.Routers.{AreRouters}
use Rattle.fabric_graph.proofs.StateLaws.{are_routers}
use Rattle.access_reasons.specs.Reasons.{Facts, advice_by, findings_in}
use Rattle.access_reasons.specs.StateStores.{facts_in}
use Rattle.access_reasons.specs.Steps.{findings_by}
use Rattle.access_reasons.proofs.FindingLaws.{findings-by}
use Rattle.access_reasons.proofs.StoreLaws.{facts-are}
use Rattle.access_reasons.proofs.reasoning.why.Goals as goal

pub findings_by-requires : goal.findings_by-requires
findings_by-requires c =
    subst AreRouters (sym (c.view_of-view.ensures.routers ∙ (λ i. map seen (c.requires.stores.routers i).rows))) (are_routers c.requires.state c.requires.valid)

pub returns : goal.returns
returns c =
    let p = c.args.stores.now in
    let t = p.entities.now in
    let f = facts_in p in
    let identity = c.args.identity.now in
    let service = c.args.service.now in
    let stores = c.requires.stores in
    let advice = c.in_ok-advice.ensures.advice c.requires.state (record {
      view = c.view_of-view.ensures.state c.requires.state stores;
      identities = stores.identities;
      services = stores.services;
      routers = stores.routers;
      service_policies = stores.service_policies;
    }) ∙ ap (λ (g : Facts). advice_by g identity service) (sym (facts-are p c.requires.state stores)) in
    IfOk-weaker c.findings_by.result _ _ (λ fs is s of_s.
    is ∙ ap (λ (w : Network). findings_by w t.identities.rows t.services.rows t.routers.rows c.in_ok-advice.advice identity service) c.view_of-view.ensures.network
    ∙ findings-by f identity service c.in_ok-advice.advice advice
    ∙ ap (λ (g : Facts). findings_in g identity service) (facts-are p s of_s)) c.findings_by.ensures
