use Rattle.std.proofs.Common.{◌∙◌, map}
use Rattle.ctrl_model.specs.Networks.{seen}
use Rattle.access_reasons.proofs.viewing.view_of.Goals as goal

pub returns-clause-state : goal.returns-clause-state
returns-clause-state c = λ s a. record {
  routers = c.requires ∙ (λ i. map seen (a.routers i).rows);
  links = a.links;
  least = a.least;
  terminators = a.terminators;
  dial = a.dial;
  bind = a.bind;
  identity_router = a.identity_router;
  service_router = a.service_router;
  full = a.full;
}
