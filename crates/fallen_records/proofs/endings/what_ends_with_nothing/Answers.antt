use Rattle.fallen_records.proofs.MarkedRouters.{identity_more, service_more, router_more, identity_edited, service_edited}
use Rattle.fallen_records.proofs.NetworkCases.{policies_changed, link_set, term_set, circuit_removed, setting_changed}
use Rattle.fallen_records.proofs.endings.what_ends_with_nothing.Goals as goal

pub returns : goal.returns
returns c = record {
  identity = identity_more;
  service = service_more;
  router = router_more;
  identity_attributes = identity_edited;
  service_attributes = service_edited;
  policies = policies_changed;
  link = link_set;
  terminator = term_set;
  circuit = circuit_removed;
  setting = setting_changed;
}
