use Rattle.std.proofs.Common.{refl}
use Rattle.dump_lines.proofs.MadeRecords.{edge_policy_made, router_made, service_policy_made}
use Rattle.dump_lines.proofs.laws.records_are_made.Goals as goal

pub returns : goal.returns
returns c = record {
  identities = λ s t e. refl;
  services = λ s t e. refl;
  service_policies = λ s t p. refl;
  edge_router_policies = edge_policy_made;
  service_edge_router_policies = service_policy_made;
  routers = router_made;
}
