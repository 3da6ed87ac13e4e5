use Rattle.std.proofs.Common.{refl}
use Rattle.std.specs.Fmt.{digits}
use Rattle.record_lines.proofs.worked.worked_lists.Goals as goal

pub returns : goal.returns
unfolding digits
returns c = record {
  identities = refl;
  services = refl;
  routers = refl;
  links = refl;
  service_policies = refl;
  edge_router_policies = refl;
  service_edge_router_policies = refl;
  terminators = refl;
  circuits = refl;
  none = refl;
}
