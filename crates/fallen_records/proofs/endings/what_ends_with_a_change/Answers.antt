use Rattle.fallen_records.proofs.EntityCases.{identity_gone, service_gone, router_gone}
use Rattle.fallen_records.proofs.MarkedRouters.{router_marked}
use Rattle.fallen_records.proofs.NetworkCases.{link_down, link_removed, term_removed}
use Rattle.fallen_records.proofs.endings.what_ends_with_a_change.Goals as goal

pub returns : goal.returns
returns c = record {
  identity = identity_gone;
  service = service_gone;
  router = router_gone;
  marks = router_marked;
  link_down = link_down;
  link = link_removed;
  terminator = term_removed;
}
