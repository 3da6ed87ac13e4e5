use Rattle.std.proofs.Common.{refl}
use Rattle.std.specs.Fmt.{digits}
use Rattle.serde_json.proofs.OnLiterals.{serde_json_on_literals}
use Rattle.dump_lines.specs.Dumps.{command_line}
use Rattle.dump_lines.proofs.worked.worked_sections.Goals as goal

pub returns : goal.returns
unfolding command_line serde_json_on_literals digits
returns c = record { start = refl; identities = refl; services = refl; routers = refl; links = refl; terminators = refl; service_policies = refl; edge_router_policies = refl; service_edge_router_policies = refl; intercepts = refl; circuits = refl }
