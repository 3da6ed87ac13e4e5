-- The record that a row says of one table (docs/FORMATS.md, "Rows").
use Rattle.std.specs.Prelude.{None, Some, option_map}
use Rattle.std.specs.declared.option.Option.{Option}
use Rattle.ctrl_model.specs.declared.kinds.Relation.TheVariants.{IdentityRouter, ServiceRouter}
use Rattle.ctrl_model.specs.State.{Link, Policy, Terminator, Circuit}
use Rattle.row_codec.specs.declared.rows.Row.{Row}
use Rattle.row_codec.specs.declared.rows.Row.TheVariants as row

-- The link that a row says. None is a row of another table.
abbrev pub link_in : Row → Option Link
link_in (row.Link n name a b cost latency_a latency_b up) =
    Some (record { name = name; a = a.0; b = b.0; cost = cost; latency_a = latency_a; latency_b = latency_b; up = up })
link_in _ = None

-- The policy that a row says, of any of the three kinds.
abbrev pub policy_in : Row → Option Policy
policy_in (row.ServicePolicy n name relation semantic identities services) =
    Some (record { name = name; relation = relation; semantic = semantic; left = identities; right = services })
policy_in (row.EdgeRouterPolicy n name semantic identities routers) =
    Some (record { name = name; relation = IdentityRouter; semantic = semantic; left = identities; right = routers })
policy_in (row.ServiceEdgeRouterPolicy n name semantic services routers) =
    Some (record { name = name; relation = ServiceRouter; semantic = semantic; left = services; right = routers })
policy_in _ = None

-- The terminator that a row says.
abbrev pub term_in : Row → Option Terminator
term_in (row.Terminator n service router host instance cost precedence) =
    Some (record { service = service.0; router = router.0; instance = instance; host = option_map (λ h. h.0) host; cost = cost; precedence = precedence })
term_in _ = None

-- The circuit that a row says.
abbrev pub circuit_in : Row → Option Circuit
circuit_in (row.Circuit n identity service terminator ingress links) =
    Some (record { identity = identity.0; service = service.0; terminator = terminator.0; ingress = ingress.0; links = links })
circuit_in _ = None
