use Rattle.std.proofs.Common.{◌≡◌, rules, ap, ◌∙◌}
use Rattle.ctrl_model.specs.State.{Link}
use Rattle.ctrl_model.specs.Networks.{is_usable}
use Rattle.fabric_graph.specs.Routers.{crossed}
use Rattle.fabric_graph.proofs.hopping.is_usable.Goals as goal

pub returns-then-is_connected : goal.returns-then-is_connected
returns-then-is_connected c =
    let i = c.link.inside in
    let seen : Link = record { name = i.name.now; a = i.a.0; b = i.b.0; cost = i.cost; latency_a = i.latency_a; latency_b = i.latency_b; up = i.up } in
    let here : c.is_connected-then-is_connected.result ≡ is_usable (crossed 0 c.args.routers.now) seen = search rules in
    here ∙ ap (is_usable (crossed 0 c.args.routers.now)) c.link.view_is
