use Rattle.std.proofs.Common.{rules, ◌≡◌, ◌&&◌, IfOk, filter, sym, subst}
use Rattle.ctrl_model.specs.declared.kinds.RouterSeen.{RouterSeen}
use Rattle.ctrl_model.specs.Choices.{is_wanted}
use Rattle.ctrl_model.specs.Networks.{is_shared}
use Rattle.circuit_rules.specs.Views.{network, wanted_of}
use Rattle.circuit_rules.proofs.EntryLaws.{ingresses-are}
use Rattle.circuit_rules.proofs.ingresses.ingresses.Goals as goal

pub returns : goal.returns
returns c =
    let w = network c.args.view.now in
    let wanted = wanted_of c.args.ingress in
    let found : IfOk c.collect.result (λ v. v.items ≡ filter (λ (r : RouterSeen). r.connected && (is_wanted wanted r.no.0 && is_shared w c.args.identity.0 c.args.service.0 r.no.0)) c.args.view.now.routers.now) = search rules in
    subst (λ rs. IfOk c.collect.result (λ v. v.items ≡ rs)) (sym (ingresses-are w wanted c.args.identity.0 c.args.service.0)) found
