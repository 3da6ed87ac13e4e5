use Rattle.std.proofs.Common.{◌≡◌, drop}
use Rattle.std.specs.List.{list_all}
use Rattle.ctrl_model.specs.declared.kinds.RouterSeen.{RouterSeen}
use Rattle.ctrl_model.specs.Networks.{hops}
use Rattle.ctrl_model.specs.Claims.{router_numbers, value_at, does_not_improve}
use Rattle.circuit_rules.specs.Views.{network}
use Rattle.circuit_rules.proofs.settling.none_improves.Given as goal

-- no hop from those that are left improves a value exactly if none does
abbrev pub invariant-routers : goal.invariant-routers
invariant-routers l =
    list_all (λ (r : RouterSeen). list_all (λ k. does_not_improve (value_at (router_numbers (network l.view)) l.values) r.no.0 (hops (network l.view) l.target.0 r.no.0 k)) l.links) (drop l.router-index (network l.view).routers)
    ≡ list_all (λ (r : RouterSeen). list_all (λ k. does_not_improve (value_at (router_numbers (network l.view)) l.values) r.no.0 (hops (network l.view) l.target.0 r.no.0 k)) l.links) (network l.view).routers
