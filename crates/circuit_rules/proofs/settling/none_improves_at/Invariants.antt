use Rattle.std.proofs.Common.{◌≡◌, drop}
use Rattle.std.specs.List.{list_all}
use Rattle.ctrl_model.specs.Networks.{hops}
use Rattle.ctrl_model.specs.Claims.{router_numbers, value_at, does_not_improve}
use Rattle.circuit_rules.specs.Views.{network}
use Rattle.circuit_rules.proofs.settling.none_improves_at.Given as goal

-- no hop over those that are left improves the value exactly if none does
abbrev pub invariant-links : goal.invariant-links
invariant-links l =
    list_all (λ k. does_not_improve (value_at (router_numbers (network l.view)) l.values) l.router.0 (hops (network l.view) l.target.0 l.router.0 k)) (drop l.link-index l.links)
    ≡ list_all (λ k. does_not_improve (value_at (router_numbers (network l.view)) l.values) l.router.0 (hops (network l.view) l.target.0 l.router.0 k)) l.links
