use Rattle.std.proofs.Common.{◌≡◌, drop}
use Rattle.std.specs.List.{list_all}
use Rattle.ctrl_model.specs.Claims.{is_settled}
use Rattle.circuit_rules.specs.Views.{network}
use Rattle.circuit_rules.proofs.settling.are_certified.Given as goal

-- those that are left are settled exactly if all are
abbrev pub invariant-entries : goal.invariant-entries
invariant-entries l = list_all (is_settled (network l.view)) (drop l.entry-index l.entries) ≡ list_all (is_settled (network l.view)) l.entries
