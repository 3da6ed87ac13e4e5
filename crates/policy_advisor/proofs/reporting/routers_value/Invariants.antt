use Rattle.std.proofs.Common.{◌≡◌, map, take}
use Rattle.serde_json.specs.Data.{string}
use Rattle.serde_json.specs.View.{view}
use Rattle.policy_advisor.specs.Reports.{router_name}
use Rattle.policy_advisor.proofs.reporting.routers_value.Given as goal

-- the values are those of the routers before the index
abbrev pub invariant-numbers : goal.invariant-numbers
invariant-numbers l = map view l.values.items ≡ map (λ n. string (router_name l.entities.routers.rows n)) (take l.number-index l.numbers)
