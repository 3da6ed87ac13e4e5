-- A command on links that some body spells has its costs and latencies in their ranges.
use Rattle.std.proofs.Common.{◌≡◌, ℕ, true, ◌&&◌, List}
use Rattle.std.proofs.lemmas.Bool.{and_parts}
use Rattle.ctrl_model.specs.NameForm.{is_name}
use Rattle.ctrl_model.specs.ValueForms.{is_link_cost, is_latency}

pub made_costs : (name a b : List ℕ) (cost latency_a latency_b : ℕ)
    → (is_name name && (is_name a && (is_name b && (is_link_cost cost && (is_latency latency_a && is_latency latency_b))))) ≡ true
    → (is_link_cost cost ≡ true) × ((is_latency latency_a ≡ true) × (is_latency latency_b ≡ true))
made_costs name a b cost latency_a latency_b spelled =
    let latencies = is_latency latency_a && is_latency latency_b in
    let named = and_parts (is_name name) (is_name a && (is_name b && (is_link_cost cost && latencies))) spelled in
    let from_a = and_parts (is_name a) (is_name b && (is_link_cost cost && latencies)) named.1 in
    let from_b = and_parts (is_name b) (is_link_cost cost && latencies) from_a.1 in
    let costs = and_parts (is_link_cost cost) latencies from_b.1 in
    (costs.0, and_parts (is_latency latency_a) (is_latency latency_b) costs.1)

pub set_cost : (link : List ℕ) (cost : ℕ) → (is_name link && is_link_cost cost) ≡ true → is_link_cost cost ≡ true
set_cost link cost spelled = (and_parts (is_name link) (is_link_cost cost) spelled).1

pub reported_latency : (link router : List ℕ) (latency : ℕ) → (is_name link && (is_name router && is_latency latency)) ≡ true → is_latency latency ≡ true
reported_latency link router latency spelled =
    (and_parts (is_name router) (is_latency latency) (and_parts (is_name link) (is_name router && is_latency latency) spelled).1).1
