-- What a justified claim says of the route that it claims (docs/RULES.md, "Explanations and claims").
use Rattle.std.specs.Prelude.{◌≡◌, ℕ, ◌<◌, ◌≤◌, Bool, ◌&&◌, nat_lt, nat_le, ◌⊎◌, length}
use Rattle.std.specs.List.{list_all}
use Rattle.ctrl_model.specs.declared.kinds.RouterSeen.{RouterSeen}
use Rattle.ctrl_model.specs.declared.claims.Explanation.{Explanation}
use Rattle.ctrl_model.specs.State.{Link, Terminator}
use Rattle.ctrl_model.specs.Networks.{Network, link_cost, entry_cost}
use Rattle.ctrl_model.specs.Choices.{Ask, Candidate, IsCandidate, place_of}
use Rattle.ctrl_model.specs.Limits.{limit}
use Rattle.ctrl_model.specs.declared.kinds.Kind.TheVariants as kind

-- Whether costs are so small that each path costs less than the number that stands for no path: there are at most 256
-- routers, and each link, and the entry into each router, costs less than 2 ^ 31. A state's costs are far below.
abbrev pub has_small_costs : Network → Bool
has_small_costs w =
    nat_le (length w.routers) (limit kind.Router)
    && (list_all (λ (row : ℕ × Link). nat_lt (link_cost row.1) 2147483648) w.links
    && list_all (λ (r : RouterSeen). nat_lt (entry_cost w r) 2147483648) w.routers)

-- No candidate is better than a precedence and a total: each one's precedence comes later, or is the same, with no lower total.
abbrev pub NoneIsBetter : Network → Ask → ℕ → ℕ → Type 0
NoneIsBetter w ask place total =
    (c : Candidate) → IsCandidate w ask c → (place < c.precedence) ⊎ ((c.precedence ≡ place) × (total ≤ c.total))

-- The candidate that a claim names, with its terminator.
abbrev pub claimed_candidate : Explanation → Terminator → Candidate
claimed_candidate claim e = record {
  precedence = place_of e.precedence;
  total = claim.total;
  terminator = claim.terminator.0;
  ingress = claim.ingress.0;
  links = claim.links;
}
