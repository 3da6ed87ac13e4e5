-- How an explanation is made of a graph by places. No public contract cites it.
use Rattle.std.specs.Prelude.{◌≡◌, ℕ, true, List, map, filter}
use Rattle.ctrl_model.specs.declared.claims.Explanation.{Explanation}
use Rattle.ctrl_model.specs.declared.claims.Reach.{Reach}
use Rattle.ctrl_model.specs.Networks.{Network, is_on}
use Rattle.ctrl_model.specs.Claims.{router_numbers, reach_of}
use Rattle.circuit_rules.specs.declared.views.Route.{Route}
use Rattle.circuit_rules.specs.declared.offers.Offer.{Offer}
use Rattle.circuit_rules.specs.Offers.{is_carried}

-- Each router that carries one of the offers, of a precedence of at most a place, is present and connected.
abbrev pub AreOn : Network → List Offer → ℕ → Type 0
AreOn w offers place = (r : ℕ) → is_carried offers place r ≡ true → is_on w r ≡ true

-- The least costs to each router that carries one of the offers, of a precedence of at most a place.
abbrev pub potentials_of : Network → List Offer → ℕ → List Reach
potentials_of w offers place = map (reach_of w) (filter (is_carried offers place) (router_numbers w))

-- A route with these least costs.
abbrev pub explained : Network → List Offer → ℕ → Route → Explanation
explained w offers place r = record {
  ingress = r.ingress;
  links = r.links;
  potentials = potentials_of w offers place;
  routers = router_numbers w;
  terminator = r.terminator;
  total = r.total;
}
