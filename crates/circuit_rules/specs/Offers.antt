-- What terminators offer to routes, as the private functions have it. No public contract cites it.
use Rattle.std.specs.Prelude.{ℕ, ◌==◌, Bool, ◌&&◌, nat_le, List}
use Rattle.std.specs.declared.option.Option.{Option}
use Rattle.std.specs.List.{list_any}
use Rattle.std.specs.Option.{option_map}
use Rattle.ctrl_model.specs.Numbered.{at}
use Rattle.ctrl_model.specs.State.{Terminator}
use Rattle.ctrl_model.specs.Choices.{place_of, terminator_cost}
use Rattle.ctrl_model.specs.Networks.{Network}
use Rattle.circuit_rules.specs.declared.offers.Offer.{Offer}

-- What a terminator of a network offers to routes.
abbrev pub offer_of : Network → ℕ × Terminator → Offer
offer_of w e =
    record { terminator = record { 0 = e.0 }; router = record { 0 = e.1.router }; cost = terminator_cost w e; precedence = e.1.precedence }

-- What the terminator of a number offers, if it is present.
abbrev pub offer_at : Network → ℕ → Option Offer
offer_at w n = option_map (λ e. offer_of w (n, e)) (at w.terminators n)

-- Whether one of these stands on a router and has a precedence of at most a place.
abbrev pub is_carried : List Offer → ℕ → ℕ → Bool
is_carried offers place r = list_any (λ o. (o.router.0 == r) && nat_le (place_of o.precedence) place) offers
