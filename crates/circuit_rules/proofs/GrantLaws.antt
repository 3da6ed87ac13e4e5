-- Laws on a route that is granted: what its terminator offers, and its explanation.
use Rattle.std.proofs.Common.{◌≡◌, ℕ, Some, map, sym, ◌∙◌, ap, ap₂, unwrap_or, Result, Ok, Err, IfOk}
use Rattle.std.proofs.lemmas.Option.{same_Some}
use Rattle.std.specs.Option.{option_map}
use Rattle.std.specs.declared.alloc.AllocError.{AllocError}
use Rattle.ctrl_model.specs.declared.claims.Explanation.{Explanation}
use Rattle.ctrl_model.specs.Numbered.{numbers}
use Rattle.ctrl_model.specs.PlainPaths.{NoneTwice}
use Rattle.ctrl_model.specs.Networks.{Network, admissible}
use Rattle.ctrl_model.specs.Choices.{Ask, Candidate, IsCandidate, place_of}
use Rattle.ctrl_model.specs.Claims.{router_numbers, reach_of, explained_routers, explanation_of}
use Rattle.model_laws.proofs.CandidateLaws.{best-is}
use Rattle.model_laws.proofs.NumberLaws.{at-unique}
use Rattle.circuit_rules.specs.declared.views.Route.{Route}
use Rattle.circuit_rules.specs.Decisions.{Grants}
use Rattle.circuit_rules.specs.declared.offers.Offer.{Offer}
use Rattle.circuit_rules.specs.Offers.{offer_of, offer_at}
use Rattle.circuit_rules.specs.Explanations.{IsExplained}
use Rattle.circuit_rules.specs.Reached.{explained}
use Rattle.circuit_rules.proofs.PartLaws.{carrying}

-- the candidate of a route that is granted
abbrev candidate_of : (w : Network) (ask : Ask) (r : Route) (k : Grants w ask r) → IsCandidate w ask k.chosen
candidate_of w ask r k = ((best-is w ask k.chosen).0 k.is_best).is_candidate

-- what its terminator offers
pub offered : (w : Network) (ask : Ask) (r : Route) (k : Grants w ask r) → NoneTwice (numbers w.terminators)
    → offer_at w r.terminator.0 ≡ Some (offer_of w (candidate_of w ask r k).terminator)
offered w ask r k once =
    ap (offer_at w) (ap (λ (q : Route). q.terminator.0) k.route ∙ sym (ap (λ (c : Candidate). c.terminator) (candidate_of w ask r k).told))
    ∙ ap (λ o. option_map (λ e. offer_of w ((candidate_of w ask r k).terminator.0, e)) o) (at-unique w.terminators once (candidate_of w ask r k).terminator (candidate_of w ask r k).ends.present)

-- the explanation of a candidate, with the entries of a place
abbrev explained_at : Network → Ask → Candidate → ℕ → ℕ → Explanation
explained_at w ask c s place = record {
  ingress = record { 0 = c.ingress };
  links = c.links;
  potentials = map (reach_of w) (explained_routers w ask s place);
  routers = router_numbers w;
  terminator = record { 0 = c.terminator };
  total = c.total;
}

pub explained-is : (w : Network) (ask : Ask) (r : Route) (k : Grants w ask r) (s : ℕ) (o : Offer) → NoneTwice (numbers w.terminators) → ask.service ≡ Some s
    → offer_at w r.terminator.0 ≡ Some o
    → explained w (map (offer_of w) (admissible w s ask.instance)) (place_of o.precedence) r ≡ explanation_of w ask (unwrap_or ask.service 0) k.chosen
explained-is w ask r k s o once what is =
    ap (explained w (map (offer_of w) (admissible w s ask.instance)) (place_of o.precedence)) k.route
    ∙ ap (λ ns. record (explained_at w ask k.chosen s (place_of o.precedence)) { potentials = map (reach_of w) ns }) (carrying w ask s (place_of o.precedence))
    ∙ ap₂ (explained_at w ask k.chosen) (sym (ap (λ p. unwrap_or p 0) what)) place
  where
    same : o ≡ offer_of w (candidate_of w ask r k).terminator
    same = same_Some o (offer_of w (candidate_of w ask r k).terminator) (sym is ∙ offered w ask r k once)

    place : place_of o.precedence ≡ k.chosen.precedence
    place = ap (λ (p : Offer). place_of p.precedence) same ∙ ap (λ (c : Candidate). c.precedence) (candidate_of w ask r k).told

-- what is answered for a route that is granted explains it, if it is the explanation
pub explains : (w : Network) (ask : Ask) (r : Route) (k : Grants w ask r) (o : Result Explanation AllocError) (x : Explanation) → x ≡ explanation_of w ask (unwrap_or ask.service 0) k.chosen
    → IfOk o (λ e. e ≡ x) → IfOk o (IsExplained w ask)
explains w ask r k (Ok e) x same is = record { passes = k.passes; chosen = k.chosen; is_best = k.is_best; explained = is ∙ same }
explains w ask r k (Err fault) x same is = tt
