-- Laws on justified claims in the network of a view: its costs are small, so that a justified claim is the best, and the explanation
-- of a request's best candidate is a justified claim.
use Rattle.std.proofs.Common.{◌≡◌, ℕ, ◌+◌, ◌<◌, ◌≤◌, max, ◌&&◌, nat_lt, nat_le, true, length, Bool, Some, Result, Ok, Err, IfOk, unwrap_or, sym, ◌∙◌, ap, subst, arith, lt-ltb}
use Rattle.std.proofs.lemmas.Bool.{and_from, le-leb}
use Rattle.std.specs.List.{list_all}
use Rattle.std.specs.declared.alloc.AllocError.{AllocError}
use Rattle.ctrl_model.specs.declared.kinds.RouterSeen.{RouterSeen}
use Rattle.ctrl_model.specs.declared.claims.Explanation.{Explanation}
use Rattle.ctrl_model.specs.ValueForms.{is_cost, is_link_cost, is_latency}
use Rattle.ctrl_model.specs.Numbered.{numbers}
use Rattle.ctrl_model.specs.State.{Link}
use Rattle.ctrl_model.specs.PlainPaths.{NoneTwice}
use Rattle.ctrl_model.specs.Networks.{link_cost, entry_cost}
use Rattle.ctrl_model.specs.Choices.{Ask, IsCandidate}
use Rattle.ctrl_model.specs.Claims.{justified, explanation_of}
use Rattle.ctrl_model.proofs.Tests.{three_parts, in_bounds}
use Rattle.ctrl_model.proofs.Members.{list_all-among, list_all-from_among}
use Rattle.model_laws.specs.ClaimedRoutes.{has_small_costs}
use Rattle.model_laws.proofs.CandidateLaws.{best-is}
use Rattle.model_laws.proofs.ClaimLaws.{IsJustified, justified-parts, justified-unbeaten, justified-candidate}
use Rattle.model_laws.proofs.ExplanationLaws.{best-justified}
use Rattle.model_laws.proofs.NumberLaws.{Between-none_twice}
use Rattle.fabric_graph.specs.FabricRules.{KeepsLinks, has_costs}
use Rattle.fabric_graph.specs.Routers.{AreRouters}
use Rattle.terminators.specs.TermTables.{KeepsTerms}
use Rattle.circuit_rules.specs.declared.views.View.{View}
use Rattle.circuit_rules.specs.Views.{network}
use Rattle.circuit_rules.specs.BestClaims.{IsBestClaim}
use Rattle.circuit_rules.specs.Explanations.{IsExplained}

-- ---- small costs

small_sum : (a b c : ℕ) → a ≤ 65535 → b ≤ 60000 → c ≤ 60000 → nat_lt (a + b + c) 2147483648 ≡ true
small_sum a b c p q r = lt-ltb (a + b + c) 2147483648 (omega arith)

small_link : (l : Link) → has_costs l ≡ true → nat_lt (link_cost l) 2147483648 ≡ true
small_link l h =
    let parts = three_parts (is_link_cost l.cost) (is_latency l.latency_a) (is_latency l.latency_b) h in
    small_sum l.cost l.latency_a l.latency_b (in_bounds 1 65535 l.cost parts.0).1 (in_bounds 0 60000 l.latency_a parts.1).1 (in_bounds 0 60000 l.latency_b parts.2).1

small_entry : (cost least : ℕ) → is_cost cost ≡ true → is_link_cost least ≡ true → nat_lt (max cost least) 2147483648 ≡ true
small_entry cost least p q = lt-ltb (max cost least) 2147483648 (bound (in_bounds 0 65535 cost p).1 (in_bounds 1 65535 least q).1)
  where
    bound : cost ≤ 65535 → least ≤ 65535 → max cost least < 2147483648
    bound a b = omega arith

-- what a view keeps of its links, its routers and its terminators
pub record IsKept (v : View) : Type 0 where
  pub links : KeepsLinks v.fabric.now
  pub routers : AreRouters v.routers.now
  pub terminators : KeepsTerms v.terminators.now

pub small_costs : (v : View) → IsKept v → has_small_costs (network v) ≡ true
small_costs v kept =
    and_from (nat_le (length v.routers.now) 256)
    (list_all (λ (row : ℕ × Link). nat_lt (link_cost row.1) 2147483648) v.fabric.now.links.rows && list_all (λ (r : RouterSeen). nat_lt (entry_cost (network v) r) 2147483648) v.routers.now)
    (le-leb (length v.routers.now) 256 kept.routers.few)
    (and_from (list_all (λ (row : ℕ × Link). nat_lt (link_cost row.1) 2147483648) v.fabric.now.links.rows)
    (list_all (λ (r : RouterSeen). nat_lt (entry_cost (network v) r) 2147483648) v.routers.now)
    (list_all-from_among (λ (row : ℕ × Link). nat_lt (link_cost row.1) 2147483648) v.fabric.now.links.rows
    (λ row m. small_link row.1 (list_all-among (λ (row : ℕ × Link). has_costs row.1) v.fabric.now.links.rows row kept.links.costs m)))
    (list_all-from_among (λ (r : RouterSeen). nat_lt (entry_cost (network v) r) 2147483648) v.routers.now
    (λ r m. small_entry r.cost v.fabric.now.least (list_all-among (λ (r : RouterSeen). is_cost r.cost) v.routers.now r kept.routers.costs m) kept.links.setting)))

once : (v : View) → IsKept v → NoneTwice (numbers (network v).terminators)
once v kept = Between-none_twice 1 v.terminators.now.terminators.next v.terminators.now.terminators.rows kept.terminators.ordered

-- ---- claims

-- a justified claim is the best
pub best_claim : (v : View) (ask : Ask) (claim : Explanation) → IsKept v → justified (network v) ask claim ≡ true → IsBestClaim (network v) ask claim
best_claim v ask claim kept holds = by_parts (justified-parts (network v) ask claim holds)
  where
    by_parts : IsJustified (network v) ask claim → IsBestClaim (network v) ask claim
    by_parts j = record {
      named = j.named;
      present = j.present;
      is_candidate = justified-candidate (network v) ask claim j (in_bounds 1 65535 v.fabric.now.least kept.links.setting).0 (once v kept);
      none_is_better = justified-unbeaten (network v) ask claim j (small_costs v kept);
    }

-- so is one that is found to be justified
pub found_best : (v : View) (ask : Ask) (claim : Explanation) (o : Result Bool AllocError) → IsKept v → IfOk o (λ yes. yes ≡ justified (network v) ask claim)
    → IfOk o (λ yes. yes ≡ true → IsBestClaim (network v) ask claim)
found_best v ask claim (Ok certified) kept is = λ t. best_claim v ask claim kept (sym is ∙ t)
found_best v ask claim (Err fault) kept is = tt

-- an explanation is a justified claim
explained_justified : (v : View) (ask : Ask) (e : Explanation) → IsKept v → IsExplained (network v) ask e → justified (network v) ask e ≡ true
explained_justified v ask e kept x = subst (λ c. justified (network v) ask c ≡ true) (sym x.explained) shown
  where
    candidate : IsCandidate (network v) ask x.chosen
    candidate = ((best-is (network v) ask x.chosen).0 x.is_best).is_candidate

    what : ask.service ≡ Some (unwrap_or ask.service 0)
    what = candidate.what ∙ ap Some (sym (ap (λ o. unwrap_or o 0) candidate.what))

    shown : justified (network v) ask (explanation_of (network v) ask (unwrap_or ask.service 0) x.chosen) ≡ true
    shown = best-justified (network v) ask (unwrap_or ask.service 0) x.chosen (small_costs v kept) (once v kept) x.passes what x.is_best

pub found_justified : (v : View) (ask : Ask) (o : Result Explanation AllocError) → IsKept v → IfOk o (IsExplained (network v) ask)
    → IfOk o (λ e. justified (network v) ask e ≡ true)
found_justified v ask (Ok e) kept is = explained_justified v ask e kept is
found_justified v ask (Err fault) kept is = tt

pub explained_best : (v : View) (ask : Ask) (o : Result Explanation AllocError) → IsKept v → IfOk o (IsExplained (network v) ask)
    → IfOk o (IsBestClaim (network v) ask)
explained_best v ask (Ok e) kept is = best_claim v ask e kept (explained_justified v ask e kept is)
explained_best v ask (Err fault) kept is = tt
