-- Laws on the first rule that fails.
use Rattle.std.proofs.Common.{◌≡◌, ℕ, ◌==◌, ◌⊎◌, inl, inr, Bool, true, false, cond, List, [], ◌∷◌, ◌++◌, map, Option, Some, None, refl, sym, subst, ◌∙◌, ap}
use Rattle.std.specs.Option.{option_map_or}
use Rattle.ctrl_model.specs.declared.commands.Command.TheVariants.{CreateCircuit}
use Rattle.ctrl_model.specs.declared.refusals.Denial.{Denial}
use Rattle.ctrl_model.specs.declared.refusals.Denial.TheVariants.{NoDial, NoSharedRouter, SharedRoutersOffline, NoTerminators, NoAdmissibleTerminator, NoPath, CircuitsFull}
use Rattle.ctrl_model.specs.declared.refusals.Refusal.TheVariants.{Denied}
use Rattle.ctrl_model.specs.declared.replies.Reply.TheVariants.{Refused}
use Rattle.ctrl_model.specs.Choices.{Any, Candidate, best, shared, ingresses, candidates_for, first_denial, first_rule, rules_but_paths, rules_on_paths}
use Rattle.ctrl_model.specs.CircuitCommands.{after_create_circuit, ask_of, decided, granted_reply}
use Rattle.ctrl_model.specs.Controller.{carry}
use Rattle.ctrl_model.specs.Matches.{is_nothing}
use Rattle.ctrl_model.specs.Networks.{Network, network_of, counted, admissible}
use Rattle.ctrl_model.specs.Numbered.{numbers}
use Rattle.ctrl_model.specs.Settling.{settle}
use Rattle.ctrl_model.specs.State.{State}
use Rattle.policy_advisor.specs.declared.entering.Entries.{Entries}
use Rattle.policy_advisor.specs.declared.offering.Offers.{Offers}
use Rattle.policy_advisor.specs.Advice.{advice_of, failing_rule, of_both, plain_ask, router_numbers}
use Rattle.policy_advisor.specs.Steps.{rule_by}

-- ---- by what was found

nothing-map : {X Y : Type 0} (f : X → Y) (xs : List X) → is_nothing (map f xs) ≡ is_nothing xs
nothing-map f [] = refl
nothing-map f (x ∷ xs) = refl

-- the rule by what was found of each is that of the network
pub rule-is : (w : Network) (i j : Option ℕ) (dial : ℕ) (entries : Entries) (offers : Offers) → dial ≡ of_both i j 0 w.dial
    → entries.common ≡ of_both i j [] (λ i s. router_numbers (shared w Any i s)) → entries.online ≡ of_both i j [] (λ i s. router_numbers (ingresses w Any i s))
    → offers.terminators ≡ option_map_or (λ s. numbers (counted w s [])) j [] → offers.admissible ≡ option_map_or (λ s. numbers (admissible w s [])) j []
    → rule_by i j dial entries offers ≡ failing_rule w i j
rule-is w None j dial entries offers d c o t a = refl
rule-is w (Some i) None dial entries offers d c o t a = refl
rule-is w (Some i) (Some s) dial entries offers d c o t a = λ k. first_denial (
    (d k == 0, NoDial)
    ∷ ((ap is_nothing c ∙ nothing-map (λ r. r.no.0) (shared w Any i s)) k, NoSharedRouter)
    ∷ ((ap is_nothing o ∙ nothing-map (λ r. r.no.0) (ingresses w Any i s)) k, SharedRoutersOffline)
    ∷ ((ap is_nothing t ∙ nothing-map (λ e. e.0) (counted w s [])) k, NoTerminators)
    ∷ ((ap is_nothing a ∙ nothing-map (λ e. e.0) (admissible w s [])) k, NoAdmissibleTerminator)
    ∷ [])

-- ---- the rules of a request

-- the first of some rules that fails is the first of more behind them
first-front : (xs ys : List (Bool × Denial)) (d : Denial) → first_denial xs ≡ Some d → first_denial (xs ++ ys) ≡ Some d
first-front [] ys d e = absurd (cc)
first-front (x ∷ xs) ys d e = by x.0 e (first-front xs ys d)
  where
    by : (b : Bool) → cond b (Some x.1) (first_denial xs) ≡ Some d → (first_denial xs ≡ Some d → first_denial (xs ++ ys) ≡ Some d) → cond b (Some x.1) (first_denial (xs ++ ys)) ≡ Some d
    by true e k = e
    by false e k = k e

-- where none of them fails it is the first of those behind
first-behind : (xs ys : List (Bool × Denial)) → first_denial xs ≡ None → first_denial (xs ++ ys) ≡ first_denial ys
first-behind [] ys e = refl
first-behind (x ∷ xs) ys e = by x.0 e (first-behind xs ys)
  where
    by : (b : Bool) → cond b (Some x.1) (first_denial xs) ≡ None → (first_denial xs ≡ None → first_denial (xs ++ ys) ≡ first_denial ys) → cond b (Some x.1) (first_denial (xs ++ ys)) ≡ first_denial ys
    by true e k = absurd (cc)
    by false e k = k e

rule-first : (w : Network) (i j : Option ℕ) (d : Denial) → failing_rule w i j ≡ Some d → first_rule w (plain_ask i j) ≡ Some d
rule-first w None j d e = e
rule-first w (Some i) None d e = e
rule-first w (Some i) (Some s) d e =
    first-front (rules_but_paths w (plain_ask (Some i) (Some s)) i s) (rules_on_paths w (plain_ask (Some i) (Some s)) i s) d e

pub advised-first : (s : State) (identity service : List ℕ) (d : Denial) → (advice_of s identity service).rule ≡ Some d → first_rule (network_of s) (ask_of identity service None [] s) ≡ Some d
advised-first s identity service d e = rule-first (network_of s) (ask_of identity service None [] s).identity (ask_of identity service None [] s).service d e

-- a request of which the rule fails is denied by it
pub advised-denied : (s : State) (identity service : List ℕ) (d : Denial) → (advice_of s identity service).rule ≡ Some d
    → carry (CreateCircuit identity service None []) s ≡ (Refused (Denied d), s)
advised-denied s identity service d e =
    let ask = ask_of identity service None [] s in
    ap (λ o. decided o (best (network_of s) ask) (λ x. (Refused (Denied x), s)) (λ (c : Candidate). (granted_reply c s, settle (after_create_circuit ask c s)))) (advised-first s identity service d e)

-- the rules on paths and on room
abbrev pub MayFailBehind : Option Denial → Type 0
MayFailBehind o = (o ≡ None) ⊎ ((o ≡ Some NoPath) ⊎ (o ≡ Some CircuitsFull))

behind : (a b : Bool) → MayFailBehind (cond a (Some NoPath) (cond b (Some CircuitsFull) None))
behind true b = inr (inl refl)
behind false true = inr (inr refl)
behind false false = inl refl

rule-none : (w : Network) (i j : Option ℕ) → failing_rule w i j ≡ None → MayFailBehind (first_rule w (plain_ask i j))
rule-none w None j e = absurd (cc)
rule-none w (Some i) None e = absurd (cc)
rule-none w (Some i) (Some s) e =
    subst MayFailBehind (sym (first-behind (rules_but_paths w (plain_ask (Some i) (Some s)) i s) (rules_on_paths w (plain_ask (Some i) (Some s)) i s) e))
    (behind (is_nothing (candidates_for w (plain_ask (Some i) (Some s)) i s)) w.full)

pub advised-none : (s : State) (identity service : List ℕ) → (advice_of s identity service).rule ≡ None
    → MayFailBehind (first_rule (network_of s) (ask_of identity service None [] s))
advised-none s identity service e = rule-none (network_of s) (ask_of identity service None [] s).identity (ask_of identity service None [] s).service e
