-- Laws on the rules of a request: none fails exactly where the request is granted.
use Rattle.std.proofs.Common.{◌≡◌, ℕ, ◌==◌, Bool, true, false, cond, ◌↔◌, List, [], ◌∷◌, Option, Some, None, refl, sym, ◌∙◌, ap, subst, subst₂}
use Rattle.std.proofs.lemmas.Bool.{false≢true}
use Rattle.std.proofs.lemmas.Option.{same_Some}
use Rattle.std.specs.Option.{option_map_or}
use Rattle.std.specs.List.{AllByRecursion}
use Rattle.ctrl_model.specs.declared.refusals.Denial.{Denial}
use Rattle.ctrl_model.specs.declared.refusals.Denial.TheVariants.{UnknownIdentity, UnknownService}
use Rattle.ctrl_model.specs.Membership.{Among}
use Rattle.ctrl_model.specs.Networks.{Network}
use Rattle.ctrl_model.specs.Choices.{Ask, Wanted, Any, Absent, One, Candidate, rank, IsCandidate, IsGranted, is_wanted, is_absent, candidates, candidates_for, best, first_denial, failing, first_rule}
use Rattle.ctrl_model.proofs.Members.{by_something, something}
use Rattle.model_laws.proofs.BestLaws.{least_by-there}
use Rattle.model_laws.proofs.CandidateLaws.{Among-shared, Among-ingresses, Among-counted, Among-admissible, Among-candidates_for, candidates-for, best-is}

-- ---- rules in order

-- no rule fails
abbrev pub NoneFails : List (Bool × Denial) → Type 0
NoneFails xs = AllByRecursion (λ (x : Bool × Denial). x.0 ≡ false) xs

pub first_denial-none : (xs : List (Bool × Denial)) → first_denial xs ≡ None → NoneFails xs
first_denial-none [] e = tt
first_denial-none (x ∷ xs) e = apart x.0 refl e (first_denial-none xs)
  where
    apart : (b : Bool) → x.0 ≡ b → cond b (Some x.1) (first_denial xs) ≡ None → (first_denial xs ≡ None → NoneFails xs) → NoneFails (x ∷ xs)
    apart true is e k = absurd (cc)
    apart false is e k = (is, k e)

pub none_first_denial : (xs : List (Bool × Denial)) → NoneFails xs → first_denial xs ≡ None
none_first_denial [] a = refl
none_first_denial (x ∷ xs) a = ap (λ b. cond b (Some x.1) (first_denial xs)) a.0 ∙ none_first_denial xs a.1

-- ---- what is there

-- with a denial where nothing is there, no denial says that something is there
by_given : {A B P : Type 0} (f : A → Option B) (o : Option A) (d : B) → option_map_or f o (Some d) ≡ None → ((x : A) → o ≡ Some x → f x ≡ None → P) → P
by_given f None d e k = absurd (cc)
by_given f (Some x) d e k = k x refl e

-- a wanted ingress is not absent
is_wanted-there : (wanted : Wanted) (r : ℕ) → is_wanted wanted r ≡ true → is_absent wanted ≡ false
is_wanted-there Any r e = refl
is_wanted-there Absent r e = absurd (false≢true e)
is_wanted-there (One n) r e = refl

-- ---- the rules of a request

granted : (w : Network) (ask : Ask) → first_rule w ask ≡ None → IsGranted w ask
granted w ask e =
    by_given (λ i. option_map_or (λ s. first_denial (failing w ask i s)) ask.service (Some UnknownService)) ask.identity UnknownIdentity e (λ i who e2.
    by_given (λ s. first_denial (failing w ask i s)) ask.service UnknownService e2 (λ s what e3.
    passed i s who what (first_denial-none (failing w ask i s) e3)))
  where
    chosen : (i s : ℕ) → ask.identity ≡ Some i → ask.service ≡ Some s → (w.dial i s == 0) ≡ false → w.full ≡ false → (c : Candidate) → Among c (candidates w ask)
        → (o : Option Candidate) → best w ask ≡ o → IsGranted w ask
    chosen i s who what dials room c m None is = absurd (least_by-there rank (candidates w ask) c m is)
    chosen i s who what dials room c m (Some b) is =
        record { identity = i; service = s; who = who; what = what; dials = dials; chosen = b; is_chosen = is; room = room }

    -- the seventh rule is on candidates, and the eighth on room
    passed : (i s : ℕ) → ask.identity ≡ Some i → ask.service ≡ Some s → NoneFails (failing w ask i s) → IsGranted w ask
    passed i s who what a =
        by_something (candidates_for w ask i s) a.1.1.1.1.1.1.0 (λ c m.
        chosen i s who what a.1.0 a.1.1.1.1.1.1.1.0 c (subst (Among c) (sym (candidates-for w ask i s who what)) m) (best w ask) refl)

no_rule_fails : (w : Network) (ask : Ask) → IsGranted w ask → first_rule w ask ≡ None
no_rule_fails w ask g = with_candidate ((best-is w ask g.chosen).0 g.is_chosen).is_candidate
  where
    with_candidate : IsCandidate w ask g.chosen → first_rule w ask ≡ None
    with_candidate k =
        ap (λ o. option_map_or (λ i. option_map_or (λ s. first_denial (failing w ask i s)) ask.service (Some UnknownService)) o (Some UnknownIdentity)) k.who
        ∙ (ap (λ o. option_map_or (λ s. first_denial (failing w ask k.identity s)) o (Some UnknownService)) k.what
        ∙ none_first_denial (failing w ask k.identity k.service) (
          is_wanted-there ask.ingress k.router.no.0 k.enters.wanted,
          (
            dials,
            (
              something _ k.router (Among-shared w ask.ingress k.identity k.service k.router k.enters),
              (
                something _ k.router (Among-ingresses w ask.ingress k.identity k.service k.router k.enters),
                (
                  something _ k.terminator (Among-counted w k.service ask.instance k.terminator k.ends),
                  (
                    something _ k.terminator (Among-admissible w k.service ask.instance k.terminator k.ends),
                    (
                      something _ g.chosen (Among-candidates_for w ask g.chosen k),
                      (g.room, tt),
                    ),
                  ),
                ),
              ),
            ),
          ),
        ))
      where
        dials : (w.dial k.identity k.service == 0) ≡ false
        dials = subst₂ (λ i s. (w.dial i s == 0) ≡ false) (same_Some g.identity k.identity (sym g.who ∙ k.who)) (same_Some g.service k.service (sym g.what ∙ k.what)) g.dials

pub first_rule-none : (w : Network) (ask : Ask) → (first_rule w ask ≡ None) ↔ IsGranted w ask
first_rule-none w ask = (granted w ask, no_rule_fails w ask)
