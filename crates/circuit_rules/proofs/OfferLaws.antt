-- Laws on the terminators where a circuit may end.
use Rattle.std.proofs.Common.{◌≡◌, ℕ, ◌==◌, ◌||◌, Bool, true, false, not, cond, List, [], ◌∷◌, length, map, Option, Some, None, inl, inr, refl, sym, ◌∙◌, ap, ap₂}
use Rattle.std.proofs.lemmas.Bool.{false≢true}
use Rattle.std.specs.List.{list_any, filter, filter_map, cons_option}
use Rattle.std.specs.Option.{option_map, option_map_or}
use Rattle.ctrl_model.specs.declared.refusals.Denial.TheVariants.{NoTerminators, NoAdmissibleTerminator}
use Rattle.ctrl_model.specs.Membership.{Among}
use Rattle.ctrl_model.specs.Matches.{is_nothing}
use Rattle.ctrl_model.specs.Numbered.{at, numbers, Between}
use Rattle.ctrl_model.specs.PlainPaths.{NoneTwice}
use Rattle.ctrl_model.specs.State.{Terminator}
use Rattle.ctrl_model.specs.Networks.{Network, is_counted, is_in_service, counted, admissible}
use Rattle.ctrl_model.specs.Choices.{first_denial}
use Rattle.ctrl_model.proofs.Members.{by_filter, by_something, something}
use Rattle.model_laws.proofs.NumberLaws.{at-unique, Between-none_twice}
use Rattle.circuit_rules.specs.declared.offers.Offer.{Offer}
use Rattle.circuit_rules.specs.Offers.{offer_of, offer_at}
use Rattle.circuit_rules.specs.Searched.{offer_rules, counts}

-- an admissible terminator is one of the network's
admissible-present : (w : Network) (s : ℕ) (instance : List ℕ) (e : ℕ × Terminator) → Among e (admissible w s instance) → Among e w.terminators
admissible-present w s instance e m =
    by_filter (is_in_service w) (counted w s instance) e m (λ n _. by_filter (is_counted s instance) w.terminators e n (λ k _. k))

-- what is looked up by the numbers of some terminators is what they offer
looked_up : (w : Network) (es : List (ℕ × Terminator)) → ((e : ℕ × Terminator) → Among e es → at w.terminators e.0 ≡ Some e.1) → filter_map (offer_at w) (numbers es) ≡ map (offer_of w) es
looked_up w [] there = refl
looked_up w (e ∷ es) there =
    ap (λ o. cons_option (option_map (λ t. offer_of w (e.0, t)) o) (filter_map (offer_at w) (numbers es))) (there e (inl refl))
    ∙ ap (λ os. offer_of w e ∷ os) (looked_up w es (λ d m. there d (inr m)))

-- the offers of the admissible terminators, looked up by their numbers
pub offers-admissible : (w : Network) (s next : ℕ) (instance : List ℕ) → Between 1 next w.terminators
    → filter_map (offer_at w) (numbers (admissible w s instance)) ≡ map (offer_of w) (admissible w s instance)
offers-admissible w s next instance ordered =
    looked_up w (admissible w s instance) (λ e m.
    at-unique w.terminators (Between-none_twice 1 next w.terminators ordered) e (admissible-present w s instance e m))

-- what a filter leaves is nothing exactly where nothing passes
nothing-filter : {X : Type 0} (p : X → Bool) (xs : List X) → is_nothing (filter p xs) ≡ not (list_any p xs)
nothing-filter p [] = refl
nothing-filter p (x ∷ xs) = apart (p x) (nothing-filter p xs)
  where
    apart : (b : Bool) → is_nothing (filter p xs) ≡ not (list_any p xs) → is_nothing (cond b (x ∷ filter p xs) (filter p xs)) ≡ not (b || list_any p xs)
    apart true h = refl
    apart false h = h

any_counts : (w : Network) (s : ℕ) (instance : List ℕ) → NoneTwice (numbers w.terminators) → (es : List (ℕ × Terminator)) → ((e : ℕ × Terminator) → Among e es → Among e w.terminators)
    → list_any (counts w s instance) (numbers es) ≡ list_any (is_counted s instance) es
any_counts w s instance once [] present = refl
any_counts w s instance once (e ∷ es) present =
    ap₂ (λ (o : Option Terminator) rest. option_map_or (λ t. is_counted s instance (e.0, t)) o false || rest)
    (at-unique w.terminators once e (present e (inl refl)))
    (any_counts w s instance once es (λ x m. present x (inr m)))

-- the request counts no terminator exactly where it counts that of no number
pub nothing_counted : (w : Network) (s : ℕ) (instance : List ℕ) → NoneTwice (numbers w.terminators)
    → is_nothing (counted w s instance) ≡ not (list_any (counts w s instance) (numbers w.terminators))
nothing_counted w s instance once =
    nothing-filter (is_counted s instance) w.terminators ∙ ap not (sym (any_counts w s instance once w.terminators (λ x m. m)))

-- ---- the rules on terminators

offers-nothing : (w : Network) (es : List (ℕ × Terminator)) → [] ≡ map (offer_of w) es → is_nothing es ≡ true
offers-nothing w [] e = refl
offers-nothing w (x ∷ es) e = absurd (cc)

offers-something : (w : Network) (es : List (ℕ × Terminator)) → (map (offer_of w) es ≡ [] → ⊥) → is_nothing es ≡ false
offers-something w [] k = absurd (k refl)
offers-something w (x ∷ es) k = refl

pub offers-pass : (w : Network) (s : ℕ) (instance : List ℕ) (os : List Offer) → os ≡ map (offer_of w) (admissible w s instance) → (os ≡ [] → ⊥) → first_denial (offer_rules w s instance) ≡ None
offers-pass w s instance os is there = both (is_nothing (counted w s instance)) (is_nothing (admissible w s instance)) some_counted some
  where
    some : is_nothing (admissible w s instance) ≡ false
    some = offers-something w (admissible w s instance) (λ e. there (is ∙ e))

    some_counted : is_nothing (counted w s instance) ≡ false
    some_counted = by_something (admissible w s instance) some (λ e m. by_filter (is_in_service w) (counted w s instance) e m (λ n _. something (counted w s instance) e n))

    both : (a b : Bool) → a ≡ false → b ≡ false → cond a (Some NoTerminators) (cond b (Some NoAdmissibleTerminator) None) ≡ None
    both a b p q = ap₂ (λ x y. cond x (Some NoTerminators) (cond y (Some NoAdmissibleTerminator) None)) p q

pub none_admissible : (w : Network) (s : ℕ) (instance : List ℕ) (os : List Offer) (b : Bool) → os ≡ map (offer_of w) (admissible w s instance) → os ≡ []
    → is_nothing (counted w s instance) ≡ not b → first_denial (offer_rules w s instance) ≡ cond b (Some NoAdmissibleTerminator) (Some NoTerminators)
none_admissible w s instance os b is none counted_is =
    ap₂ (λ x y. cond x (Some NoTerminators) (cond y (Some NoAdmissibleTerminator) None)) counted_is (offers-nothing w (admissible w s instance) (sym none ∙ is))
    ∙ apart b
  where
    apart : (b : Bool) → cond (not b) (Some NoTerminators) (cond true (Some NoAdmissibleTerminator) None) ≡ cond b (Some NoAdmissibleTerminator) (Some NoTerminators)
    apart true = refl
    apart false = refl

-- where a test says whether a list has no length and does not hold, the list has something in it
pub not_empty : {X : Type 0} (b : Bool) (n : ℕ) (xs : List X) → n ≡ length xs → b ≡ (n == 0) → b ≡ false → xs ≡ [] → ⊥
not_empty b n xs len k e h = false≢true (sym e ∙ k ∙ ap (λ m. m == 0) len ∙ ap (λ ys. length ys == 0) h)
