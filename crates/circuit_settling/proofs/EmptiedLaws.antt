-- The pairs that are granted no more by some steps are told one step after another.
use Rattle.std.proofs.Common.{◌≡◌, ℕ, zero, suc, ◌+◌, ◌<◌, ◌==◌, nat_lt, Bool, true, false, not, ◌&&◌, cond, List, [], ◌∷◌, length, take, get_or, refl, sym, ◌∙◌, ap, ap₂, subst, arith, eqb-true, eq-eqb, lt-ltb}
use Rattle.std.proofs.lemmas.Bool.{and_parts, and_from, false≢true, ltb-false}
use Rattle.std.proofs.lemmas.List.Sums.{sum_by-cons}
use Rattle.std.specs.List.{count_by}
use Rattle.ctrl_model.specs.declared.kinds.Relation.{Relation}
use Rattle.ctrl_model.specs.declared.kinds.Relation.TheVariants.{Dial, Bind, IdentityRouter, ServiceRouter}
use Rattle.grant_denorm.specs.declared.deltas.Delta.{Delta}
use Rattle.grant_denorm.specs.CountsAfter.{count_after}
use Rattle.grant_denorm.specs.Deltas.{downs, is_at}
use Rattle.grant_denorm.specs.PairCounts.{Raises, count_of, same_pair}
use Rattle.grant_denorm.specs.TakenSteps.{Taken}
use Rattle.policy_store.specs.declared.steps.GrantSteps.{GrantSteps}
use Rattle.policy_store.specs.StepsOfRelations.{steps_of}
use Rattle.circuit_settling.specs.declared.granting.GrantsAfter.{GrantsAfter}
use Rattle.circuit_settling.specs.declared.emptying.Pairs.{Pairs}
use Rattle.circuit_settling.specs.EmptiedPairs.{TellEmptied, counts_after, empties, pairs_of}

-- up to behind a place there are those up to it and the one there
up_to_next : {X : Type 0} (p : X → Bool) (xs : List X) (i : ℕ) (z : X) → i < length xs → count_by p (take (suc i) xs) ≡ count_by p (take i xs) + cond (p (get_or xs i z)) 1 0
up_to_next p [] i z h = absurd (omega (arith, h))
up_to_next p (x ∷ xs) zero z h = let one = sum_by-cons (λ y. cond (p y) 1 0) x [] in omega (arith, one)
up_to_next p (x ∷ xs) (suc i) z h =
    let rest = up_to_next p xs i z (omega (arith, h)) in
    let before = sum_by-cons (λ y. cond (p y) 1 0) x (take i xs) in
    let behind = sum_by-cons (λ y. cond (p y) 1 0) x (take (suc i) xs) in omega (arith, rest, before, behind)

-- the place behind one
behind : (i : ℕ) → suc i ≡ i + 1
behind i = omega arith

-- a step at a pair is of its numbers
at_pair : (a b : ℕ) (d : Delta) → is_at a b d ≡ true → (d.a ≡ a) × (d.b ≡ b)
at_pair a b d e = let both = and_parts (d.a == a) (d.b == b) e in (eqb-true d.a a both.0, eqb-true d.b b both.1)

-- what is not above 0 is 0
no_more : (n : ℕ) → nat_lt 0 n ≡ false → n ≡ 0
no_more n e = let most = ltb-false 0 n e in omega (arith, most)

module _ (ds : List Delta) (after : ℕ → ℕ → ℕ) (i : ℕ) (z : Delta) (within : i < length ds) where
  abbrev d : Delta
  d = get_or ds i z

  -- whether the step goes down at a pair
  abbrev falls : ℕ → ℕ → Bool
  falls a b = not d.up && is_at a b d

  -- where it does, one more does
  one_more : (a b : ℕ) → falls a b ≡ true → nat_lt 0 (downs (take (suc i) ds) a b) ≡ true
  one_more a b e =
      let all = up_to_next (λ x. not x.up && is_at a b x) ds i z within in
      let here : ◌≡◌ {A = ℕ} (cond (falls a b) 1 0) 1 = ap (λ t. cond t 1 0) e in lt-ltb 0 (downs (take (suc i) ds) a b) (omega (arith, all, here))

  -- and where it does not, as many do
  as_many : (a b : ℕ) → falls a b ≡ false → downs (take (suc i) ds) a b ≡ downs (take i ds) a b
  as_many a b e =
      let all = up_to_next (λ x. not x.up && is_at a b x) ds i z within in
      let here : ◌≡◌ {A = ℕ} (cond (falls a b) 1 0) 0 = ap (λ t. cond t 1 0) e in omega (arith, all, here)

  -- a pair at which the step does not go down, and whose count stays, is told as before
  elsewhere : (old new : List ((ℕ × ℕ) × ℕ)) → TellEmptied (take i ds) after old → (a b : ℕ) → falls a b ≡ false → count_of new a b ≡ count_of old a b
      → nat_lt 0 (count_of new a b) ≡ (nat_lt 0 (downs (take (suc i) ds) a b) && (after a b == 0))
  elsewhere old new so_far a b e same = ap (nat_lt 0) same ∙ so_far a b ∙ ap (λ n. nat_lt 0 n && (after a b == 0)) (sym (as_many a b e))

  pub raised : (old new : List ((ℕ × ℕ) × ℕ)) → empties after old d ≡ true → Raises old new d.a d.b → TellEmptied (take i ds) after old → TellEmptied (take (i + 1) ds) after new
  raised old new one raise so_far = subst (λ n. TellEmptied (take n ds) after new) (behind i) (λ a b. by a b (falls a b) refl)
    where
      down : not d.up ≡ true
      down = (and_parts (not d.up) ((after d.a d.b == 0) && (count_of old d.a d.b == 0)) one).0

      ended : (after d.a d.b == 0) ≡ true
      ended = (and_parts (after d.a d.b == 0) (count_of old d.a d.b == 0) (and_parts (not d.up) ((after d.a d.b == 0) && (count_of old d.a d.b == 0)) one).1).0

      by : (a b : ℕ) (t : Bool) → falls a b ≡ t → nat_lt 0 (count_of new a b) ≡ (nat_lt 0 (downs (take (suc i) ds) a b) && (after a b == 0))
      by a b true e =
          let at = at_pair a b d (and_parts (not d.up) (is_at a b d) e).1 in
          let here = and_from _ _ (eq-eqb a d.a (sym at.0)) (eq-eqb b d.b (sym at.1)) in
          let there : ◌≡◌ {A = ℕ} (cond (same_pair (a, b) (d.a, d.b)) 1 0) 1 = ap (λ t. cond t 1 0) here in
          let more = raise a b in
          lt-ltb 0 (count_of new a b) (omega (arith, more, there)) ∙ sym (and_from _ _ (one_more a b e) (ap₂ (λ p q. after p q == 0) (sym at.0) (sym at.1) ∙ ended))
      by a b false e = elsewhere old new so_far a b e (still (same_pair (a, b) (d.a, d.b)) refl)
        where
          still : (t : Bool) → same_pair (a, b) (d.a, d.b) ≡ t → count_of new a b ≡ count_of old a b
          still true f =
              let both = and_parts (a == d.a) (b == d.b) f in
              absurd (false≢true (sym e ∙ and_from _ _ down (and_from _ _ (eq-eqb d.a a (sym (eqb-true a d.a both.0))) (eq-eqb d.b b (sym (eqb-true b d.b both.1))))))
          still false f =
              let none : ◌≡◌ {A = ℕ} (cond (same_pair (a, b) (d.a, d.b)) 1 0) 0 = ap (λ t. cond t 1 0) f in
              let more = raise a b in omega (arith, more, none)

  pub passed : (old : List ((ℕ × ℕ) × ℕ)) → empties after old d ≡ false → TellEmptied (take i ds) after old → TellEmptied (take (i + 1) ds) after old
  passed old not_one so_far = subst (λ n. TellEmptied (take n ds) after old) (behind i) (λ a b. by a b (falls a b) refl)
    where
      -- where the step goes down, the pair keeps a count, or is told already
      told : (a b : ℕ) → falls a b ≡ true → (v : Bool) → (after a b == 0) ≡ v → (w : Bool) → nat_lt 0 (count_of old a b) ≡ w
          → nat_lt 0 (count_of old a b) ≡ (nat_lt 0 (downs (take (suc i) ds) a b) && (after a b == 0))
      told a b e false f w g =
          so_far a b ∙ ap (λ v. nat_lt 0 (downs (take i ds) a b) && v) f ∙ none (nat_lt 0 (downs (take i ds) a b))
          ∙ sym (ap (λ v. nat_lt 0 (downs (take (suc i) ds) a b) && v) f ∙ none (nat_lt 0 (downs (take (suc i) ds) a b)))
        where
          none : (t : Bool) → (t && false) ≡ false
          none true = refl
          none false = refl
      told a b e true f true g = g ∙ sym (and_from _ _ (one_more a b e) f)
      told a b e true f false g =
          let both = and_parts (not d.up) (is_at a b d) e in
          let at = at_pair a b d both.1 in
          let ended = ap₂ after at.0 at.1 ∙ eqb-true (after a b) 0 f in
          let counted = ap₂ (λ p q. count_of old p q) at.0 at.1 ∙ no_more (count_of old a b) g in
          absurd (false≢true (sym not_one ∙ and_from _ _ both.0 (and_from _ _ (eq-eqb (after d.a d.b) 0 ended) (eq-eqb (count_of old d.a d.b) 0 counted))))

      by : (a b : ℕ) (t : Bool) → falls a b ≡ t → nat_lt 0 (count_of old a b) ≡ (nat_lt 0 (downs (take (suc i) ds) a b) && (after a b == 0))
      by a b true e = told a b e (after a b == 0) refl (nat_lt 0 (count_of old a b)) refl
      by a b false e = elsewhere old old so_far a b e refl

-- what is told of each relation is told of all
pub emptied_by_relation : (after : GrantsAfter) (steps : GrantSteps) (g : Pairs) → TellEmptied steps.dial.items (count_after after.dial) g.dial → TellEmptied steps.bind.items (count_after after.bind) g.bind
    → TellEmptied steps.identity_router.items (count_after after.identity_router) g.identity_router → TellEmptied steps.service_router.items (count_after after.service_router) g.service_router
    → (r : Relation) → TellEmptied (steps_of r steps) (counts_after r after) (pairs_of r g)
emptied_by_relation after steps g dial bind identity_router service_router Dial = dial
emptied_by_relation after steps g dial bind identity_router service_router Bind = bind
emptied_by_relation after steps g dial bind identity_router service_router IdentityRouter = identity_router
emptied_by_relation after steps g dial bind identity_router service_router ServiceRouter = service_router

-- counts that are told by the steps, one relation after another
pub stepped_by_relation : (g : Pairs) (after : GrantsAfter) (steps : GrantSteps) → Taken g.dial (count_after after.dial) steps.dial.items → Taken g.bind (count_after after.bind) steps.bind.items
    → Taken g.identity_router (count_after after.identity_router) steps.identity_router.items → Taken g.service_router (count_after after.service_router) steps.service_router.items
    → (r : Relation) → Taken (pairs_of r g) (counts_after r after) (steps_of r steps)
stepped_by_relation g after steps dial bind identity_router service_router Dial = dial
stepped_by_relation g after steps dial bind identity_router service_router Bind = bind
stepped_by_relation g after steps dial bind identity_router service_router IdentityRouter = identity_router
stepped_by_relation g after steps dial bind identity_router service_router ServiceRouter = service_router
