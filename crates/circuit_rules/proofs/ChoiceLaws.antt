-- Laws on the first of some choices.
use Rattle.std.proofs.Common.{◌≡◌, ℕ, Bool, true, false, cond, inl, inr, List, [], ◌∷◌, ◌++◌, map, flat_map, Option, Some, None, refl, sym, ◌∙◌, ap, subst, is_lt}
use Rattle.std.proofs.lemmas.Option.{same_Some}
use Rattle.std.proofs.lemmas.Cmp.{tied_itself, nat_list_cmp_total}
use Rattle.ctrl_model.specs.Membership.{Among}
use Rattle.ctrl_model.proofs.Members.{Among-map, by_map, Among-flat_map, by_flat_map}
use Rattle.model_laws.proofs.Orders.{not_below, below_one_way}
use Rattle.route_choice.specs.declared.choosing.Choice.{Choice}
use Rattle.route_choice.specs.declared.choosing.Exit.{Exit}
use Rattle.route_choice.specs.declared.choosing.Entry.{Entry}
use Rattle.path_search.specs.Visits.{costs_to}
use Rattle.route_choice.specs.RouteChoices.{key, is_before, choice_at, keep, first_of, first_of_all}

-- ---- the order of choices

is_before-itself : (c : Choice) → is_before c c ≡ false
is_before-itself c = ap is_lt (tied_itself nat_list_cmp_total (key c))

not_before : (a b c : Choice) → is_before a b ≡ false → is_before b c ≡ false → is_before a c ≡ false
not_before a b c = not_below nat_list_cmp_total (key a) (key b) (key c)

before_one_way : (a b : Choice) → is_before a b ≡ true → is_before b a ≡ false
before_one_way a b = below_one_way nat_list_cmp_total (key a) (key b)

-- ---- the first of choices that may be there

abbrev kept : Option Choice → List (Option Choice) → Option Choice
kept best [] = best
kept best (o ∷ os) = kept (keep best o) os

-- a choice is one of some that may be there, and none of them comes before it
abbrev IsFirstOf : List (Option Choice) → Choice → Type 0
IsFirstOf os c = Among (Some c) os × ((d : Choice) → Among (Some d) os → is_before d c ≡ false)

kept-more : (best o : Option Choice) (os : List (Option Choice)) (c : Choice) → IsFirstOf (keep best o ∷ os) c → IsFirstOf (best ∷ o ∷ os) c
kept-more best None os c f = (there f.0, each)
  where
    there : Among (Some c) (best ∷ os) → Among (Some c) (best ∷ None ∷ os)
    there (inl e) = inl e
    there (inr m) = inr (inr m)

    each : (d : Choice) → Among (Some d) (best ∷ None ∷ os) → is_before d c ≡ false
    each d (inl e) = f.1 d (inl e)
    each d (inr (inl e)) = absurd (cc)
    each d (inr (inr m)) = f.1 d (inr m)
kept-more None (Some b) os c f = (inr f.0, each)
  where
    each : (d : Choice) → Among (Some d) (None ∷ Some b ∷ os) → is_before d c ≡ false
    each d (inl e) = absurd (cc)
    each d (inr m) = f.1 d m
kept-more (Some a) (Some b) os c f = pick (is_before b a) refl f
  where
    of_a : (s : Bool) → is_before b a ≡ s → IsFirstOf (Some (cond s b a) ∷ os) c → is_before a c ≡ false
    of_a true e f = not_before a b c (before_one_way b a e) (f.1 b (inl refl))
    of_a false e f = f.1 a (inl refl)

    of_b : (s : Bool) → is_before b a ≡ s → IsFirstOf (Some (cond s b a) ∷ os) c → is_before b c ≡ false
    of_b true e f = f.1 b (inl refl)
    of_b false e f = not_before b a c e (f.1 a (inl refl))

    there : (s : Bool) → Among (Some c) (Some (cond s b a) ∷ os) → Among (Some c) (Some a ∷ Some b ∷ os)
    there true (inl e) = inr (inl e)
    there true (inr m) = inr (inr m)
    there false (inl e) = inl e
    there false (inr m) = inr (inr m)

    pick : (s : Bool) → is_before b a ≡ s → IsFirstOf (Some (cond s b a) ∷ os) c → IsFirstOf (Some a ∷ Some b ∷ os) c
    pick s e g = (there s g.0, each)
      where
        each : (d : Choice) → Among (Some d) (Some a ∷ Some b ∷ os) → is_before d c ≡ false
        each d (inl h) = subst (λ x. is_before x c ≡ false) (same_Some a d h) (of_a s e g)
        each d (inr (inl h)) = subst (λ x. is_before x c ≡ false) (same_Some b d h) (of_b s e g)
        each d (inr (inr m)) = g.1 d (inr m)

kept-first : (os : List (Option Choice)) (best : Option Choice) (c : Choice) → kept best os ≡ Some c → IsFirstOf (best ∷ os) c
kept-first [] best c e = (inl e, each)
  where
    each : (d : Choice) → Among (Some d) (best ∷ []) → is_before d c ≡ false
    each d (inl s) = subst (λ x. is_before x c ≡ false) (same_Some c d (sym e ∙ s)) (is_before-itself c)
    each d (inr m) = absurd m
kept-first (o ∷ os) best c e = kept-more best o os c (kept-first os (keep best o) c e)

neither : (best o : Option Choice) → keep best o ≡ None → (best ≡ None) × (o ≡ None)
neither best None e = (e, refl)
neither None (Some b) e = absurd (cc)
neither (Some a) (Some b) e = absurd (cc)

kept-none : (os : List (Option Choice)) (best : Option Choice) → kept best os ≡ None → (o : Option Choice) → Among o (best ∷ os) → o ≡ None
kept-none [] best e o (inl s) = sym s ∙ e
kept-none [] best e o (inr m) = absurd m
kept-none (x ∷ os) best e o m =
    at (neither best x (kept-none os (keep best x) e (keep best x) (inl refl))) (kept-none os (keep best x) e o) m
  where
    at : (best ≡ None) × (x ≡ None) → (Among o (keep best x ∷ os) → o ≡ None) → Among o (best ∷ x ∷ os) → o ≡ None
    at both k (inl s) = sym s ∙ both.0
    at both k (inr (inl s)) = sym s ∙ both.1
    at both k (inr (inr n)) = k (inr n)

-- ---- the first of all choices

kept-append : (os ps : List (Option Choice)) (best : Option Choice) → kept best (os ++ ps) ≡ kept (kept best os) ps
kept-append [] ps best = refl
kept-append (o ∷ os) ps best = kept-append os ps (keep best o)

first_of-kept : (p : List ℕ) (o : Exit) (xs : List Entry) (best : Option Choice) → first_of p o best xs ≡ kept best (map (choice_at p o) xs)
first_of-kept p o [] best = refl
first_of-kept p o (x ∷ xs) best = first_of-kept p o xs (keep best (choice_at p o x))

-- the choices of one exit
abbrev choices_of : List (List ℕ) → List Entry → Exit → List (Option Choice)
choices_of costs entries o = map (choice_at (costs_to costs o.place) o) entries

first_of_all-kept : (costs : List (List ℕ)) (entries : List Entry) (exits : List Exit) (best : Option Choice)
    → first_of_all costs entries best exits ≡ kept best (flat_map (choices_of costs entries) exits)
first_of_all-kept costs entries [] best = refl
first_of_all-kept costs entries (o ∷ exits) best =
    ap (λ b. first_of_all costs entries b exits) (first_of-kept (costs_to costs o.place) o entries best)
    ∙ first_of_all-kept costs entries exits (kept best (choices_of costs entries o))
    ∙ sym (kept-append (choices_of costs entries o) (flat_map (choices_of costs entries) exits) best)

-- the first of all choices is that of an exit and an entry, and none of another exit and entry comes before it
pub record IsChosen (costs : List (List ℕ)) (entries : List Entry) (exits : List Exit) (c : Choice) : Type 0 where
  pub exit : Exit
  pub entry : Entry
  pub is_exit : Among exit exits
  pub is_entered : Among entry entries
  pub told : choice_at (costs_to costs exit.place) exit entry ≡ Some c
  pub first : (o : Exit) → Among o exits → (x : Entry) → Among x entries → (d : Choice) → choice_at (costs_to costs o.place) o x ≡ Some d → is_before d c ≡ false

one_of_all : (costs : List (List ℕ)) (entries : List Entry) (exits : List Exit) (o : Exit) (x : Entry) → Among o exits → Among x entries
    → Among (choice_at (costs_to costs o.place) o x) (flat_map (choices_of costs entries) exits)
one_of_all costs entries exits o x m n =
    Among-flat_map (choices_of costs entries) exits o (choice_at (costs_to costs o.place) o x) m
    (Among-map (choice_at (costs_to costs o.place) o) entries x n)

pub chosen : (costs : List (List ℕ)) (entries : List Entry) (exits : List Exit) (c : Choice) → first_of_all costs entries None exits ≡ Some c → IsChosen costs entries exits c
chosen costs entries exits c e = from first.0
  where
    first : IsFirstOf (None ∷ flat_map (choices_of costs entries) exits) c
    first = kept-first (flat_map (choices_of costs entries) exits) None c (sym (first_of_all-kept costs entries exits None) ∙ e)

    from : Among (Some c) (None ∷ flat_map (choices_of costs entries) exits) → IsChosen costs entries exits c
    from (inl h) = absurd (cc)
    from (inr m) =
        by_flat_map (choices_of costs entries) exits (Some c) m (λ o ended n.
        by_map (choice_at (costs_to costs o.place) o) entries (Some c) n (λ x entered told. record {
          exit = o;
          entry = x;
          is_exit = ended;
          is_entered = entered;
          told = told;
          first = λ a in_exits b in_entries d is. first.1 d (inr (subst (λ y. Among y (flat_map (choices_of costs entries) exits)) is (one_of_all costs entries exits a b in_exits in_entries)));
        }))

-- where there is no first choice, no exit and entry have one
pub none_chosen : (costs : List (List ℕ)) (entries : List Entry) (exits : List Exit) → first_of_all costs entries None exits ≡ None
    → (o : Exit) → Among o exits → (x : Entry) → Among x entries → choice_at (costs_to costs o.place) o x ≡ None
none_chosen costs entries exits e o m x n =
    kept-none (flat_map (choices_of costs entries) exits) None (sym (first_of_all-kept costs entries exits None) ∙ e)
    (choice_at (costs_to costs o.place) o x) (inr (one_of_all costs entries exits o x m n))
