-- Laws on what a search comes to know by visiting the places of exits.
use Rattle.std.proofs.Common.{ℕ, ◌+◌, ◌<◌, ◌≤◌, ◌==◌, inl, inr, List, [], ◌∷◌, length, get_or, take, sym, subst, eqb-true}
use Rattle.std.proofs.lemmas.List.{take_more, take_all}
use Rattle.ctrl_model.specs.Membership.{Among}
use Rattle.ctrl_model.proofs.Members.{by_append, by_list_any}
use Rattle.path_certificate.specs.Graphs.{GraphSeen}
use Rattle.path_search.specs.Visits.{costs_to, IsKnown}
use Rattle.route_choice.specs.declared.choosing.Exit.{Exit}
use Rattle.path_search.specs.ExitCosts.{AreCosts}

pub visited_more : (g k : GraphSeen) (exits : List Exit) (old new : List (List ℕ)) (i : ℕ) (d : Exit) → i < length exits
    → ((o : Exit) → Among o (take i exits) → IsKnown g o.place (costs_to old o.place))
    → IsKnown k (get_or exits i d).place (costs_to new (get_or exits i d).place)
    → ((t : ℕ) → IsKnown g t (costs_to old t) → IsKnown k t (costs_to new t))
    → (o : Exit) → Among o (take (i + 1) exits) → IsKnown k o.place (costs_to new o.place)
visited_more g k exits old new i d h each known others o m =
    by_append (take i exits) (get_or exits i d ∷ []) o (subst (λ xs. Among o xs) (take_more exits i d h) m)
    (λ before. others o.place (each o before)) own
  where
    own : Among o (get_or exits i d ∷ []) → IsKnown k o.place (costs_to new o.place)
    own (inl e) = subst (λ (x : Exit). IsKnown k x.place (costs_to new x.place)) e known
    own (inr n) = absurd n

pub visited_all : (g : GraphSeen) (exits : List Exit) (costs : List (List ℕ)) (i : ℕ) → length exits ≤ i
    → ((o : Exit) → Among o (take i exits) → IsKnown g o.place (costs_to costs o.place)) → (t : ℕ) → AreCosts g exits t (costs_to costs t)
visited_all g exits costs i all each t there =
    by_list_any (λ (o : Exit). o.place == t) exits there (λ o m is.
    subst (λ x. IsKnown g x (costs_to costs x)) (eqb-true o.place t is) (each o (subst (λ xs. Among o xs) (sym (take_all i exits all)) m)))
