-- Laws on rules of hops of which one mirrors the other: they have the same walks, at the same costs.
use Rattle.std.proofs.Common.{◌≡◌, ℕ, ◌+◌, ◌<◌, ◌==◌, ◌||◌, Bool, true, false, cond, ◌⊎◌, inl, inr, List, [], ◌∷◌, map, Option, Some, None, refl, sym, ◌∙◌, ap, ap₂, eq-eqb, ne_eqb}
use Rattle.std.proofs.lemmas.Bool.{cases_eq}
use Rattle.std.specs.Option.{option_map, option_map_or, option_and_then}
use Rattle.ctrl_model.specs.Walks.{Hops, is_among, where_new, goes, cost_along}
use Rattle.ctrl_model.specs.Mirrors.{renamed, Mirrors, ArePlaces}

-- two places are one exactly where their other names are
same_places : (places : ℕ) (rename : ℕ → ℕ) (a b : Hops) → Mirrors places rename a b → (u v : ℕ) → u < places → v < places → (rename u == rename v) ≡ (u == v)
same_places places rename a b m u v p q = apart (cases_eq u v)
  where
    apart : (u ≡ v) ⊎ (u ≡ v → ⊥) → (rename u == rename v) ≡ (u == v)
    apart (inl e) = eq-eqb (rename u) (rename v) (ap rename e) ∙ sym (eq-eqb u v e)
    apart (inr ne) = ne_eqb (rename u) (rename v) (λ s. ne (m.apart u v p q s)) ∙ sym (ne_eqb u v ne)

-- a place stands in a list exactly where its other name stands among the others
same_among : (places : ℕ) (rename : ℕ → ℕ) (a b : Hops) → Mirrors places rename a b → (seen : List ℕ) (v : ℕ) → ArePlaces places seen → v < places
    → is_among (rename v) (map rename seen) ≡ is_among v seen
same_among places rename a b m [] v below p = refl
same_among places rename a b m (u ∷ seen) v below p =
    ap₂ (λ s r. s || r) (same_places places rename a b m u v below.0 p) (same_among places rename a b m seen v below.1 p)

pub same_goes : (places : ℕ) (rename : ℕ → ℕ) (a b : Hops) (t : ℕ) → Mirrors places rename a b → t < places → (links seen : List ℕ) (v : ℕ) → ArePlaces places seen → v < places
    → goes b (rename t) (map rename seen) (rename v) links ≡ goes a t seen v links
same_goes places rename a b t m q [] seen v below p = same_places places rename a b m v t p q
same_goes places rename a b t m q (l ∷ ls) seen v below p =
    ap (λ o. option_map_or (λ (h : ℕ × ℕ). goes b (rename t) (h.0 ∷ map rename seen) h.0 ls) (option_and_then (where_new (map rename seen)) o) false) (m.hop v l p)
    ∙ by_hop (a v l) (λ h is. m.stays v l h p is) (λ h in_places. same_goes places rename a b t m q ls (h.0 ∷ seen) h.0 (in_places, below) in_places)
  where
    by_hop : (o : Option (ℕ × ℕ)) → ((h : ℕ × ℕ) → o ≡ Some h → h.0 < places)
        → ((h : ℕ × ℕ) → h.0 < places → goes b (rename t) (rename h.0 ∷ map rename seen) (rename h.0) ls ≡ goes a t (h.0 ∷ seen) h.0 ls)
        → option_map_or (λ (h : ℕ × ℕ). goes b (rename t) (h.0 ∷ map rename seen) h.0 ls) (option_and_then (where_new (map rename seen)) (option_map (renamed rename) o)) false
        ≡ option_map_or (λ (h : ℕ × ℕ). goes a t (h.0 ∷ seen) h.0 ls) (option_and_then (where_new seen) o) false
    by_hop None stays on = refl
    by_hop (Some h) stays on =
        ap (λ s. option_map_or (λ (h : ℕ × ℕ). goes b (rename t) (h.0 ∷ map rename seen) h.0 ls) (cond s None (Some (rename h.0, h.1))) false)
        (same_among places rename a b m seen h.0 below (stays h refl))
        ∙ where_new_or_not (is_among h.0 seen)
      where
        where_new_or_not : (s : Bool)
            → option_map_or (λ (h : ℕ × ℕ). goes b (rename t) (h.0 ∷ map rename seen) h.0 ls) (cond s None (Some (rename h.0, h.1))) false
            ≡ option_map_or (λ (h : ℕ × ℕ). goes a t (h.0 ∷ seen) h.0 ls) (cond s None (Some h)) false
        where_new_or_not true = refl
        where_new_or_not false = on h (stays h refl)

pub same_cost : (places : ℕ) (rename : ℕ → ℕ) (a b : Hops) → Mirrors places rename a b → (links : List ℕ) (v : ℕ) → v < places → cost_along b (rename v) links ≡ cost_along a v links
same_cost places rename a b m [] v p = refl
same_cost places rename a b m (l ∷ ls) v p =
    ap (λ o. option_map_or (λ (h : ℕ × ℕ). h.1 + cost_along b h.0 ls) o 0) (m.hop v l p)
    ∙ by_hop (a v l) (λ h is. m.stays v l h p is) (λ h in_places. same_cost places rename a b m ls h.0 in_places)
  where
    by_hop : (o : Option (ℕ × ℕ)) → ((h : ℕ × ℕ) → o ≡ Some h → h.0 < places) → ((h : ℕ × ℕ) → h.0 < places → cost_along b (rename h.0) ls ≡ cost_along a h.0 ls)
        → option_map_or (λ (h : ℕ × ℕ). h.1 + cost_along b h.0 ls) (option_map (renamed rename) o) 0 ≡ option_map_or (λ (h : ℕ × ℕ). h.1 + cost_along a h.0 ls) o 0
    by_hop None stays on = refl
    by_hop (Some h) stays on = ap (λ n. h.1 + n) (on h (stays h refl))
