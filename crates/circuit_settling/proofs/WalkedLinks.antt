-- Laws of a walk along links, one link after another, with the routers visited so far in any order.
use Rattle.std.proofs.Common.{◌≡◌, ℕ, ◌+◌, ◌<◌, ◌==◌, ◌||◌, Bool, true, false, cond, List, [], ◌∷◌, ◌++◌, length, get_or, drop, Option, Some, None, refl, sym, ◌∙◌, ap, add-one}
use Rattle.std.proofs.Math.Seq.{drop-cons}
use Rattle.std.proofs.lemmas.Option.{same_Some, none-some}
use Rattle.std.specs.Option.{option_map, option_map_or, option_and_then}
use Rattle.ctrl_model.specs.Walks.{Hops, is_among, where_new, goes}

-- two lists with the same numbers in them
abbrev pub Alike : List ℕ → List ℕ → Type 0
Alike xs ys = (x : ℕ) → is_among x xs ≡ is_among x ys

-- a number behind the others and one before them
pub Alike-push : (xs : List ℕ) (n : ℕ) → Alike (n ∷ xs) (xs ++ n ∷ [])
Alike-push [] n x = refl
Alike-push (y ∷ ys) n x = turned (n == x) (y == x) (is_among x ys) ∙ ap (λ b. (y == x) || b) (Alike-push ys n x)
  where
    turned : (a b c : Bool) → (a || (b || c)) ≡ (b || (a || c))
    turned true true c = refl
    turned true false c = refl
    turned false b c = refl

-- a walk depends on which routers were visited, and not on their order
pub goes-alike : (hop : Hops) (t : ℕ) (links xs ys : List ℕ) (v : ℕ) → Alike xs ys → goes hop t xs v links ≡ goes hop t ys v links
goes-alike hop t [] xs ys v a = refl
goes-alike hop t (l ∷ ls) xs ys v a = by (hop v l) (λ h. goes-alike hop t ls (h.0 ∷ xs) (h.0 ∷ ys) h.0 (λ x. ap (λ b. (h.0 == x) || b) (a x)))
  where
    by : (o : Option (ℕ × ℕ)) → ((h : ℕ × ℕ) → goes hop t (h.0 ∷ xs) h.0 ls ≡ goes hop t (h.0 ∷ ys) h.0 ls)
        → option_map_or (λ (h : ℕ × ℕ). goes hop t (h.0 ∷ xs) h.0 ls) (option_and_then (where_new xs) o) false
        ≡ option_map_or (λ (h : ℕ × ℕ). goes hop t (h.0 ∷ ys) h.0 ls) (option_and_then (where_new ys) o) false
    by None again = refl
    by (Some h) again =
        ap (λ b. option_map_or (λ (h : ℕ × ℕ). goes hop t (h.0 ∷ xs) h.0 ls) (cond b None (Some h)) false) (a h.0) ∙ either (is_among h.0 ys)
      where
        either : (b : Bool)
            → option_map_or (λ (h : ℕ × ℕ). goes hop t (h.0 ∷ xs) h.0 ls) (cond b None (Some h)) false
            ≡ option_map_or (λ (h : ℕ × ℕ). goes hop t (h.0 ∷ ys) h.0 ls) (cond b None (Some h)) false
        either true = refl
        either false = again h

-- where a hop leads, without its cost
abbrev pub leads : Option (ℕ × ℕ) → Option ℕ
leads o = option_map (λ h. h.0) o

-- the first of the links that are left
pub goes-first : (hop : Hops) (t : ℕ) (links seen : List ℕ) (i v : ℕ) → i < length links → goes hop t seen v (drop i links) ≡ goes hop t seen v (get_or links i 0 ∷ drop (i + 1) links)
goes-first hop t links seen i v below = ap (goes hop t seen v) (drop-cons links i 0 below ∙ ap (λ k. get_or links i 0 ∷ drop k links) (sym (add-one i)))

-- a walk goes on from a router that was not visited
pub goes-on : (hop : Hops) (t : ℕ) (seen ls : List ℕ) (v l n : ℕ) → Some n ≡ leads (hop v l) → is_among n seen ≡ false → goes hop t seen v (l ∷ ls) ≡ goes hop t (seen ++ n ∷ []) n ls
goes-on hop t seen ls v l n e new = by (hop v l) e ∙ goes-alike hop t ls (n ∷ seen) (seen ++ n ∷ []) n (Alike-push seen n)
  where
    by : (o : Option (ℕ × ℕ)) → Some n ≡ leads o → option_map_or (λ (h : ℕ × ℕ). goes hop t (h.0 ∷ seen) h.0 ls) (option_and_then (where_new seen) o) false ≡ goes hop t (n ∷ seen) n ls
    by None e = absurd (none-some n (sym e))
    by (Some h) e =
        let same : h.0 ≡ n = sym (same_Some n h.0 e) in
        ap (λ b. option_map_or (λ (h : ℕ × ℕ). goes hop t (h.0 ∷ seen) h.0 ls) (cond b None (Some h)) false) (ap (λ m. is_among m seen) same ∙ new)
        ∙ ap (λ m. goes hop t (m ∷ seen) m ls) same

-- a walk ends at a link that leads nowhere
pub goes-nowhere : (hop : Hops) (t : ℕ) (links seen : List ℕ) (i v : ℕ) → i < length links → None ≡ leads (hop v (get_or links i 0)) → goes hop t seen v (drop i links) ≡ false
goes-nowhere hop t links seen i v below e = goes-first hop t links seen i v below ∙ by (hop v (get_or links i 0)) e
  where
    by : (o : Option (ℕ × ℕ)) → None ≡ leads o → option_map_or (λ (h : ℕ × ℕ). goes hop t (h.0 ∷ seen) h.0 (drop (i + 1) links)) (option_and_then (where_new seen) o) false ≡ false
    by None e = refl
    by (Some h) e = absurd (none-some h.0 e)

-- and at one that leads to a router that was visited
pub goes-back : (hop : Hops) (t : ℕ) (links seen : List ℕ) (i v n : ℕ) → i < length links → Some n ≡ leads (hop v (get_or links i 0)) → is_among n seen ≡ true
    → goes hop t seen v (drop i links) ≡ false
goes-back hop t links seen i v n below e old = goes-first hop t links seen i v below ∙ by (hop v (get_or links i 0)) e
  where
    by : (o : Option (ℕ × ℕ)) → Some n ≡ leads o → option_map_or (λ (h : ℕ × ℕ). goes hop t (h.0 ∷ seen) h.0 (drop (i + 1) links)) (option_and_then (where_new seen) o) false ≡ false
    by None e = absurd (none-some n (sym e))
    by (Some h) e =
        let same : h.0 ≡ n = sym (same_Some n h.0 e) in
        ap (λ b. option_map_or (λ (h : ℕ × ℕ). goes hop t (h.0 ∷ seen) h.0 (drop (i + 1) links)) (cond b None (Some h)) false) (ap (λ m. is_among m seen) same ∙ old)
