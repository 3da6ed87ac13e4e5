-- Laws on walks over any rule of hops: how a walk goes on, what it costs, how long it is, and which walks are listed.
use Rattle.std.proofs.Common.{◌≡◌, ℕ, zero, suc, ◌+◌, ◌*◌, ◌≤◌, ◌==◌, ◌||◌, Bool, true, false, cond, ◌⊎◌, ◌↔◌, inl, inr, List, [], ◌∷◌, map, length, Option, Some, None, refl, sym, ◌∙◌, ap, subst, arith, eq-eqb}
use Rattle.std.proofs.lemmas.Bool.{cases_eq, both_ways, false_from_ne_true, false≢true}
use Rattle.std.proofs.lemmas.Option.{same_Some, option_and_then_some}
use Rattle.std.specs.Option.{option_map_or, option_and_then}
use Rattle.std.specs.List.{flat_map}
use Rattle.ctrl_model.specs.Walks.{Hops, is_among, where_new, fresh, goes, cost_along, here, walks}
use Rattle.ctrl_model.specs.Membership.{Among}
use Rattle.ctrl_model.proofs.Members.{Among-append_left, Among-append_right, by_append, Among-map, by_map, Among-flat_map, by_flat_map}

-- ---- one hop

-- a test of what may be there passes only where it is there
pub by_there : {A P : Type 0} (f : A → Bool) (o : Option A) → option_map_or f o false ≡ true → ((x : A) → o ≡ Some x → f x ≡ true → P) → P
by_there f None e k = absurd (false≢true e)
by_there f (Some x) e k = k x refl e

-- a bound on what is there bounds it, and nothing counts as 0
there_le : {A : Type 0} (f : A → ℕ) (o : Option A) (n : ℕ) → ((x : A) → o ≡ Some x → f x ≤ n) → option_map_or f o 0 ≤ n
there_le f None n k = omega arith
there_le f (Some x) n k = k x refl

-- a hop to a place that was not visited is a hop, and its place was not visited
pub by_fresh : {P : Type 0} (hop : Hops) (seen : List ℕ) (v l : ℕ) (h : ℕ × ℕ) → fresh hop seen v l ≡ Some h → (hop v l ≡ Some h → is_among h.0 seen ≡ false → P) → P
by_fresh {P = P} hop seen v l h e k = option_and_then_some (where_new seen) (hop v l) h e (λ o is new. apart (is_among o.0 seen) o is refl new)
  where
    apart : (b : Bool) (o : ℕ × ℕ) → hop v l ≡ Some o → is_among o.0 seen ≡ b → cond b None (Some o) ≡ Some h → P
    apart true o is b new = absurd (cc)
    apart false o is b new = k (is ∙ ap Some (same_Some o h new)) (subst (λ (x : ℕ × ℕ). is_among x.0 seen ≡ false) (same_Some o h new) b)

pub fresh_from : (hop : Hops) (seen : List ℕ) (v l : ℕ) (h : ℕ × ℕ) → hop v l ≡ Some h → is_among h.0 seen ≡ false → fresh hop seen v l ≡ Some h
fresh_from hop seen v l h is new = ap (option_and_then (where_new seen)) is ∙ ap (λ b. cond b None (Some h)) new

-- a walk of one link and more begins with a hop to a new place, and goes on from there
pub by_goes : {P : Type 0} (hop : Hops) (t : ℕ) (seen : List ℕ) (v l : ℕ) (ls : List ℕ) → goes hop t seen v (l ∷ ls) ≡ true
    → ((h : ℕ × ℕ) → hop v l ≡ Some h → is_among h.0 seen ≡ false → goes hop t (h.0 ∷ seen) h.0 ls ≡ true → P) → P
by_goes hop t seen v l ls g k =
    by_there (λ (h : ℕ × ℕ). goes hop t (h.0 ∷ seen) h.0 ls) (fresh hop seen v l) g (λ h is rest. by_fresh hop seen v l h is (λ on new. k h on new rest))

pub goes_more : (hop : Hops) (t : ℕ) (seen : List ℕ) (v l : ℕ) (ls : List ℕ) (h : ℕ × ℕ) → hop v l ≡ Some h → is_among h.0 seen ≡ false
    → goes hop t (h.0 ∷ seen) h.0 ls ≡ true → goes hop t seen v (l ∷ ls) ≡ true
goes_more hop t seen v l ls h is new rest = ap (λ o. option_map_or (λ (h : ℕ × ℕ). goes hop t (h.0 ∷ seen) h.0 ls) o false) (fresh_from hop seen v l h is new) ∙ rest

pub cost_along-more : (hop : Hops) (v l : ℕ) (ls : List ℕ) (h : ℕ × ℕ) → hop v l ≡ Some h → cost_along hop v (l ∷ ls) ≡ h.1 + cost_along hop h.0 ls
cost_along-more hop v l ls h is = ap (λ o. option_map_or (λ (h : ℕ × ℕ). h.1 + cost_along hop h.0 ls) o 0) is

-- ---- what a walk costs

-- where no hop costs more than m, links cost at most m each
pub cost_along-le : (hop : Hops) (m : ℕ) → ((v l : ℕ) (h : ℕ × ℕ) → hop v l ≡ Some h → h.1 ≤ m) → (ls : List ℕ) (v : ℕ) → cost_along hop v ls ≤ length ls * m
cost_along-le hop m most [] v = omega arith
cost_along-le hop m most (l ∷ ls) v =
    there_le (λ (h : ℕ × ℕ). h.1 + cost_along hop h.0 ls) (hop v l) (length (l ∷ ls) * m) (λ h is. one_more h.1 (cost_along hop h.0 ls) (length ls) m (most v l h is) (cost_along-le hop m most ls h.0))
  where
    one_more : (a b n m : ℕ) → a ≤ m → b ≤ n * m → a + b ≤ suc n * m
    one_more a b n m p q = omega arith

-- ---- which places a walk keeps off

-- a walk that keeps off some places keeps off fewer
pub goes_less : (hop : Hops) (t : ℕ) (ls : List ℕ) (v : ℕ) (seen less : List ℕ) → ((x : ℕ) → is_among x less ≡ true → is_among x seen ≡ true)
    → goes hop t seen v ls ≡ true → goes hop t less v ls ≡ true
goes_less hop t [] v seen less sub g = g
goes_less hop t (l ∷ ls) v seen less sub g = by_goes hop t seen v l ls g (λ h is new rest.
    goes_more hop t less v l ls h is (false_from_ne_true (is_among h.0 less) (λ e. both_ways (is_among h.0 seen) new (sub h.0 e)))
    (goes_less hop t ls h.0 (h.0 ∷ seen) (h.0 ∷ less) (λ x e. or_more (h.0 == x) (is_among x less) (is_among x seen) (sub x) e) rest))
  where
    or_more : (a b c : Bool) → (b ≡ true → c ≡ true) → (a || b) ≡ true → (a || c) ≡ true
    or_more true b c k e = refl
    or_more false b c k e = k e

-- so a walk keeps off only the place where it begins
pub goes_alone : (hop : Hops) (t : ℕ) (ls : List ℕ) (v : ℕ) (seen : List ℕ) → goes hop t (v ∷ seen) v ls ≡ true → goes hop t (v ∷ []) v ls ≡ true
goes_alone hop t ls v seen g = goes_less hop t ls v (v ∷ seen) (v ∷ []) (λ x e. wider (v == x) (is_among x seen) e) g
  where
    wider : (a b : Bool) → (a || false) ≡ true → (a || b) ≡ true
    wider true b e = refl
    wider false b e = absurd (false≢true e)

-- a walk of some links from a place that costs no more than so much
abbrev pub Shorter : Hops → ℕ → ℕ → ℕ → Type 0
Shorter hop t v c = (rest : List ℕ) × (goes hop t (v ∷ []) v rest ≡ true) × (cost_along hop v rest ≤ c)

-- a walk keeps off a place that it does not begin at, or its end is a walk from that place that costs no more
pub around : (hop : Hops) (t x : ℕ) (ls : List ℕ) (v : ℕ) (seen more : List ℕ)
    → ((y : ℕ) → is_among y more ≡ true → (x ≡ y) ⊎ (is_among y seen ≡ true))
    → goes hop t seen v ls ≡ true → (goes hop t more v ls ≡ true) ⊎ Shorter hop t x (cost_along hop v ls)
around hop t x [] v seen more sub g = inl g
around hop t x (l ∷ ls) v seen more sub g = by_goes hop t seen v l ls g (λ h is new rest.
    at h is new rest (cases_eq x h.0) (around hop t x ls h.0 (h.0 ∷ seen) (h.0 ∷ more) (λ y e. or_more (h.0 == y) (is_among y more) (is_among y seen) (x ≡ y) (sub y) e) rest))
  where
    or_more : (a b c : Bool) (E : Type 0) → (b ≡ true → E ⊎ (c ≡ true)) → (a || b) ≡ true → E ⊎ ((a || c) ≡ true)
    or_more true b c E k e = inr refl
    or_more false b c E k e = k e

    off : (h : ℕ × ℕ) → is_among h.0 seen ≡ false → (x ≡ h.0 → ⊥) → (is_among h.0 more ≡ true) → ⊥
    off h new ne e = apart (sub h.0 e)
      where
        apart : (x ≡ h.0) ⊎ (is_among h.0 seen ≡ true) → ⊥
        apart (inl s) = ne s
        apart (inr s) = both_ways (is_among h.0 seen) new s

    at : (h : ℕ × ℕ) → hop v l ≡ Some h → is_among h.0 seen ≡ false → goes hop t (h.0 ∷ seen) h.0 ls ≡ true
        → (x ≡ h.0) ⊎ (x ≡ h.0 → ⊥) → (goes hop t (h.0 ∷ more) h.0 ls ≡ true) ⊎ Shorter hop t x (cost_along hop h.0 ls)
        → (goes hop t more v (l ∷ ls) ≡ true) ⊎ Shorter hop t x (cost_along hop v (l ∷ ls))
    at h is new rest (inl e) _ =
        inr (subst (λ y. Shorter hop t y (cost_along hop v (l ∷ ls))) (sym e) (ls, goes_alone hop t ls h.0 seen rest, rw (cost_along-more hop v l ls h is) (omega arith)))
    at h is new rest (inr ne) (inl g) = inl (goes_more hop t more v l ls h is (false_from_ne_true (is_among h.0 more) (off h new ne)) g)
    at h is new rest (inr ne) (inr s) = inr (s.0, s.1, rw (cost_along-more hop v l ls h is) (omega (arith, s.2)))

-- ---- how long a walk is

-- how many of the names were not visited
abbrev pub unseen : List ℕ → List ℕ → ℕ
unseen seen [] = 0
unseen seen (n ∷ names) = cond (is_among n seen) 0 1 + unseen seen names

pub unseen-le : (seen names : List ℕ) → unseen seen names ≤ length names
unseen-le seen [] = omega arith
unseen-le seen (n ∷ names) = one (is_among n seen) (unseen seen names) (length names) (unseen-le seen names)
  where
    one : (b : Bool) (m k : ℕ) → m ≤ k → cond b 0 1 + m ≤ suc k
    one true m k h = omega arith
    one false m k h = omega arith

-- a place more that was visited leaves no more of them
unseen-less : (x : ℕ) (seen names : List ℕ) → unseen (x ∷ seen) names ≤ unseen seen names
unseen-less x seen [] = omega arith
unseen-less x seen (n ∷ names) = one (x == n) (is_among n seen) (unseen (x ∷ seen) names) (unseen seen names) (unseen-less x seen names)
  where
    one : (a b : Bool) (m k : ℕ) → m ≤ k → cond (a || b) 0 1 + m ≤ cond b 0 1 + k
    one true true m k h = omega arith
    one true false m k h = omega arith
    one false true m k h = omega arith
    one false false m k h = omega arith

-- and one less, if it is one of them and was not visited before
unseen-fewer : (x : ℕ) (seen names : List ℕ) → Among x names → is_among x seen ≡ false → unseen (x ∷ seen) names + 1 ≤ unseen seen names
unseen-fewer x seen [] h new = absurd h
unseen-fewer x seen (n ∷ names) (inl e) new =
    one (x == n) (is_among n seen) (unseen (x ∷ seen) names) (unseen seen names) (eq-eqb x n (sym e)) (subst (λ y. is_among y seen ≡ false) (sym e) new) (unseen-less x seen names)
  where
    one : (a b : Bool) (m k : ℕ) → a ≡ true → b ≡ false → m ≤ k → cond (a || b) 0 1 + m + 1 ≤ cond b 0 1 + k
    one true true m k p q h = absurd (cc)
    one true false m k p q h = omega arith
    one false b m k p q h = absurd (cc)
unseen-fewer x seen (n ∷ names) (inr h) new = one (x == n) (is_among n seen) (unseen (x ∷ seen) names) (unseen seen names) (unseen-fewer x seen names h new)
  where
    one : (a b : Bool) (m k : ℕ) → m + 1 ≤ k → cond (a || b) 0 1 + m + 1 ≤ cond b 0 1 + k
    one true true m k h = omega arith
    one true false m k h = omega arith
    one false true m k h = omega arith
    one false false m k h = omega arith

-- each hop leads to one of the names
abbrev pub StaysAmong : Hops → List ℕ → Type 0
StaysAmong hop names = (v l : ℕ) (h : ℕ × ℕ) → hop v l ≡ Some h → Among h.0 names

-- a walk has at most as many links as there are places that it may still visit
pub length-goes : (hop : Hops) (t : ℕ) (names : List ℕ) → StaysAmong hop names → (ls seen : List ℕ) (v : ℕ) → goes hop t seen v ls ≡ true → length ls ≤ unseen seen names
length-goes hop t names stays [] seen v g = omega arith
length-goes hop t names stays (l ∷ ls) seen v g = by_goes hop t seen v l ls g (λ h is new rest.
    let fewer : unseen (h.0 ∷ seen) names + 1 ≤ unseen seen names = unseen-fewer h.0 seen names (stays v l h is) new in
    let short : length ls ≤ unseen (h.0 ∷ seen) names = length-goes hop t names stays ls (h.0 ∷ seen) h.0 rest in
    omega arith)

-- so a path has fewer links than there are places
pub length-path : (hop : Hops) (t : ℕ) (names : List ℕ) → StaysAmong hop names → (ls : List ℕ) (v : ℕ) → Among v names → goes hop t (v ∷ []) v ls ≡ true → length ls + 1 ≤ length names
length-path hop t names stays ls v place g =
    let fewer : unseen (v ∷ []) names + 1 ≤ unseen [] names = unseen-fewer v [] names place refl in
    let few : unseen [] names ≤ length names = unseen-le [] names in
    let short : length ls ≤ unseen (v ∷ []) names = length-goes hop t names stays ls (v ∷ []) v g in
    omega arith

-- ---- which walks are listed

-- each hop's link is one of the names
abbrev pub LinksAmong : Hops → List ℕ → Type 0
LinksAmong hop names = (v l : ℕ) (h : ℕ × ℕ) → hop v l ≡ Some h → Among l names

by_here : (v t : ℕ) (ls : List ℕ) → Among ls (here v t) → (ls ≡ []) × ((v == t) ≡ true)
by_here v t ls m = apart (v == t) m
  where
    apart : (b : Bool) → Among ls (cond b ([] ∷ []) []) → (ls ≡ []) × (b ≡ true)
    apart true (inl e) = (sym e, refl)
    apart true (inr h) = absurd h
    apart false h = absurd h

Among-here : (v t : ℕ) → (v == t) ≡ true → Among [] (here v t)
Among-here v t e = subst (λ b. Among {X = List ℕ} [] (cond b ([] ∷ []) [])) (sym e) (inl refl)

-- the walks of one more link that begin with a link
abbrev behind : Hops → List ℕ → ℕ → ℕ → List ℕ → ℕ → ℕ → List (List ℕ)
behind hop names t n seen v l = option_map_or (λ (h : ℕ × ℕ). map (λ ls. l ∷ ls) (walks hop names t n (h.0 ∷ seen) h.0)) (fresh hop seen v l) []

by_option : {A X P : Type 0} (f : A → List X) (o : Option A) (x : X) → Among x (option_map_or f o []) → ((a : A) → o ≡ Some a → Among x (f a) → P) → P
by_option f None x m k = absurd m
by_option f (Some a) x m k = k a refl m

-- a listed walk is a walk, of at most so many links
pub walks_go : (hop : Hops) (names : List ℕ) (t n : ℕ) (seen : List ℕ) (v : ℕ) (ls : List ℕ) → Among ls (walks hop names t n seen v) → (goes hop t seen v ls ≡ true) × (length ls ≤ n)
walks_go hop names t zero seen v ls m = none (by_here v t ls m)
  where
    none : (ls ≡ []) × ((v == t) ≡ true) → (goes hop t seen v ls ≡ true) × (length ls ≤ 0)
    none e = subst (λ ks. (goes hop t seen v ks ≡ true) × (length ks ≤ 0)) (sym e.0) (e.1, omega arith)
walks_go hop names t (suc n) seen v ls m =
    by_append (here v t) (flat_map (behind hop names t n seen v) names) ls m (λ k. none (by_here v t ls k)) (λ k.
    by_flat_map (behind hop names t n seen v) names ls k (λ l among j.
    by_option (λ (h : ℕ × ℕ). map (λ ls. l ∷ ls) (walks hop names t n (h.0 ∷ seen) h.0)) (fresh hop seen v l) ls j (λ h is i.
    by_map (λ ls. l ∷ ls) (walks hop names t n (h.0 ∷ seen) h.0) ls i (λ rest listed e.
    some l h rest is (walks_go hop names t n (h.0 ∷ seen) h.0 rest listed) e))))
  where
    none : (ls ≡ []) × ((v == t) ≡ true) → (goes hop t seen v ls ≡ true) × (length ls ≤ suc n)
    none e = subst (λ ks. (goes hop t seen v ks ≡ true) × (length ks ≤ suc n)) (sym e.0) (e.1, omega arith)

    some : (l : ℕ) (h : ℕ × ℕ) (rest : List ℕ) → fresh hop seen v l ≡ Some h → (goes hop t (h.0 ∷ seen) h.0 rest ≡ true) × (length rest ≤ n) → l ∷ rest ≡ ls
        → (goes hop t seen v ls ≡ true) × (length ls ≤ suc n)
    some l h rest is g e = subst (λ ks. (goes hop t seen v ks ≡ true) × (length ks ≤ suc n)) e
        (by_fresh hop seen v l h is (λ on new. goes_more hop t seen v l rest h on new g.0), omega (arith, g.1))

-- a walk of at most so many links is listed, where each hop's link is one of the names
pub go_walks : (hop : Hops) (names : List ℕ) (t : ℕ) → LinksAmong hop names → (ls : List ℕ) (n : ℕ) (seen : List ℕ) (v : ℕ) → goes hop t seen v ls ≡ true → length ls ≤ n
    → Among ls (walks hop names t n seen v)
go_walks hop names t named [] zero seen v g few = Among-here v t g
go_walks hop names t named [] (suc n) seen v g few = Among-append_left (here v t) (flat_map (behind hop names t n seen v) names) [] (Among-here v t g)
go_walks hop names t named (l ∷ ls) zero seen v g few = absurd (omega arith)
go_walks hop names t named (l ∷ ls) (suc n) seen v g few =
    Among-append_right (here v t) (flat_map (behind hop names t n seen v) names) (l ∷ ls) (by_goes hop t seen v l ls g (λ h is new rest.
    Among-flat_map (behind hop names t n seen v) names l (l ∷ ls) (named v l h is)
    (listed l h (fresh_from hop seen v l h is new) (go_walks hop names t named ls n (h.0 ∷ seen) h.0 rest (omega arith)))))
  where
    listed : (l : ℕ) (h : ℕ × ℕ) → fresh hop seen v l ≡ Some h → Among ls (walks hop names t n (h.0 ∷ seen) h.0) → Among (l ∷ ls) (behind hop names t n seen v l)
    listed l h is m = subst (λ o. Among (l ∷ ls) (option_map_or (λ (h : ℕ × ℕ). map (λ ks. l ∷ ks) (walks hop names t n (h.0 ∷ seen) h.0)) o [])) (sym is)
        (Among-map (λ ks. l ∷ ks) (walks hop names t n (h.0 ∷ seen) h.0) ls m)

-- the paths from a place are the listed walks of so many links as there are places, or one less
pub paths_are : (hop : Hops) (places names : List ℕ) (t n v : ℕ) → StaysAmong hop places → LinksAmong hop names → Among v places → length places ≤ n + 1 → (ls : List ℕ)
    → Among ls (walks hop names t n (v ∷ []) v) ↔ (goes hop t (v ∷ []) v ls ≡ true)
paths_are hop places names t n v stays named place few ls =
    (λ m. (walks_go hop names t n (v ∷ []) v ls m).0, λ g. go_walks hop names t named ls n (v ∷ []) v g (short g))
  where
    short : goes hop t (v ∷ []) v ls ≡ true → length ls ≤ n
    short g = let s : length ls + 1 ≤ length places = length-path hop t places stays ls v place g in omega arith
