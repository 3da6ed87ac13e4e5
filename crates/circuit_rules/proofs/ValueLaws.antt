-- Laws on the values of a claim: where they stand, and which entry has them.
use Rattle.std.proofs.Common.{◌≡◌, ℕ, suc, ◌<◌, ◌≤◌, ◌==◌, nat_lt, Bool, true, false, cond, List, [], ◌∷◌, length, map, Some, refl, sym, ◌∙◌, ap, arith, lt-ltb, slice_get, unwrap_or}
use Rattle.std.proofs.lemmas.Bool.Decides.{nat_tests}
use Rattle.std.specs.List.{find}
use Rattle.ctrl_model.specs.declared.kinds.RouterSeen.{RouterSeen}
use Rattle.ctrl_model.specs.declared.claims.Reach.{Reach}
use Rattle.ctrl_model.specs.Claims.{no_path, value_at, entry_for}
use Rattle.circuit_rules.specs.Searched.{place_in}

-- the value at a place, if the place is one of so many
abbrev pub value_placed : List ℕ → ℕ → ℕ → ℕ
value_placed vs i n = cond (nat_lt i n) (unwrap_or (slice_get vs i) no_path) no_path

-- the value at a router is the one at the router's place
pub value_at-placed : (n : ℕ) (rs : List RouterSeen) (vs : List ℕ)
    → value_at (map (λ (r : RouterSeen). r.no.0) rs) vs n ≡ value_placed vs (place_in rs n) (length rs)
value_at-placed n [] vs = refl
value_at-placed n (r ∷ rs) [] = sym (either (nat_lt (place_in (r ∷ rs) n) (length (r ∷ rs))))
  where
    either : (b : Bool) → cond b no_path no_path ≡ no_path
    either true = refl
    either false = refl
value_at-placed n (r ∷ rs) (v ∷ vs) = by (r.no.0 == n) (place_in rs n) (length rs) (value_at-placed n rs vs)
  where
    first : (m : ℕ) → nat_lt 0 (suc m) ≡ true
    first m = lt-ltb 0 (suc m) (omega arith)

    later : (i m : ℕ) → nat_lt (suc i) (suc m) ≡ nat_lt i m
    later i m = grind (arith, nat_tests)

    by : (b : Bool) (i m : ℕ) → value_at (map (λ (r : RouterSeen). r.no.0) rs) vs n ≡ value_placed vs i m
        → cond b v (value_at (map (λ (r : RouterSeen). r.no.0) rs) vs n) ≡ value_placed (v ∷ vs) (cond b 0 (suc i)) (suc m)
    by true i m again = sym (ap (λ c. cond c v no_path) (first m))
    by false i m again = again ∙ ap (λ c. cond c (unwrap_or (slice_get vs i) no_path) no_path) (sym (later i m))

-- a router that stands somewhere has the value at its place
pub value_there : (n : ℕ) (rs : List RouterSeen) (vs : List ℕ) (i : ℕ) → i ≡ place_in rs n → i < length rs
    → unwrap_or (slice_get vs i) no_path ≡ value_at (map (λ (r : RouterSeen). r.no.0) rs) vs n
value_there n rs vs i is below =
    ap (λ c. cond c (unwrap_or (slice_get vs i) no_path) no_path) (sym (lt-ltb i (length rs) below)) ∙ ap (λ k. value_placed vs k (length rs)) is ∙ sym (value_at-placed n rs vs)

-- and one that stands nowhere has none
pub value_absent : (n : ℕ) (rs : List RouterSeen) (vs : List ℕ) (i : ℕ) → i ≡ place_in rs n → length rs ≤ i
    → no_path ≡ value_at (map (λ (r : RouterSeen). r.no.0) rs) vs n
value_absent n rs vs i is past =
    ap (λ c. cond c (unwrap_or (slice_get vs i) no_path) no_path) (sym (not_below i (length rs) past)) ∙ ap (λ k. value_placed vs k (length rs)) is ∙ sym (value_at-placed n rs vs)
  where
    not_below : (a b : ℕ) → b ≤ a → nat_lt a b ≡ false
    not_below a b le = grind (arith, nat_tests, le)

-- the entry for a router is the first that has it
pub entry_for-find : (es : List Reach) (t : ℕ) → entry_for es t ≡ find (λ (e : Reach). e.router.0 == t) es
entry_for-find [] t = refl
entry_for-find (e ∷ es) t = ap (λ o. cond (e.router.0 == t) (Some e) o) (entry_for-find es t)
