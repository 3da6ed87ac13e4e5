-- What holds of each element of a list that is changed, and of the answer of a search in it.
use Rattle.std.proofs.Common.{◌≡◌, ℕ, zero, suc, List, [], ◌∷◌, ◌++◌, slice_get, Some, Result, Ok, Err, MatchResult, IfSome, IfNone, refl}
use Rattle.std.specs.List.{AllByRecursion, remove}
use Rattle.std.specs.Result.{result_ok}
use Rattle.indexmap.specs.IndexMap.{set_value_at}

-- ---- what holds of each element of a list that is changed

pub all-append : {X : Type 0} (P : X → Type 0) (xs : List X) (x : X) → AllByRecursion P xs → P x → AllByRecursion P (xs ++ x ∷ [])
all-append P [] x h p = (p, tt)
all-append P (y ∷ xs) x h p = (h.0, all-append P xs x h.1 p)

pub all-remove : {X : Type 0} (P : X → Type 0) (xs : List X) (i : ℕ) → AllByRecursion P xs → AllByRecursion P (remove xs i)
all-remove P [] zero h = tt
all-remove P [] (suc i) h = tt
all-remove P (x ∷ xs) zero h = h.1
all-remove P (x ∷ xs) (suc i) h = (h.0, all-remove P xs i h.1)

pub all-set_value_at : {K V : Type 0} (P : K × V → Type 0) (es : List (K × V)) (i : ℕ) (w : V) → ((e : K × V) → slice_get es i ≡ Some e → P e → P (e.0, w))
    → AllByRecursion P es → AllByRecursion P (set_value_at es i w)
all-set_value_at P [] i w k h = tt
all-set_value_at P (e ∷ es) zero w k h = (k e refl h.0, h.1)
all-set_value_at P (e ∷ es) (suc i) w k h = (h.0, all-set_value_at P es i w k h.1)

-- ---- the answer of a search, without its place where nothing is found

pub ok_found : (P : ℕ → Type 0) (Q : Type 0) (r : Result ℕ ℕ) → MatchResult r P (λ _. Q) → IfSome (result_ok r) P
ok_found P Q (Ok i) h = h
ok_found P Q (Err i) h = tt

pub ok_absent : (P : ℕ → Type 0) (Q : Type 0) (r : Result ℕ ℕ) → MatchResult r P (λ _. Q) → IfNone (result_ok r) Q
ok_absent P Q (Ok i) h = tt
ok_absent P Q (Err i) h = h
