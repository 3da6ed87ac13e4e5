-- What follows things that stand one behind the other, as a loop passes over them.
use Rattle.std.proofs.Common.{◌≡◌, ℕ, suc, ◌-◌, ◌+◌, ◌≤◌, ◌<◌, List, ◌∷◌, Option, Some, None, refl, sym, ◌∙◌, arith}
use Rattle.std.specs.Option.{option_map}
use Rattle.row_codec.specs.FieldReading.{Front, front_each, behind}

behind_more : {A : Type 0} (x : A) (o : Front (List A)) → behind (option_map {U = List A × List ℕ} (λ y. (x ∷ y.0, y.1)) o) ≡ behind o
behind_more x None = refl
behind_more x (Some y) = refl

pub skips_on : {A : Type 0} (f : List ℕ → Front A) (count i : ℕ) (bytes : List ℕ) (x : A) (after : List ℕ) (total : Option (List ℕ)) → i < count → f bytes ≡ Some (x, after)
    → behind (front_each f (count - i) bytes) ≡ total → behind (front_each f (count - (i + 1)) after) ≡ total
skips_on f count i bytes x after total lt h so_far =
    let k : count - i ≡ suc (count - (i + 1)) = omega arith in
    let one : behind (front_each f (count - i) bytes) ≡ behind (front_each f (count - (i + 1)) after) = rw (k, h) (behind_more x (front_each f (count - (i + 1)) after)) in
    sym one ∙ so_far

pub skip_ends : {A : Type 0} (f : List ℕ → Front A) (count i : ℕ) (bytes : List ℕ) (total : Option (List ℕ)) → i < count → f bytes ≡ None
    → behind (front_each f (count - i) bytes) ≡ total → None ≡ total
skip_ends f count i bytes total lt h so_far =
    let k : count - i ≡ suc (count - (i + 1)) = omega arith in
    let one : behind (front_each f (count - i) bytes) ≡ None = rw (k, h) refl in
    sym one ∙ so_far

pub skip_done : {A : Type 0} (f : List ℕ → Front A) (count i : ℕ) (bytes : List ℕ) (total : Option (List ℕ)) → count ≤ i
    → behind (front_each f (count - i) bytes) ≡ total → Some bytes ≡ total
skip_done f count i bytes total le so_far =
    let k : count - i ≡ 0 = omega arith in
    let one : behind (front_each f (count - i) bytes) ≡ Some bytes = rw k refl in
    sym one ∙ so_far
