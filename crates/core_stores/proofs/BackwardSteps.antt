-- Steps that are taken from the last one on.
use Rattle.std.proofs.Common.{◌≡◌, ℕ, zero, suc, ◌+◌, ◌-◌, ◌<◌, ◌≤◌, Bool, not, ◌&&◌, cond, List, [], ◌∷◌, length, drop, get_or, subst, arith}
use Rattle.std.proofs.lemmas.List.Sums.{sum_by-cons}
use Rattle.std.specs.List.{count_by}
use Rattle.grant_denorm.specs.declared.deltas.Delta.{Delta}
use Rattle.grant_denorm.specs.Deltas.{is_at}
use Rattle.grant_denorm.specs.PairCounts.{count_of}
use Rattle.grant_denorm.specs.TakenSteps.{HaveRoom, Taken}

-- those behind a place are the one there and those behind it
from_place : {X : Type 0} (p : X → Bool) (xs : List X) (i : ℕ) (z : X) → i < length xs → count_by p (drop i xs) ≡ count_by p (get_or xs i z ∷ []) + count_by p (drop (suc i) xs)
from_place p [] i z h = absurd (omega (arith, h))
from_place p (x ∷ xs) zero z h =
    let all = sum_by-cons (λ y. cond (p y) 1 0) x xs in
    let one = sum_by-cons (λ y. cond (p y) 1 0) x [] in omega (arith, all, one)
from_place p (x ∷ xs) (suc i) z h = from_place p xs i z (omega (arith, h))

-- they are not more than all
behind_few : {X : Type 0} (p : X → Bool) (xs : List X) (i : ℕ) → count_by p (drop i xs) ≤ count_by p xs
behind_few p [] zero = omega arith
behind_few p [] (suc i) = omega arith
behind_few p (x ∷ xs) zero = omega arith
behind_few p (x ∷ xs) (suc i) =
    let rest = behind_few p xs i in
    let all = sum_by-cons (λ y. cond (p y) 1 0) x xs in omega (arith, rest, all)

module _ (pairs mid : List ((ℕ × ℕ) × ℕ)) (ds : List Delta) (z : Delta) (left : ℕ) (some : 0 < left) (within : left ≤ length ds) where
  -- the last one that is left stands at this place
  abbrev place : ℕ
  place = left - 1

  behind : left ≡ suc place
  behind = omega (arith, some)

  place_within : place < length ds
  place_within = omega (arith, some, within)

  taken_behind : Taken pairs (count_of mid) (drop left ds) → Taken pairs (count_of mid) (drop (suc place) ds)
  taken_behind taken = subst (λ n. Taken pairs (count_of mid) (drop n ds)) behind taken

  -- where the steps behind those that are left are taken, there is room for the last one that is left
  pub room_for_last : HaveRoom pairs ds → Taken pairs (count_of mid) (drop left ds) → HaveRoom mid (get_or ds (left - 1) z ∷ [])
  room_for_last room taken = record {
    least = λ a b.
        let down = from_place (λ d. not d.up && is_at a b d) ds place z place_within in
        let few = behind_few (λ d. not d.up && is_at a b d) ds place in
        let least = room.least a b in
        let so_far = taken_behind taken a b in omega (arith, down, few, least, so_far);
    most = λ a b.
        let up = from_place (λ d. d.up && is_at a b d) ds place z place_within in
        let few = behind_few (λ d. d.up && is_at a b d) ds place in
        let most = room.most a b in
        let so_far = taken_behind taken a b in omega (arith, up, few, most, so_far);
  }

  -- with it those behind one less are taken
  pub last_taken : (new : List ((ℕ × ℕ) × ℕ)) → Taken pairs (count_of mid) (drop left ds) → Taken mid (count_of new) (get_or ds (left - 1) z ∷ []) → Taken pairs (count_of new) (drop (left - 1) ds)
  last_taken new taken one a b =
      let down = from_place (λ d. not d.up && is_at a b d) ds place z place_within in
      let up = from_place (λ d. d.up && is_at a b d) ds place z place_within in
      let so_far = taken_behind taken a b in
      let step = one a b in omega (arith, down, up, so_far, step)
