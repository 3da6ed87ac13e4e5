-- Laws on names that are held.
use Rattle.std.proofs.Common.{◌≡◌, ℕ, ◌+◌, ◌<◌, false, cond, List, [], ◌∷◌, ◌++◌, All, Option, None, Some, IsSome, IfNone, refl, sym, ◌∙◌, ap, arith, bytes_eq}
pub use Rattle.attr_pool.proofs.UseLaws.{times-append}
use Rattle.attr_pool.proofs.UseLaws.{times-cons, times-none}
use Rattle.entity_store.specs.AttributeUses.{times, held_times}
use Rattle.entity_store.specs.KeptTables.{held_once}

pub held_times-once : (q : List ℕ) (xs : List (List ℕ)) → held_times q (held_once xs) ≡ times q xs
held_times-once q [] = refl
held_times-once q (x ∷ xs) = ap (λ n. cond (bytes_eq x q) 1 0 + n) (held_times-once q xs) ∙ sym (times-cons q x xs)

-- a name that stands in a list has a place there
pub some_place : (q : List ℕ) (xs : List (List ℕ)) (o : Option ℕ) → 0 < times q xs → IfNone o (All (λ n. bytes_eq n q ≡ false) xs) → IsSome o
some_place q xs None l h = let none = times-none q xs h in absurd (omega arith)
some_place q xs (Some i) l h = refl

-- names that are held besides have one use more each
pub holds_more : (q : List ℕ) (xs ys zs : List (List ℕ)) → zs ≡ xs ++ ys → held_times q (held_once zs) ≡ held_times q (held_once xs) + times q ys
holds_more q xs ys zs e = held_times-once q zs ∙ ap (times q) e ∙ times-append q xs ys ∙ ap (λ n. n + times q ys) (sym (held_times-once q xs))
