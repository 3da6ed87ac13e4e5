-- Names as the keys of a map: the test of two names has no order.
use Rattle.std.proofs.Common.{◌≡◌, ℕ, Bool, true, false, List, refl, sym}
use Rattle.std.proofs.lemmas.Bool.{both_ways}
use Rattle.std.specs.Str.{bytes_eq}
use Rattle.ctrl_model.proofs.DistinctLaws.{same_name, same_bytes}

pub bytes_eq-flip : (a b : List ℕ) → bytes_eq a b ≡ bytes_eq b a
bytes_eq-flip a b = by (bytes_eq a b) (bytes_eq b a) refl refl
  where
    by : (c d : Bool) → bytes_eq a b ≡ c → bytes_eq b a ≡ d → c ≡ d
    by true true e f = refl
    by false false e f = refl
    by true false e f = absurd (both_ways (bytes_eq b a) f (same_bytes b a (sym (same_name a b e))))
    by false true e f = absurd (both_ways (bytes_eq a b) e (same_bytes a b (sym (same_name b a f))))
