-- What is pushed piece by piece.
use Rattle.std.proofs.Common.{◌≡◌, ℕ, List, ◌++◌, append_assoc}

pub five_pushed : (old a b c d e v w x y z : List ℕ) → v ≡ old ++ a → w ≡ v ++ b → x ≡ w ++ c → y ≡ x ++ d → z ≡ y ++ e → z ≡ old ++ (a ++ (b ++ (c ++ (d ++ e))))
five_pushed old a b c d e v w x y z p q r s t = rw (t, s, r, q, p) (simp append_assoc)
