-- What a program that was asked with some words knows of what the system gave, for each way in which a call may answer.
use Rattle.std.specs.Prelude.{⊤}
use Rattle.std.proofs.Common.{◌≡◌, Result, Ok, Err, Bool, true, false, subst}
use Rattle.std.specs.Result.{IfOk, IfErr, IsOkAnd, IsErr}

-- There are words: what holds of them holds.
pub asked_with : {A B E F : Type 0} (given : Result A E) (asked : Result B F) (b : B) (P : A → B → Type 0) (Q : A → Type 0)
    → asked ≡ Ok b → IfOk given (λ a. IsOkAnd asked (P a)) → ((a : A) → P a b → Q a) → IfOk given Q
asked_with (Ok a) asked b P Q is p f = f a (subst (λ r. IsOkAnd r (P a)) is p)
asked_with (Err e) asked b P Q is p f = tt

-- There are none: then the system gave none.
pub asked_without : {A B E F : Type 0} (given : Result A E) (asked : Result B F) (f : F) (P : A → B → Type 0) (Q : A → Type 0)
    → asked ≡ Err f → IfOk given (λ a. IsOkAnd asked (P a)) → IfOk given Q
asked_without (Ok a) asked f P Q is p = absurd (subst (λ r. IsOkAnd r (P a)) is p)
asked_without (Err e) asked f P Q is p = tt

-- The system gave none, for a cause where there are words all the same: what holds of them holds.
pub failed_with : {A B E F : Type 0} (given : Result A E) (asked : Result B F) (b : B) (K : E → Type 0) (P : B → Type 0) (Q : Type 0)
    → asked ≡ Ok b → IfErr given (λ e. K e → IsOkAnd asked P) → (P b → Q) → IfErr given (λ e. K e → Q)
failed_with (Ok a) asked b K P Q is p f = tt
failed_with (Err e) asked b K P Q is p f = λ k. f (subst (λ r. IsOkAnd r P) is (p k))

-- It gave none, for a cause where there are words, and there are none: this is not so.
pub failed_without : {A B E F : Type 0} (given : Result A E) (asked : Result B F) (f : F) (K : E → Type 0) (P : B → Type 0) (Q : Type 0)
    → asked ≡ Err f → IfErr given (λ e. K e → IsOkAnd asked P) → IfErr given (λ e. K e → Q)
failed_without (Ok a) asked f K P Q is p = tt
failed_without (Err e) asked f K P Q is p = λ k. absurd (subst (λ r. IsOkAnd r P) is (p k))

-- It gave none for want of memory, and there are words: this is not so.
pub wanting_with : {A B E F : Type 0} (given : Result A E) (asked : Result B F) (b : B) (K : E → Type 0) (Q : Type 0)
    → asked ≡ Ok b → IfErr given (λ e. K e → IsErr asked) → IfErr given (λ e. K e → Q)
wanting_with (Ok a) asked b K Q is p = tt
wanting_with (Err e) asked b K Q is p = λ k. absurd (none (subst IsErr is (p k)))
  where
    none : false ≡ true → ⊥
    none e = subst (λ (t : Bool). pick t) e tt
      where
        pick : Bool → Type 0
        pick true = ⊥
        pick false = ⊤
