-- How what several calls did to told bytes joins up. A crate above joins the calls of its loops by these.
use Rattle.std.proofs.Common.{◌≡◌, ℕ, List, [], ◌++◌, None, Some, refl, sym, ap, ◌∙◌, append_assoc, append-nil}
use Rattle.std.proofs.KnownBytes.{Consumes-nil, Consumes-trans, Consumes-kept, Appends-nil, Appends-trans, Appends-kept}
use Rattle.std.specs.declared.option.Option.{Option}
use Rattle.std.specs.Io.KnownBytes.{Keeps}
use Rattle.ziti_outside.specs.Told.{Gave, Took, AreTaken, IsFront}

-- Nothing was given where the same is left.
pub Gave-none : (a : Option (List ℕ)) → Gave a a []
Gave-none a = Consumes-nil a

-- What two takes gave, one after the other.
pub Gave-then : (a b c : Option (List ℕ)) (xs ys : List ℕ) → Gave a b xs → Gave b c ys → Gave a c (xs ++ ys)
Gave-then a b c xs ys p q = Consumes-trans a b c xs ys p q

-- What was given, where nothing more was after it.
pub Gave-kept : (a b c : Option (List ℕ)) (xs : List ℕ) → Gave a b xs → Keeps b c → Gave a c xs
Gave-kept a b c xs p q = Consumes-kept a b c xs p q

-- Nothing was taken where the same stands.
pub Took-none : (a : Option (List ℕ)) → Took a a []
Took-none a = Appends-nil a

-- What two calls took, one after the other.
pub Took-then : (a b c : Option (List ℕ)) (xs ys : List ℕ) → Took a b xs → Took b c ys → Took a c (xs ++ ys)
Took-then a b c xs ys p q = Appends-trans a b c xs ys p q

-- What was taken, where nothing more was after it.
pub Took-kept : (a b c : Option (List ℕ)) (xs : List ℕ) → Took a b xs → Keeps b c → Took a c xs
Took-kept a b c xs p q = Appends-kept a b c xs p q

-- Nothing was taken since these bytes were.
pub Took-taken : (a : Option (List ℕ)) (taken : List ℕ) → AreTaken a taken → Took a (Some taken) []
Took-taken None taken p = tt
Took-taken (Some xs) taken p = p ∙ sym (append-nil xs)

-- These bytes were taken where nothing was taken since.
pub AreTaken-took : (a : Option (List ℕ)) (taken : List ℕ) → Took a (Some taken) [] → AreTaken a taken
AreTaken-took None taken p = tt
AreTaken-took (Some xs) taken p = p ∙ append-nil xs

-- Nothing is a front of all.
pub IsFront-none : (xs : List ℕ) → IsFront [] xs
IsFront-none xs = (xs, refl)

-- All is a front of itself.
pub IsFront-all : (xs : List ℕ) → IsFront xs xs
IsFront-all xs = ([], append-nil xs)

-- What is done, and a front of what comes next, is a front of the whole.
pub IsFront-then : (done part next whole : List ℕ) → IsFront part next → done ++ next ≡ whole → IsFront (done ++ part) whole
IsFront-then done part next whole p e =
    (p.0, append_assoc done part p.0 ∙ ap (λ (l : List ℕ). done ++ l) p.1 ∙ e)

-- A front of a front is a front of the whole.
pub IsFront-longer : (part next rest whole : List ℕ) → IsFront part next → next ++ rest ≡ whole → IsFront part whole
IsFront-longer part next rest whole p e =
    (p.0 ++ rest, sym (append_assoc part p.0 rest) ∙ ap (λ (l : List ℕ). l ++ rest) p.1 ∙ e)
