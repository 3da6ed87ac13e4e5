-- What a look-up that answers a number or a fault says of what was looked up.
use Rattle.std.proofs.Common.{◌≡◌, Option, None, Some, Result, Ok, Err, refl, sym, ap}
use Rattle.std.specs.Option.{ok_or}

pub some_from_ok : {T E : Type 0} (o : Option T) (fault : E) (n : T) → ◌≡◌ {A = Result T E} (Ok n) (ok_or o fault) → o ≡ Some n
some_from_ok None fault n e = absurd (cc)
some_from_ok (Some m) fault n e = let same : n ≡ m = cc in ap Some (sym same)

pub none_from_err : {T E : Type 0} (o : Option T) (fault f : E) → ◌≡◌ {A = Result T E} (Err f) (ok_or o fault) → o ≡ None
none_from_err None fault f e = refl
none_from_err (Some m) fault f e = absurd (cc)
