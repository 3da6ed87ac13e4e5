-- What the code returns of a reading.
use Rattle.std.specs.Prelude.{◌≡◌, ◌≢◌, Ok, Err}
use Rattle.std.specs.declared.result.Result.{Result}

-- What is returned, seen by `view`, is what the reading gives, unless memory is wanting.
abbrev pub Gives : {A B E : Type 0} → E → (A → B) → Result A E → Result B E → Type 0
Gives memory view (Ok x) reading = reading ≡ Ok (view x)
Gives memory view (Err e) reading = e ≢ memory → reading ≡ Err e
