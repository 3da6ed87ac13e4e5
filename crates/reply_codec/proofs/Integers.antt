-- No list of numbers has a float.
use Rattle.std.proofs.Common.{◌≡◌, ℕ, false, List, [], ◌∷◌, map, refl}
use Rattle.serde_json.specs.Data.{Data}
use Rattle.serde_json.specs.View.{items_of}
use Rattle.serde_json.specs.Written.{has_float, items_have_float}
use Rattle.reply_codec.specs.ReplyBody.{natural, naturals}

pub items_plain : {X : Type 0} (f : X → Data) → ((x : X) → has_float (f x) ≡ false) → (xs : List X) → items_have_float (items_of (map f xs)) ≡ false
items_plain f each [] = refl
items_plain f each (x ∷ xs) = rw (each x) (items_plain f each xs)

pub naturals_plain : (ns : List ℕ) → has_float (naturals ns) ≡ false
naturals_plain ns = items_plain natural (λ n. refl) ns
