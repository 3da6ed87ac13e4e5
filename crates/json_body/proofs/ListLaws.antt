-- How many values a list has, and whether they are few enough.
use Rattle.std.proofs.Common.{◌≡◌, ℕ, ◌≤◌, ◌<◌, List, [], ◌∷◌, length, Some, None, refl, le-leb, arith}
use Rattle.std.proofs.lemmas.Bool.{lt-leb}
use Rattle.serde_json.specs.Data.{Data}
use Rattle.serde_json.specs.Find.{as_array}
use Rattle.serde_json.specs.View.{items_view}
use Rattle.serde_json.specs.declared.value.Value.{Value}
use Rattle.json_body.specs.FieldKinds.{items_count, as_list_of}

pub items_count-items_view : (vs : List Value) → items_count (items_view vs) ≡ length vs
items_count-items_view [] = refl
items_count-items_view (v ∷ vs) = omega (arith, items_count-items_view vs)

-- A list that has at most so many values.
pub list-within : (most : ℕ) (d : Data) (vs : List Value) → Some (items_view vs) ≡ as_array d → length vs ≤ most → Some (items_view vs) ≡ as_list_of most d
list-within most d vs is few = rw (← is, items_count-items_view vs, le-leb (length vs) most few) refl

-- A list that has more.
pub list-beyond : (most : ℕ) (d : Data) (vs : List Value) → Some (items_view vs) ≡ as_array d → most < length vs → None ≡ as_list_of most d
list-beyond most d vs is many = rw (← is, items_count-items_view vs, lt-leb (length vs) most many) refl
