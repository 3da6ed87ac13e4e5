-- Lists in bodies whose values are all of one kind (docs/FORMATS.md, "Commands").
use Rattle.std.specs.Prelude.{ℕ, if◌then◌else◌, Bool, not, List, [], ◌∷◌, ◌++◌, filter, None, Some, option_map, option_and_then}
use Rattle.std.specs.declared.option.Option.{Option}
use Rattle.std.specs.List.{list_any}
use Rattle.serde_json.specs.Data.{Data, Items, no_items, item}
use Rattle.json_body.specs.FieldKinds.{as_list_of}

-- What each of some values says, if each is of a kind.
abbrev pub each_of : {A : Type 0} → (Data → Option A) → Items → Option (List A)
each_of kind no_items = Some []
each_of kind (item d ds) = option_and_then (λ x. option_map (λ xs. x ∷ xs) (each_of kind ds)) (kind d)

-- A list of at most so many values, each of a kind.
abbrev pub as_each_of : {A : Type 0} → ℕ → (Data → Option A) → Data → Option (List A)
as_each_of most kind d = option_and_then (each_of kind) (as_list_of most d)

-- ---- lists in which a thing stands once

-- A list without repeats: of things that are the same the first stays.
abbrev pub each_once : {A : Type 0} → (A → A → Bool) → List A → List A
each_once same [] = []
each_once same (x ∷ xs) = x ∷ filter (λ y. not (same x y)) (each_once same xs)

-- The list with a thing at its end, unless it has one that is the same.
abbrev pub with_item : {A : Type 0} → (A → A → Bool) → List A → A → List A
with_item same xs y = if list_any (λ x. same x y) xs then xs else xs ++ y ∷ []

-- Some things, if there is at least one.
abbrev pub at_least_one : {A : Type 0} → List A → Option (List A)
at_least_one [] = None
at_least_one (x ∷ xs) = Some (x ∷ xs)

-- A list of at least one and at most so many values, each of a kind, as it was sent; repeats are dropped behind that.
abbrev pub as_some_once : {A : Type 0} → ℕ → (Data → Option A) → (A → A → Bool) → Data → Option (List A)
as_some_once most kind same d = option_map (each_once same) (option_and_then at_least_one (as_each_of most kind d))
