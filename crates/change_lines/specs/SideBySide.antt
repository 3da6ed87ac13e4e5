-- Two lists of values under keys that rise, side by side (docs/FORMATS.md, "Lines of changes").
use Rattle.std.specs.Prelude.{ℕ, List, [], ◌∷◌, ◌++◌, None, Some}
use Rattle.std.specs.declared.option.Option.{Option}
use Rattle.std.specs.List.{flat_map}
use Rattle.std.specs.Ordering.{match_ordering}
use Rattle.row_codec.specs.RowKeys.{Key, key_cmp}

-- What is said with one more value at the front of the first list, whose key comes before those of its others.
abbrev pub with_first : {V : Type 0} → (Option V → Option V → List ℕ) → Key × V → (List (Key × V) → List ℕ) → List (Key × V) → List ℕ
with_first said x rest [] = said (Some x.1) None ++ rest []
with_first said x rest (y ∷ ys) =
    match_ordering (key_cmp x.0 y.0)
    (said (Some x.1) None ++ rest (y ∷ ys))
    (said (Some x.1) (Some y.1) ++ rest ys)
    (said None (Some y.1) ++ with_first said x rest ys)

-- What is said of each key of two lists, in the order of the keys: of what the first list has under it, and of what the second one has.
abbrev pub side_by_side : {V : Type 0} → (Option V → Option V → List ℕ) → List (Key × V) → List (Key × V) → List ℕ
side_by_side said [] ys = flat_map (λ y. said None (Some y.1)) ys
side_by_side said (x ∷ xs) ys = with_first said x (side_by_side said xs) ys
