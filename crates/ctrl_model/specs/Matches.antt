-- When an entity matches a side of a policy (docs/RULES.md, "Policies and grants").
use Rattle.std.specs.Prelude.{ℕ, Bool, true, false, not, ◌&&◌, ◌||◌, List, [], ◌∷◌}
use Rattle.std.specs.List.{list_any, list_all}
use Rattle.std.specs.Str.{bytes_eq}
use Rattle.ctrl_model.specs.declared.kinds.Side.{Side}
use Rattle.ctrl_model.specs.declared.kinds.Semantic.{Semantic}
use Rattle.ctrl_model.specs.declared.kinds.Semantic.TheVariants.{AnyOf, AllOf}
use Rattle.ctrl_model.specs.State.{Entity}

-- Whether a name stands in a list of names.
abbrev pub has_name : List (List ℕ) → List ℕ → Bool
has_name names name = list_any (λ n. bytes_eq n name) names

-- Whether a list has nothing in it.
abbrev pub is_nothing : {X : Type 0} → List X → Bool
is_nothing [] = true
is_nothing (x ∷ xs) = false

-- Whether the attributes that are had satisfy those that are wanted: one of them under AnyOf; under AllOf all of them, and
-- no list at all satisfies nobody.
abbrev pub has_attributes : Semantic → List (List ℕ) → List (List ℕ) → Bool
has_attributes AnyOf wanted had = list_any (has_name had) wanted
has_attributes AllOf wanted had = not (is_nothing wanted) && list_all (has_name had) wanted

-- Whether an entity matches a side: the side is `#all`, or names the entity with `@`, or wants attributes that it has.
abbrev pub matches : Side → Semantic → Entity → Bool
matches side semantic e = side.all || (has_name side.ids e.name || has_attributes semantic side.attributes e.attributes)
