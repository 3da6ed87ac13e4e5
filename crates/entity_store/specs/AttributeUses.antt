-- The uses of attributes: one for each entry of an entity's attributes, and those that are held besides, as for policies
-- (docs/RULES.md, "Limits").
use Rattle.std.specs.Prelude.{◌≡◌, ℕ, ◌+◌, ◌≤◌, nat_lt, nat_le, Bool, cond, List, [], ◌∷◌, ◌++◌, map, filter}
use Rattle.std.specs.List.{flat_map}
use Rattle.std.specs.Set.{distinct_count}
use Rattle.std.specs.Str.{bytes_eq}
use Rattle.ctrl_model.specs.declared.kinds.Kind.TheVariants as kind
use Rattle.ctrl_model.specs.Limits.{limit}
pub use Rattle.attr_pool.specs.Uses.{times}
use Rattle.entity_store.specs.EntityTables.{Tables}

-- The uses of a name that are held.
abbrev pub held_times : List ℕ → List (List ℕ × ℕ) → ℕ
held_times name [] = 0
held_times name (x ∷ xs) = cond (bytes_eq x.0 name) x.1 0 + held_times name xs

-- The attributes of all entities, with repeats.
abbrev pub entity_attributes : Tables → List (List ℕ)
entity_attributes t =
    flat_map (λ row. row.1.attributes) t.identities.rows
    ++ (flat_map (λ row. row.1.attributes) t.services.rows ++ flat_map (λ row. row.1.attributes) t.routers.rows)

-- The uses of a name: by entities, and held.
abbrev pub uses : List ℕ → Tables → ℕ
uses name t = times name (entity_attributes t) + held_times name t.held

-- The names that are used or would be, with repeats: those of entities, the held ones, and some fresh ones.
abbrev pub used_names : Tables → List (List ℕ) → List (List ℕ)
used_names t fresh = entity_attributes t ++ (map (λ x. x.0) t.held ++ fresh)

-- Whether a name would be in use once the uses of some names are taken away and some are added.
abbrev pub stays_used : Tables → List (List ℕ) → List (List ℕ) → List ℕ → Bool
stays_used t gone fresh name = nat_lt (times name gone) (uses name t + times name fresh)

-- Whether at most 4,096 attributes would be in use then, each counted once.
abbrev pub has_attribute_room : Tables → List (List ℕ) → List (List ℕ) → Bool
has_attribute_room t gone fresh = nat_le (distinct_count bytes_eq (filter (stays_used t gone fresh) (used_names t fresh))) (limit kind.Attribute)

-- Each of these names has as many uses as it stands among them.
abbrev pub AreUsed : Tables → List (List ℕ) → Type 0
AreUsed t names = (name : List ℕ) → times name names ≤ uses name t

-- Each of these names has as many held uses as it stands among them.
abbrev pub AreHeld : Tables → List (List ℕ) → Type 0
AreHeld t names = (name : List ℕ) → times name names ≤ held_times name t.held

-- One use more is held for each of these names, and all else stays.
pub record Holds (names : List (List ℕ)) (old new : Tables) : Type 0 where
  pub more : (name : List ℕ) → held_times name new.held ≡ held_times name old.held + times name names
  pub others : record new { held = old.held } ≡ old

-- One held use of each of these names is taken away, and all else stays.
pub record LetsGo (names : List (List ℕ)) (old new : Tables) : Type 0 where
  pub fewer : (name : List ℕ) → held_times name new.held + times name names ≡ held_times name old.held
  pub others : record new { held = old.held } ≡ old
