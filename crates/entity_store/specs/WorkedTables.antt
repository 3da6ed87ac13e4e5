-- Small tables for worked examples.
use Rattle.std.specs.Prelude.{ℕ, List, [], ◌∷◌, codes, filter}
use Rattle.std.specs.Set.{distinct_count}
use Rattle.std.specs.Str.{bytes_eq}
use Rattle.ctrl_model.specs.declared.kinds.Kind.TheVariants as kind
use Rattle.entity_store.specs.EntityTables.{Tables, no_entities, with_entity}
use Rattle.entity_store.specs.AttributeUses.{stays_used, used_names}

-- One identity, ann, with the attribute red.
abbrev pub ann : Tables
ann = with_entity kind.Identity (codes "ann") (codes "red" ∷ []) no_entities

-- Ann, and bob with the attributes red and blue.
abbrev pub ann_and_bob : Tables
ann_and_bob = with_entity kind.Identity (codes "bob") (codes "red" ∷ codes "blue" ∷ []) ann

-- How many attributes are in use once uses of some go and of some come.
abbrev pub in_use : Tables → List (List ℕ) → List (List ℕ) → ℕ
in_use t gone fresh = distinct_count bytes_eq (filter (stays_used t gone fresh) (used_names t fresh))
