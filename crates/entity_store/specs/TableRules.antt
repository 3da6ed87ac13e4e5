-- When an entity may be added, and what is found (docs/RULES.md, "Commands on entities", "Limits").
use Rattle.std.specs.Prelude.{ℕ, ◌≤◌, ⊤, Bool, cond, List, [], length, Ok, Err, is_some}
use Rattle.std.specs.declared.result.Result.{Result}
use Rattle.std.specs.Option.{ok_or, option_map_or}
use Rattle.ctrl_model.specs.declared.kinds.Kind.{Kind}
use Rattle.ctrl_model.specs.Limits.{limit, last_next}
use Rattle.ctrl_model.specs.Numbered.{at, is_present, Between}
use Rattle.ctrl_model.specs.State.{Entity}
use Rattle.ctrl_model.specs.Tables.{has_room}
use Rattle.entity_store.specs.declared.entities.EntityFault.{EntityFault}
use Rattle.entity_store.specs.declared.entities.EntityFault.TheVariants.{Exists, Unknown, Full}
use Rattle.entity_store.specs.EntityTables.{Tables, entities, next_of, number_of}

-- Whether one more entity of a kind can be added: fewer than its limit are present, and its numbers have not run out.
abbrev pub has_kind_room : Kind → Tables → Bool
has_kind_room k t = has_room (limit k) (record { rows = entities k t; next = next_of k t })

-- Whether an entity of a name may be added: the name is not taken, and then the kind is not full.
abbrev pub may_add : Kind → List ℕ → Tables → Result ⊤ EntityFault
may_add k name t = cond (is_some (number_of k name t)) (Err Exists) (cond (has_kind_room k t) (Ok tt) (Err (Full k)))

-- The number of the entity of a name, if one has it.
abbrev pub found : Kind → List ℕ → Tables → Result ℕ EntityFault
found k name t = ok_or (number_of k name t) Unknown

-- Whether an entity of a kind and number is present.
abbrev pub is_there : Kind → ℕ → Tables → Bool
is_there k n t = is_present (entities k t) n

-- The attributes of the entity of a kind and number.
abbrev pub attributes_at : Kind → ℕ → Tables → List (List ℕ)
attributes_at k n t = option_map_or (λ (e : Entity). e.attributes) (at (entities k t) n) []

-- What a store keeps of each kind: the numbers ascend from 1 below the next one, which has an end, and the limit is kept.
pub record KeepsNumbers (k : Kind) (t : Tables) : Type 0 where
  pub first : 1 ≤ next_of k t
  pub last : next_of k t ≤ last_next
  pub ordered : Between 1 (next_of k t) (entities k t)
  pub few : length (entities k t) ≤ limit k
