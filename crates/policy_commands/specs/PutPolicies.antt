-- When a policy may be put beside some entities (docs/RULES.md, "Commands on policies", "Limits").
use Rattle.std.specs.Prelude.{ℕ, ⊤, min, Bool, true, false, not, ◌&&◌, cond, List, position, Some, Ok, Err, is_none}
use Rattle.std.specs.declared.option.Option.{Option}
use Rattle.std.specs.declared.result.Result.{Result}
use Rattle.std.specs.Option.{option_map, option_map_or}
use Rattle.ctrl_model.specs.declared.kinds.Kind.{Kind}
use Rattle.ctrl_model.specs.State.{Policy}
use Rattle.entity_store.specs.EntityTables.{Tables}
use Rattle.entity_store.specs.EntityTables as entity_tables
use Rattle.policy_store.specs.declared.policies.PolicyFault.{PolicyFault}
use Rattle.policy_store.specs.declared.policies.PolicyFault.TheVariants.{Exists, Unknown, UnknownRef, Full}
use Rattle.policy_store.specs.PolicyRules.{has_kind_room, has_fitting_name}
use Rattle.policy_store.specs.PolicyTables.{PolicyTables, left_kind, right_kind}
use Rattle.ctrl_model.specs.Limits.{most_number}

-- The place of the first `@` name that no entity of a kind has, if there is one; at most 4,294,967,295.
abbrev pub absent_place : Kind → List (List ℕ) → Tables → Option ℕ
absent_place k ids e = option_map (λ i. min i most_number) (position (λ name. is_none (entity_tables.number_of k name e)) ids)

-- The fault of the first absent `@` name of a right side.
abbrev pub absent_on_right : Kind → Policy → Tables → Option PolicyFault
absent_on_right k p e = option_map (λ i. UnknownRef true i) (absent_place (right_kind k) p.right.ids e)

-- The fault of the first absent `@` name: on the left side before the right one.
abbrev pub absent_name : Kind → Policy → Tables → Option PolicyFault
absent_name k p e = option_map_or (λ i. Some (UnknownRef false i)) (absent_place (left_kind k) p.left.ids e) (absent_on_right k p e)

-- Whether a policy may be put: a fresh one not where its name is taken, another not where nothing has its name; neither where
-- an `@` name is absent; and a fresh one not where its kind is full.
abbrev pub may_put : Kind → Policy → Bool → PolicyTables → Tables → Result ⊤ PolicyFault
may_put k p fresh t e =
    cond (has_fitting_name k p.name fresh t)
    (option_map_or (λ f. Err f) (absent_name k p e) (cond (fresh && not (has_kind_room k t)) (Err (Full k)) (Ok tt)))
    (Err (cond fresh Exists Unknown))
