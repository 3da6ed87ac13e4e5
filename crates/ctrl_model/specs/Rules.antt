-- What the rules of commands have in common: how a refusal is found and what it leaves, names looked up, and limits
-- (docs/RULES.md, "Refusals", "Limits").
use Rattle.std.specs.Prelude.{ℕ, Bool, not, nat_lt, cond, List, ◌++◌, filter, None, Some, is_some, is_none}
use Rattle.std.specs.declared.option.Option.{Option}
use Rattle.std.specs.Option.{option_map_or}
use Rattle.std.specs.List.{flat_map}
use Rattle.std.specs.Set.{distinct_count}
use Rattle.std.specs.Str.{bytes_eq}
use Rattle.ctrl_model.specs.declared.kinds.Kind.TheVariants as kind
use Rattle.ctrl_model.specs.declared.kinds.Side.{Side}
use Rattle.ctrl_model.specs.declared.refusals.Field.{Field}
use Rattle.ctrl_model.specs.declared.refusals.Refusal.{Refusal}
use Rattle.ctrl_model.specs.declared.refusals.Refusal.TheVariants as refusal
use Rattle.ctrl_model.specs.declared.replies.Reply.{Reply}
use Rattle.ctrl_model.specs.declared.replies.Reply.TheVariants.{Refused}
use Rattle.ctrl_model.specs.Limits.{limit}
use Rattle.ctrl_model.specs.State.{State, Policy}
use Rattle.ctrl_model.specs.Settling.{settle}

-- The first of two refusals, of which the second is looked for only where the first does not come.
abbrev pub or_then : Option Refusal → Option Refusal → Option Refusal
or_then (Some r) later = Some r
or_then None later = later

-- A refusal that comes where a test holds.
abbrev pub refuse_if : Bool → Refusal → Option Refusal
refuse_if test r = cond test (Some r) None

-- A command with an effect: refused it leaves the state, else the effect is settled.
abbrev pub carried_out : Option Refusal → State → Reply → State → Reply × State
carried_out (Some r) s reply effect = (Refused r, s)
carried_out None s reply effect = (reply, settle effect)

-- A command without an effect leaves the state, refused or not.
abbrev pub shown : Option Refusal → State → Reply → Reply × State
shown (Some r) s reply = (Refused r, s)
shown None s reply = (reply, s)

-- The refusal of a name that a field gives and nothing has.
abbrev pub unknown_if_absent : Field → Option ℕ → Option Refusal
unknown_if_absent field found = refuse_if (is_none found) (refusal.Unknown field)

-- The refusal of a name that is taken.
abbrev pub exists_if_present : Option ℕ → Option Refusal
exists_if_present found = refuse_if (is_some found) refusal.Exists

-- A change at a number, if there is one.
abbrev pub at_number : Option ℕ → State → (ℕ → State) → State
at_number found s effect = option_map_or effect found s

-- The attributes of both sides of a policy.
abbrev pub side_attributes : ℕ × Policy → List (List ℕ)
side_attributes row = row.1.left.attributes ++ row.1.right.attributes

-- The attributes that entities and policies use, with repeats.
abbrev pub attributes_in_use : State → List (List ℕ)
attributes_in_use s =
    flat_map (λ row. row.1.attributes) s.identities.rows
    ++ (flat_map (λ row. row.1.attributes) s.services.rows
    ++ (flat_map (λ row. row.1.attributes) s.routers.rows
    ++ (flat_map side_attributes s.service_policies.rows
    ++ (flat_map side_attributes s.edge_router_policies.rows
    ++ flat_map side_attributes s.service_edge_router_policies.rows))))

-- More attributes are in use than may be, each counted once.
abbrev pub attributes_full : State → Bool
attributes_full s = nat_lt (limit kind.Attribute) (distinct_count bytes_eq (attributes_in_use s))

-- A side without an `@` name.
abbrev pub without_name : List ℕ → Side → Side
without_name name side = record side { ids = filter (λ n. not (bytes_eq n name)) side.ids }

-- A policy whose left side does not name an entity.
abbrev pub forget_left : List ℕ → Policy → Policy
forget_left name p = record p { left = without_name name p.left }

-- A policy whose right side does not name an entity.
abbrev pub forget_right : List ℕ → Policy → Policy
forget_right name p = record p { right = without_name name p.right }
