-- What the commands on named records have in common, whatever their kind: what refuses each, and what each changes (docs/RULES.md,
-- "Commands on entities", "Commands on policies").
use Rattle.std.specs.Prelude.{ℕ, not, cond, List, [], ◌∷◌, None, Some, is_some}
use Rattle.std.specs.declared.option.Option.{Option}
use Rattle.ctrl_model.specs.declared.kinds.Kind.{Kind}
use Rattle.ctrl_model.specs.declared.kinds.Kind.TheVariants as kind
use Rattle.ctrl_model.specs.declared.refusals.Field.{Field}
use Rattle.ctrl_model.specs.declared.refusals.Field.TheVariants as field
use Rattle.ctrl_model.specs.declared.refusals.Refusal.{Refusal}
use Rattle.ctrl_model.specs.declared.refusals.Refusal.TheVariants.{Full, UnknownRef}
use Rattle.ctrl_model.specs.declared.replies.Reply.{Reply}
use Rattle.ctrl_model.specs.declared.replies.Reply.TheVariants.{Done, Made}
use Rattle.ctrl_model.specs.Limits.{limit}
use Rattle.ctrl_model.specs.Numbered.{without, with_new, with_edit, with_removed, with_each}
use Rattle.ctrl_model.specs.State.{State, Policy}
use Rattle.ctrl_model.specs.Tables.{Record, table, with_table, record_name, named, has_room, left_kind, right_kind}
use Rattle.ctrl_model.specs.Rules.{or_then, refuse_if, carried_out, unknown_if_absent, exists_if_present, at_number, attributes_full, forget_left, forget_right}

-- Making a record adds it to the table of its kind, under the next number.
abbrev pub after_create : (k : Kind) → Record k → State → State
after_create k r s = with_table k (with_new r (table k s)) s

-- The record of a number is changed.
abbrev pub after_edit : (k : Kind) → ℕ → (Record k → Record k) → State → State
after_edit k n f s = with_table k (with_edit n f (table k s)) s

-- The record of a number is removed.
abbrev pub after_remove : Kind → ℕ → State → State
after_remove k n s = with_table k (with_removed n (table k s)) s

-- The refusal of the first `@` name of a role list that no entity has, in the order sent.
abbrev pub first_absent : Field → (List ℕ → Option ℕ) → List (List ℕ) → Option Refusal
first_absent field find_number [] = None
first_absent field find_number (n ∷ ns) =
    cond (is_some (find_number n)) (first_absent field find_number ns) (Some (UnknownRef field n))

-- The field of a role list that names entities of a kind.
abbrev pub roles_of : Kind → Field
roles_of kind.Identity = field.IdentityRoles
roles_of kind.Service = field.ServiceRoles
roles_of kind.Router = field.RouterRoles
roles_of k = field.Nothing

-- Which `@` name of a policy is absent: of its left side, then of its right one.
abbrev pub absent_names : Kind → Policy → State → Option Refusal
absent_names k p s =
    or_then (first_absent (roles_of (left_kind k)) (named (left_kind k) s) p.left.ids)
    (first_absent (roles_of (right_kind k)) (named (right_kind k) s) p.right.ids)

-- Which `@` name of a record is absent. Policies alone have any.
abbrev pub absent_in : (k : Kind) → Record k → State → Option Refusal
absent_in kind.ServicePolicy p s = absent_names kind.ServicePolicy p s
absent_in kind.EdgeRouterPolicy p s = absent_names kind.EdgeRouterPolicy p s
absent_in kind.ServiceEdgeRouterPolicy p s = absent_names kind.ServiceEdgeRouterPolicy p s
absent_in k r s = None

-- A record is not made where one of its kind has the name, where an `@` name is absent, where its kind is full, or where too many
-- attributes would be in use.
abbrev pub refusal_of_create : (k : Kind) → Record k → State → Option Refusal
refusal_of_create k r s =
    or_then (exists_if_present (named k s (record_name k r)))
    (or_then (absent_in k r s)
    (or_then (refuse_if (not (has_room (limit k) (table k s))) (Full k))
    (refuse_if (attributes_full (after_create k r s)) (Full kind.Attribute))))

-- The answer to a command that makes a record.
abbrev pub create : (k : Kind) → Record k → State → Reply × State
create k r s = carried_out (refusal_of_create k r s) s (Made (table k s).next) (after_create k r s)

-- Updating a record changes the one that has the name.
abbrev pub after_update : (k : Kind) → List ℕ → (Record k → Record k) → State → State
after_update k name f s = at_number (named k s name) s (λ n. after_edit k n f s)

-- A record is not updated where none has the name, where an `@` name is absent, or where too many attributes would be in use.
abbrev pub refusal_of_update : (k : Kind) → List ℕ → (Record k → Record k) → Option Refusal → State → Option Refusal
refusal_of_update k name f absent s =
    or_then (unknown_if_absent field.Name (named k s name))
    (or_then absent
    (refuse_if (attributes_full (after_update k name f s)) (Full kind.Attribute)))

-- The answer to a command that updates a record.
abbrev pub update : (k : Kind) → List ℕ → (Record k → Record k) → Option Refusal → State → Reply × State
update k name f absent s = carried_out (refusal_of_update k name f absent s) s Done (after_update k name f s)

-- The name of a deleted entity goes from the sides of the policies that name entities of its kind.
abbrev pub forgotten : Kind → List ℕ → State → State
forgotten kind.Identity name s = record s {
  service_policies = with_each (forget_left name) s.service_policies;
  edge_router_policies = with_each (forget_left name) s.edge_router_policies;
}
forgotten kind.Service name s = record s {
  service_policies = with_each (forget_right name) s.service_policies;
  service_edge_router_policies = with_each (forget_left name) s.service_edge_router_policies;
}
forgotten kind.Router name s = record s {
  edge_router_policies = with_each (forget_right name) s.edge_router_policies;
  service_edge_router_policies = with_each (forget_right name) s.service_edge_router_policies;
}
forgotten k name s = s

-- The intercept of a service goes.
abbrev pub without_intercept : Kind → ℕ → State → State
without_intercept kind.Service n s = record s { intercepts = without s.intercepts n }
without_intercept k n s = s

-- Deleting a record removes the one that has the name, a service's intercept with it, and an entity's name from the sides that
-- name it.
abbrev pub after_delete : Kind → List ℕ → State → State
after_delete k name s = at_number (named k s name) s (λ n. forgotten k name (without_intercept k n (after_remove k n s)))

-- The answer to a command that deletes a record, whose name a field gives.
abbrev pub delete : Kind → Field → List ℕ → State → Reply × State
delete k field name s = carried_out (unknown_if_absent field (named k s name)) s Done (after_delete k name s)
