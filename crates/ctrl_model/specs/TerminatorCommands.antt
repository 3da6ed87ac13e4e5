-- The commands on terminators (docs/RULES.md, "Commands on terminators").
use Rattle.std.specs.Prelude.{ℕ, Bool, false, not, List, None, is_none}
use Rattle.std.specs.declared.option.Option.{Option}
use Rattle.std.specs.Option.{option_map_or}
use Rattle.ctrl_model.specs.declared.kinds.Kind.TheVariants as kind
use Rattle.ctrl_model.specs.declared.kinds.Precedence.{Precedence}
use Rattle.ctrl_model.specs.declared.kinds.Relation.TheVariants.{Bind}
use Rattle.ctrl_model.specs.declared.refusals.Field.TheVariants as field
use Rattle.ctrl_model.specs.declared.refusals.Refusal.{Refusal}
use Rattle.ctrl_model.specs.declared.refusals.Refusal.TheVariants.{Full, NotBindable, Unknown}
use Rattle.ctrl_model.specs.declared.replies.Reply.{Reply}
use Rattle.ctrl_model.specs.declared.replies.Reply.TheVariants.{Done, Made}
use Rattle.ctrl_model.specs.Limits.{limit}
use Rattle.ctrl_model.specs.Numbered.{is_present}
use Rattle.ctrl_model.specs.State.{State}
use Rattle.ctrl_model.specs.Tables.{table, named, has_room}
use Rattle.ctrl_model.specs.Grants.{is_granted}
use Rattle.ctrl_model.specs.Rules.{or_then, refuse_if, carried_out, unknown_if_absent, at_number}
use Rattle.ctrl_model.specs.RecordCommands.{after_create, after_edit, after_remove}

-- The number of the host that a terminator names; none where it names none.
abbrev pub host_number : State → Option (List ℕ) → Option ℕ
host_number s host = option_map_or (named kind.Identity s) host None

-- A terminator names a host that is absent.
abbrev pub is_host_absent : State → Option (List ℕ) → Bool
is_host_absent s host = option_map_or (λ name. is_none (named kind.Identity s name)) host false

-- A host lacks Bind on the service.
abbrev pub lacks_bind : State → Option ℕ → Option ℕ → Bool
lacks_bind s host service = option_map_or (λ h. option_map_or (λ n. not (is_granted Bind s h n)) service false) host false

-- Making a terminator adds it under the next number.
abbrev pub after_create_terminator : List ℕ → List ℕ → List ℕ → Option (List ℕ) → ℕ → Precedence → State → State
after_create_terminator service router instance host cost precedence s =
    at_number (named kind.Service s service) s (λ n. at_number (named kind.Router s router) s (λ r. after_create kind.Terminator
    (record { service = n; router = r; instance = instance; host = host_number s host; cost = cost; precedence = precedence }) s))

-- A terminator is not made where its service, its router or its host is absent, where terminators are full, or where its
-- host lacks Bind on the service.
abbrev pub refusal_of_create_terminator : List ℕ → List ℕ → Option (List ℕ) → State → Option Refusal
refusal_of_create_terminator service router host s =
    or_then (unknown_if_absent field.Service (named kind.Service s service))
    (or_then (unknown_if_absent field.Router (named kind.Router s router))
    (or_then (refuse_if (is_host_absent s host) (Unknown field.Host))
    (or_then (refuse_if (not (has_room (limit kind.Terminator) (table kind.Terminator s))) (Full kind.Terminator))
    (refuse_if (lacks_bind s (host_number s host) (named kind.Service s service)) NotBindable))))

-- The answer to CreateTerminator.
abbrev pub create_terminator : List ℕ → List ℕ → List ℕ → Option (List ℕ) → ℕ → Precedence → State → Reply × State
create_terminator service router instance host cost precedence s =
    carried_out (refusal_of_create_terminator service router host s) s (Made (table kind.Terminator s).next)
    (after_create_terminator service router instance host cost precedence s)

-- The refusal of a number that no terminator has.
abbrev pub no_such_terminator : ℕ → State → Option Refusal
no_such_terminator n s = refuse_if (not (is_present s.terminators.rows n)) (Unknown field.No)

-- Updating a terminator replaces its cost and its precedence.
abbrev pub after_update_terminator : ℕ → ℕ → Precedence → State → State
after_update_terminator n cost precedence s =
    after_edit kind.Terminator n (λ e. record e { cost = cost; precedence = precedence }) s

-- The answer to UpdateTerminator.
abbrev pub update_terminator : ℕ → ℕ → Precedence → State → Reply × State
update_terminator n cost precedence s =
    carried_out (no_such_terminator n s) s Done (after_update_terminator n cost precedence s)

-- The answer to DeleteTerminator, which removes it.
abbrev pub delete_terminator : ℕ → State → Reply × State
delete_terminator n s = carried_out (no_such_terminator n s) s Done (after_remove kind.Terminator n s)
