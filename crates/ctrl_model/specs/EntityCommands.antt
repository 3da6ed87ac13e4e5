-- The commands on identities, services and edge routers (docs/RULES.md, "Commands on entities"). What they have in common is said
-- of every kind of named record.
use Rattle.std.specs.Prelude.{ℕ, Bool, false, not, List, None}
use Rattle.ctrl_model.specs.declared.kinds.Kind.TheVariants as kind
use Rattle.ctrl_model.specs.declared.refusals.Field.TheVariants as field
use Rattle.ctrl_model.specs.declared.replies.Reply.{Reply}
use Rattle.ctrl_model.specs.declared.replies.Reply.TheVariants.{Done}
use Rattle.ctrl_model.specs.State.{State, Entity, Router}
use Rattle.ctrl_model.specs.Tables.{named}
use Rattle.ctrl_model.specs.Rules.{carried_out, unknown_if_absent}
use Rattle.ctrl_model.specs.RecordCommands.{create, update, delete, after_update}

-- An entity of a name and attributes.
abbrev pub entity : List ℕ → List (List ℕ) → Entity
entity name attributes = record { name = name; attributes = attributes }

-- An entity with other attributes.
abbrev pub described : List (List ℕ) → Entity → Entity
described attributes e = record e { attributes = attributes }

-- A router as it is made: not connected.
abbrev pub new_router : List ℕ → List (List ℕ) → ℕ → Bool → Router
new_router name attributes cost no_traversal =
    record { name = name; attributes = attributes; cost = cost; through = not no_traversal; connected = false }

-- A router with other attributes, another cost, and another mark of whether it may be passed through. It stays connected or not.
abbrev pub described_router : List (List ℕ) → ℕ → Bool → Router → Router
described_router attributes cost no_traversal r = record r { attributes = attributes; cost = cost; through = not no_traversal }

-- A router connected or not.
abbrev pub marked : Bool → Router → Router
marked connected r = record r { connected = connected }

-- The answer to CreateIdentity.
abbrev pub create_identity : List ℕ → List (List ℕ) → State → Reply × State
create_identity name attributes s = create kind.Identity (entity name attributes) s

-- The answer to UpdateIdentity, which replaces its attributes.
abbrev pub update_identity : List ℕ → List (List ℕ) → State → Reply × State
update_identity name attributes s = update kind.Identity name (described attributes) None s

-- The answer to DeleteIdentity.
abbrev pub delete_identity : List ℕ → State → Reply × State
delete_identity name s = delete kind.Identity field.Name name s

-- The answer to CreateService.
abbrev pub create_service : List ℕ → List (List ℕ) → State → Reply × State
create_service name attributes s = create kind.Service (entity name attributes) s

-- The answer to UpdateService, which replaces its attributes.
abbrev pub update_service : List ℕ → List (List ℕ) → State → Reply × State
update_service name attributes s = update kind.Service name (described attributes) None s

-- The answer to DeleteService.
abbrev pub delete_service : List ℕ → State → Reply × State
delete_service name s = delete kind.Service field.Name name s

-- The answer to CreateRouter.
abbrev pub create_router : List ℕ → List (List ℕ) → ℕ → Bool → State → Reply × State
create_router name attributes cost no_traversal s = create kind.Router (new_router name attributes cost no_traversal) s

-- The answer to UpdateRouter.
abbrev pub update_router : List ℕ → List (List ℕ) → ℕ → Bool → State → Reply × State
update_router name attributes cost no_traversal s = update kind.Router name (described_router attributes cost no_traversal) None s

-- The answer to DeleteRouter.
abbrev pub delete_router : List ℕ → State → Reply × State
delete_router name s = delete kind.Router field.Name name s

-- The answer to ConnectRouter and, with the mark false, to DisconnectRouter. No attribute comes into use.
abbrev pub mark_router : List ℕ → Bool → State → Reply × State
mark_router name connected s =
    carried_out (unknown_if_absent field.Name (named kind.Router s name)) s Done (after_update kind.Router name (marked connected) s)
