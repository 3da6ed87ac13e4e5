-- How many policies grant a pair of names.
use Rattle.std.specs.Prelude.{ℕ, List, unwrap_or}
use Rattle.ctrl_model.specs.declared.kinds.Kind.{Kind}
use Rattle.ctrl_model.specs.declared.kinds.Kind.TheVariants as kind
use Rattle.ctrl_model.specs.declared.kinds.Relation.{Relation}
use Rattle.ctrl_model.specs.declared.kinds.Relation.TheVariants.{Dial, Bind, IdentityRouter, ServiceRouter}
use Rattle.ctrl_model.specs.Grants.{count}
use Rattle.ctrl_model.specs.State.{State}
use Rattle.ctrl_model.specs.Tables.{named}

-- The kind of record that stands on the left of a relation.
abbrev pub left_of : Relation → Kind
left_of Dial = kind.Identity
left_of Bind = kind.Identity
left_of IdentityRouter = kind.Identity
left_of ServiceRouter = kind.Service

-- The kind that stands on its right.
abbrev pub right_of : Relation → Kind
right_of Dial = kind.Service
right_of Bind = kind.Service
right_of IdentityRouter = kind.Router
right_of ServiceRouter = kind.Router

-- The number of the record of a kind that has a name; 0, which no record has, where none has it.
abbrev pub number_of : Kind → State → List ℕ → ℕ
number_of k s name = unwrap_or (named k s name) 0

-- How many policies grant a relation to the records of two names; 0 where one of them is absent.
abbrev pub named_count : Relation → State → (left right : List ℕ) → ℕ
named_count relation s left right = count relation s (number_of (left_of relation) s left) (number_of (right_of relation) s right)
