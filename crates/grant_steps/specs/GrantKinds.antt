-- Which kinds of entity and of policy a relation has (docs/RULES.md, "Policies and grants").
use Rattle.std.specs.Prelude.{Bool, true, false}
use Rattle.ctrl_model.specs.declared.kinds.Kind.{Kind}
use Rattle.ctrl_model.specs.declared.kinds.Kind.TheVariants as kind
use Rattle.ctrl_model.specs.declared.kinds.Relation.{Relation}
use Rattle.ctrl_model.specs.declared.kinds.Relation.TheVariants.{Dial, Bind, IdentityRouter, ServiceRouter}

-- The kind of entity on the left of a relation.
abbrev pub left_kind_of : Relation → Kind
left_kind_of Dial = kind.Identity
left_kind_of Bind = kind.Identity
left_kind_of IdentityRouter = kind.Identity
left_kind_of ServiceRouter = kind.Service

-- The kind of entity on the right of a relation.
abbrev pub right_kind_of : Relation → Kind
right_kind_of Dial = kind.Service
right_kind_of Bind = kind.Service
right_kind_of IdentityRouter = kind.Router
right_kind_of ServiceRouter = kind.Router

-- The kind of entity on the other side of a relation from an entity, which stands on the left or on the right.
abbrev pub other_kind : Bool → Relation → Kind
other_kind true r = right_kind_of r
other_kind false r = left_kind_of r

-- The kind of the policies that can be of a relation.
abbrev pub policy_kind : Relation → Kind
policy_kind Dial = kind.ServicePolicy
policy_kind Bind = kind.ServicePolicy
policy_kind IdentityRouter = kind.EdgeRouterPolicy
policy_kind ServiceRouter = kind.ServiceEdgeRouterPolicy
