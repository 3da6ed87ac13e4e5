-- The commands on the three kinds of policy (docs/RULES.md, "Commands on policies"). What they have in common is said of every kind
-- of named record.
use Rattle.std.specs.Prelude.{ℕ, List}
use Rattle.ctrl_model.specs.declared.kinds.Kind.TheVariants as kind
use Rattle.ctrl_model.specs.declared.refusals.Field.TheVariants as field
use Rattle.ctrl_model.specs.declared.replies.Reply.{Reply}
use Rattle.ctrl_model.specs.State.{State, Policy}
use Rattle.ctrl_model.specs.RecordCommands.{create, update, delete, absent_names}

-- A policy's parts, put in place of another's under its name.
abbrev pub replaced_by : Policy → Policy → Policy
replaced_by p old = record p { name = old.name }

-- The answer to CreateServicePolicy.
abbrev pub create_service_policy : Policy → State → Reply × State
create_service_policy p s = create kind.ServicePolicy p s

-- The answer to UpdateServicePolicy, which replaces all of it but its name.
abbrev pub update_service_policy : Policy → State → Reply × State
update_service_policy p s = update kind.ServicePolicy p.name (replaced_by p) (absent_names kind.ServicePolicy p s) s

-- The answer to DeleteServicePolicy.
abbrev pub delete_service_policy : List ℕ → State → Reply × State
delete_service_policy name s = delete kind.ServicePolicy field.Name name s

-- The answer to CreateEdgeRouterPolicy.
abbrev pub create_edge_router_policy : Policy → State → Reply × State
create_edge_router_policy p s = create kind.EdgeRouterPolicy p s

-- The answer to UpdateEdgeRouterPolicy, which replaces all of it but its name.
abbrev pub update_edge_router_policy : Policy → State → Reply × State
update_edge_router_policy p s = update kind.EdgeRouterPolicy p.name (replaced_by p) (absent_names kind.EdgeRouterPolicy p s) s

-- The answer to DeleteEdgeRouterPolicy.
abbrev pub delete_edge_router_policy : List ℕ → State → Reply × State
delete_edge_router_policy name s = delete kind.EdgeRouterPolicy field.Name name s

-- The answer to CreateServiceEdgeRouterPolicy.
abbrev pub create_service_edge_router_policy : Policy → State → Reply × State
create_service_edge_router_policy p s = create kind.ServiceEdgeRouterPolicy p s

-- The answer to UpdateServiceEdgeRouterPolicy, which replaces all of it but its name.
abbrev pub update_service_edge_router_policy : Policy → State → Reply × State
update_service_edge_router_policy p s =
    update kind.ServiceEdgeRouterPolicy p.name (replaced_by p) (absent_names kind.ServiceEdgeRouterPolicy p s) s

-- The answer to DeleteServiceEdgeRouterPolicy.
abbrev pub delete_service_edge_router_policy : List ℕ → State → Reply × State
delete_service_edge_router_policy name s = delete kind.ServiceEdgeRouterPolicy field.Name name s
