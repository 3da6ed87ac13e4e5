-- The commands on links and on the least router cost (docs/RULES.md, "Commands on links").
use Rattle.std.specs.Prelude.{ℕ, ◌==◌, Bool, true, not, ◌||◌, cond, List, None, Some}
use Rattle.std.specs.declared.option.Option.{Option}
use Rattle.std.specs.Option.{option_map_or}
use Rattle.std.specs.Str.{bytes_eq}
use Rattle.ctrl_model.specs.declared.kinds.Kind.TheVariants as kind
use Rattle.ctrl_model.specs.declared.refusals.Field.TheVariants as field
use Rattle.ctrl_model.specs.declared.refusals.Refusal.{Refusal}
use Rattle.ctrl_model.specs.declared.refusals.Refusal.TheVariants.{Full, SameRouter}
use Rattle.ctrl_model.specs.declared.replies.Reply.{Reply}
use Rattle.ctrl_model.specs.declared.replies.Reply.TheVariants.{Done, Made}
use Rattle.ctrl_model.specs.Limits.{limit}
use Rattle.ctrl_model.specs.Numbered.{at}
use Rattle.ctrl_model.specs.State.{State, Link}
use Rattle.ctrl_model.specs.Tables.{table, named, has_room}
use Rattle.ctrl_model.specs.Rules.{or_then, refuse_if, carried_out, unknown_if_absent, exists_if_present, at_number}
use Rattle.ctrl_model.specs.RecordCommands.{after_create, after_update, delete}

-- Making a link between two routers adds it under the next number, up.
abbrev pub after_create_link : List ℕ → List ℕ → List ℕ → ℕ → ℕ → ℕ → State → State
after_create_link name a b cost latency_a latency_b s =
    at_number (named kind.Router s a) s (λ from. at_number (named kind.Router s b) s (λ to.
    after_create kind.Link (record { name = name; a = from; b = to; cost = cost; latency_a = latency_a; latency_b = latency_b; up = true }) s))

-- A link is not made where one has the name, where a router is absent, where links are full, or where its two ends are one
-- router.
abbrev pub refusal_of_create_link : List ℕ → List ℕ → List ℕ → State → Option Refusal
refusal_of_create_link name a b s =
    or_then (exists_if_present (named kind.Link s name))
    (or_then (unknown_if_absent field.A (named kind.Router s a))
    (or_then (unknown_if_absent field.B (named kind.Router s b))
    (or_then (refuse_if (not (has_room (limit kind.Link) (table kind.Link s))) (Full kind.Link))
    (refuse_if (bytes_eq a b) SameRouter))))

-- The answer to CreateLink.
abbrev pub create_link : List ℕ → List ℕ → List ℕ → ℕ → ℕ → ℕ → State → Reply × State
create_link name a b cost latency_a latency_b s =
    carried_out (refusal_of_create_link name a b s) s (Made (table kind.Link s).next) (after_create_link name a b cost latency_a latency_b s)

-- Setting a link's cost sets its static cost.
abbrev pub after_set_link_cost : List ℕ → ℕ → State → State
after_set_link_cost link cost s = after_update kind.Link link (λ l. record l { cost = cost }) s

-- The answer to SetLinkCost.
abbrev pub set_link_cost : List ℕ → ℕ → State → Reply × State
set_link_cost link cost s =
    carried_out (unknown_if_absent field.Link (named kind.Link s link)) s Done (after_set_link_cost link cost s)

-- Whether a router is an end of a link.
abbrev pub is_end_of : ℕ → Link → Bool
is_end_of r l = (l.a == r) || (l.b == r)

-- The link of a name.
abbrev pub named_link : List ℕ → State → Option Link
named_link link s = option_map_or (at s.links.rows) (named kind.Link s link) None

-- The number of the router of a name, if it is an end of the link of another name.
abbrev pub end_named : List ℕ → List ℕ → State → Option ℕ
end_named link router s = option_map_or
    (λ (l : Link). option_map_or (λ r. cond (is_end_of r l) (Some r) None) (named kind.Router s router) None) (named_link link s) None

-- A report is refused where no link has the name, or where no router has the other name or that router is no end of the link.
abbrev pub refusal_of_report : List ℕ → List ℕ → State → Option Refusal
refusal_of_report link router s =
    or_then (unknown_if_absent field.Link (named kind.Link s link)) (unknown_if_absent field.Router (end_named link router s))

-- A link of which one end reports a latency: that end's latency is set.
abbrev pub with_latency : ℕ → ℕ → Link → Link
with_latency r latency l = record l {
  latency_a = cond (l.a == r) latency l.latency_a;
  latency_b = cond (l.b == r) latency l.latency_b;
}

-- Reporting a latency sets that of the router's own end.
abbrev pub after_report_latency : List ℕ → List ℕ → ℕ → State → State
after_report_latency link router latency s =
    at_number (named kind.Router s router) s (λ r. after_update kind.Link link (with_latency r latency) s)

-- The answer to ReportLatency.
abbrev pub report_latency : List ℕ → List ℕ → ℕ → State → Reply × State
report_latency link router latency s =
    carried_out (refusal_of_report link router s) s Done (after_report_latency link router latency s)

-- Reporting a state sets whether the link is up.
abbrev pub after_report_state : List ℕ → Bool → State → State
after_report_state link up s = after_update kind.Link link (λ l. record l { up = up }) s

-- The answer to ReportState.
abbrev pub report_state : List ℕ → List ℕ → Bool → State → Reply × State
report_state link router up s = carried_out (refusal_of_report link router s) s Done (after_report_state link up s)

-- The answer to DeleteLink, which removes it.
abbrev pub delete_link : List ℕ → State → Reply × State
delete_link link s = delete kind.Link field.Link link s

-- The answer to SetLeastRouterCost, which nothing refuses.
abbrev pub set_least_router_cost : ℕ → State → Reply × State
set_least_router_cost cost s = carried_out None s Done (record s { least_router_cost = cost })
