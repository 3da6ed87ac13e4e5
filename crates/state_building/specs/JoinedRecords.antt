-- A record, an intercept or a serial that joins a state, and why one cannot (docs/RULES.md, "Valid states").
use Rattle.std.specs.Prelude.{ℕ, Bool, true, not, cond, ◌&&◌, ◌||◌, nat_lt, nat_le, List, length, None, Some, is_some}
use Rattle.std.specs.declared.option.Option.{Option}
use Rattle.std.specs.List.{list_all}
use Rattle.ctrl_model.specs.declared.kinds.Kind.{Kind}
use Rattle.ctrl_model.specs.declared.kinds.Kind.TheVariants as kind
use Rattle.ctrl_model.specs.declared.intercepts.Intercept.{Intercept}
use Rattle.ctrl_model.specs.InterceptForm.{is_intercept}
use Rattle.ctrl_model.specs.Limits.{limit, last_serial}
use Rattle.ctrl_model.specs.Numbered.{is_present, with_last}
use Rattle.ctrl_model.specs.State.{State, Policy}
use Rattle.ctrl_model.specs.Tables.{Record, table, with_table, has_names, record_name, named, left_kind, right_kind}
use Rattle.ctrl_model.specs.Rules.{attributes_full}
use Rattle.ctrl_model.specs.RecordCommands.{after_create}
use Rattle.ctrl_model.specs.Settling.{link_stays, terminator_stays, stays_in}
use Rattle.ctrl_model.specs.ValidState.{is_valid_entity, is_valid_router, is_valid_link, is_valid_policy, is_valid_terminator, are_found, may_relate}
use Rattle.state_building.specs.declared.flaws.Flaw.{Flaw}
use Rattle.state_building.specs.declared.flaws.Flaw.TheVariants.{NoRecord, OutOfOrder, NameTaken, Hanging, Unsettled, TooMany}

-- The state with another next number of a kind.
abbrev pub skipped : Kind → ℕ → State → State
skipped k n s = with_table k (record (table k s) { next = n }) s

-- The state with one more record, under its own number.
abbrev pub joined : (k : Kind) → ℕ → Record k → State → State
joined k n r s = after_create k r (skipped k n s)

-- A policy of a kind that is valid but for the entities that it names.
abbrev pub is_sound_policy : Kind → Policy → Bool
is_sound_policy k p = is_valid_policy p && may_relate k p.relation

-- Whether a record of a kind is valid as far as that can be told of it alone.
abbrev pub is_sound : (k : Kind) → Record k → Bool
is_sound kind.Identity e = is_valid_entity e
is_sound kind.Service e = is_valid_entity e
is_sound kind.Router r = is_valid_router r
is_sound kind.Link l = is_valid_link l
is_sound kind.ServicePolicy p = is_sound_policy kind.ServicePolicy p
is_sound kind.EdgeRouterPolicy p = is_sound_policy kind.EdgeRouterPolicy p
is_sound kind.ServiceEdgeRouterPolicy p = is_sound_policy kind.ServiceEdgeRouterPolicy p
is_sound kind.Terminator e = is_valid_terminator e
is_sound kind.Circuit c = true
is_sound kind.Attribute u = true

-- The `@` names of both sides of a policy of a kind are those of present entities.
abbrev pub are_both_found : Kind → State → Policy → Bool
are_both_found k s p = are_found (named (left_kind k) s) p.left && are_found (named (right_kind k) s) p.right

-- Whether all that a record stands on is there: the entities that a policy names, the routers of a link, the service, the router and
-- the host of a terminator; and of a circuit all that lets it stay.
abbrev pub is_supported : (k : Kind) → State → ℕ × Record k → Bool
is_supported kind.Link s row = link_stays s row
is_supported kind.ServicePolicy s row = are_both_found kind.ServicePolicy s row.1
is_supported kind.EdgeRouterPolicy s row = are_both_found kind.EdgeRouterPolicy s row.1
is_supported kind.ServiceEdgeRouterPolicy s row = are_both_found kind.ServiceEdgeRouterPolicy s row.1
is_supported kind.Terminator s row = terminator_stays s row
is_supported kind.Circuit s row = stays_in s row
is_supported k s row = true

-- The flaw of a record of a kind that is not supported.
abbrev pub unsupported : Kind → Flaw
unsupported kind.Circuit = Unsettled
unsupported k = Hanging

-- A flaw that comes where a test holds, else the next one.
abbrev pub flaw_if : Bool → Flaw → Option Flaw → Option Flaw
flaw_if test flaw later = cond test (Some flaw) later

-- A number is out of order where it is below the kind's next number so far, or not below the one that the kind has in the end.
abbrev pub is_out_of_order : (Kind → ℕ) → Kind → ℕ → State → Bool
is_out_of_order nexts k n s = nat_lt n (table k s).next || nat_le (nexts k) n

-- A record of the kind has the name.
abbrev pub is_name_taken : (k : Kind) → Record k → State → Bool
is_name_taken k r s = has_names k && is_some (named k s (record_name k r))

-- The kind is full, or with the record more attributes would be in use than may be.
abbrev pub is_one_too_many : (k : Kind) → ℕ → Record k → State → Bool
is_one_too_many k n r s = nat_le (limit k) (length (table k s).rows) || attributes_full (joined k n r s)

-- Why a record under its number cannot join a state whose next numbers will be these in the end: the first flaw, if there is one.
abbrev pub flaw_of : (Kind → ℕ) → (k : Kind) → ℕ → Record k → State → Option Flaw
flaw_of nexts k n r s =
    flaw_if (is_out_of_order nexts k n s) OutOfOrder
    (flaw_if (not (is_sound k r)) NoRecord
    (flaw_if (is_name_taken k r s) NameTaken
    (flaw_if (not (is_supported k s (n, r))) (unsupported k)
    (flaw_if (is_one_too_many k n r s) TooMany None))))

-- The state with one more intercept, under the number of its service.
abbrev pub claimed : ℕ → Intercept → State → State
claimed n i s = record s { intercepts = with_last s.intercepts n i }

-- Whether a number is above those of some rows.
abbrev pub is_above_all : {R : Type 0} → ℕ → List (ℕ × R) → Bool
is_above_all n rows = list_all (λ x. nat_lt x.0 n) rows

-- Why an intercept cannot join: its number is not above those of the others, it is no intercept, or its service is absent.
abbrev pub flaw_of_intercept : ℕ → Intercept → State → Option Flaw
flaw_of_intercept n i s =
    flaw_if (not (is_above_all n s.intercepts)) OutOfOrder
    (flaw_if (not (is_intercept i)) NoRecord
    (flaw_if (not (is_present s.services.rows n)) Hanging None))

-- Why a serial cannot be that of a state: it is above the last one.
abbrev pub flaw_of_serial : ℕ → Option Flaw
flaw_of_serial n = flaw_if (not (nat_le n last_serial)) NoRecord None
