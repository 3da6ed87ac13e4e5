-- The commands on intercepts, and what tells which service a destination belongs to (docs/RULES.md, "Intercepts").
use Rattle.std.specs.Prelude.{ℕ, Bool, true, false, List, map, filter, unwrap_or}
use Rattle.std.specs.declared.option.Option.{Option}
use Rattle.std.specs.Option.{option_map_or}
use Rattle.ctrl_model.specs.declared.addresses.Address.{Address}
use Rattle.ctrl_model.specs.declared.commands.Command.{Command}
use Rattle.ctrl_model.specs.declared.commands.Command.TheVariants as command
use Rattle.ctrl_model.specs.declared.intercepts.Intercept.{Intercept}
use Rattle.ctrl_model.specs.declared.kinds.Kind.TheVariants as kind
use Rattle.ctrl_model.specs.declared.kinds.Relation.TheVariants.{Dial}
use Rattle.ctrl_model.specs.declared.refusals.Field.TheVariants as field
use Rattle.ctrl_model.specs.declared.refusals.Refusal.{Refusal}
use Rattle.ctrl_model.specs.declared.refusals.Refusal.TheVariants.{NoIntercept}
use Rattle.ctrl_model.specs.declared.replies.Reply.{Reply}
use Rattle.ctrl_model.specs.declared.replies.Reply.TheVariants.{Done, Refused, Picked, Clashes}
use Rattle.ctrl_model.specs.AddressForm.{address_text}
use Rattle.ctrl_model.specs.Numbered.{with_at, numbers}
use Rattle.ctrl_model.specs.State.{State}
use Rattle.ctrl_model.specs.Tables.{named}
use Rattle.ctrl_model.specs.Grants.{is_granted}
use Rattle.ctrl_model.specs.Hits.{Hit, picked, clashes}
use Rattle.ctrl_model.specs.Rules.{or_then, carried_out, shown, unknown_if_absent, at_number}
use Rattle.ctrl_model.specs.RecordCommands.{without_intercept}
use Rattle.ctrl_model.specs.CircuitCommands.{name_of}

-- Whether a command is one of these.
abbrev pub is_intercept_command : Command → Bool
is_intercept_command (command.SetIntercept service intercept) = true
is_intercept_command (command.ClearIntercept service) = true
is_intercept_command (command.Pick identity udp address port) = true
is_intercept_command (command.ListClashes identity service) = true
is_intercept_command c = false

-- ---- a service's own intercept

-- The refusal of a service that is absent.
abbrev pub no_such_service : List ℕ → State → Option Refusal
no_such_service service s = unknown_if_absent field.Service (named kind.Service s service)

-- Setting a service's intercept puts it in the place of the one that the service has, if it has one.
abbrev pub after_set_intercept : List ℕ → Intercept → State → State
after_set_intercept service i s = at_number (named kind.Service s service) s (λ n. record s { intercepts = with_at n i s.intercepts })

-- The answer to SetIntercept.
abbrev pub set_intercept : List ℕ → Intercept → State → Reply × State
set_intercept service i s = carried_out (no_such_service service s) s Done (after_set_intercept service i s)

-- Clearing it takes it away.
abbrev pub after_clear_intercept : List ℕ → State → State
after_clear_intercept service s = at_number (named kind.Service s service) s (λ n. without_intercept kind.Service n s)

-- The answer to ClearIntercept.
abbrev pub clear_intercept : List ℕ → State → Reply × State
clear_intercept service s = carried_out (no_such_service service s) s Done (after_clear_intercept service s)

-- ---- what destinations belong to

-- The services that the identity of a number may dial, in the order of their numbers.
abbrev pub dialled_by : ℕ → State → List ℕ
dialled_by i s = filter (is_granted Dial s i) (numbers s.services.rows)

-- The hit of a destination at a port that is picked of those of the services that the identity of a number may dial.
abbrev pub picked_for : ℕ → Bool → Address → ℕ → State → Option Hit
picked_for i udp to port s = picked s.intercepts (dialled_by i s) udp to port

-- A hit, as its reply shows it.
abbrev pub picked_reply : State → Hit → Reply
picked_reply s h = Picked (address_text h.address) h.ports.low h.ports.high (name_of s.services.rows h.service)

-- The answer to Pick: the hit that is picked, and a refusal where there is none.
abbrev pub pick : List ℕ → Bool → Address → ℕ → State → Reply × State
pick identity udp to port s = shown (unknown_if_absent field.Identity (named kind.Identity s identity)) s
    (option_map_or (picked_reply s) (picked_for (unwrap_or (named kind.Identity s identity) 0) udp to port s) (Refused NoIntercept))

-- The names of the services that clash with the service of a number, of those that the identity of a number may dial, in the order of
-- their numbers.
abbrev pub clashes_reply : ℕ → ℕ → State → Reply
clashes_reply i n s = Clashes (map (name_of s.services.rows) (clashes s.intercepts (dialled_by i s) n))

-- The answer to ListClashes.
abbrev pub list_clashes : List ℕ → List ℕ → State → Reply × State
list_clashes identity service s =
    shown (or_then (unknown_if_absent field.Identity (named kind.Identity s identity)) (no_such_service service s)) s
    (clashes_reply (unwrap_or (named kind.Identity s identity) 0) (unwrap_or (named kind.Service s service) 0) s)
