-- Who may send a command (docs/RULES.md, "Who may send what").
use Rattle.std.specs.Prelude.{ℕ, Bool, true, false, List, None, Some}
use Rattle.std.specs.Str.{bytes_eq}
use Rattle.ctrl_model.specs.declared.commands.Command.{Command}
use Rattle.ctrl_model.specs.declared.commands.Command.TheVariants as command
use Rattle.ctrl_model.specs.declared.kinds.Who.{Who}
use Rattle.ctrl_model.specs.declared.kinds.Who.TheVariants as who

-- A router session may send what concerns that router alone: its connection, what its ends of links report, and a terminator
-- on it without a host.
abbrev pub router_may : List ℕ → Command → Bool
router_may me command.Hello = true
router_may me (command.ConnectRouter name) = bytes_eq me name
router_may me (command.DisconnectRouter name) = bytes_eq me name
router_may me (command.ReportLatency link router latency) = bytes_eq me router
router_may me (command.ReportState link router up) = bytes_eq me router
router_may me (command.CreateTerminator service router instance None cost precedence) = bytes_eq me router
router_may me _ = false

-- An identity session may send what concerns that identity alone: a terminator that it hosts, its circuits and their
-- explanations, what it is granted, and which service of its own a destination belongs to.
abbrev pub identity_may : List ℕ → Command → Bool
identity_may me command.Hello = true
identity_may me (command.CreateTerminator service router instance (Some host) cost precedence) = bytes_eq me host
identity_may me (command.CreateCircuit identity service ingress instance) = bytes_eq me identity
identity_may me (command.Explain identity service ingress instance) = bytes_eq me identity
identity_may me (command.ShowGrants identity) = bytes_eq me identity
identity_may me (command.ListServices identity) = bytes_eq me identity
identity_may me (command.Pick identity udp address port) = bytes_eq me identity
identity_may me (command.ListClashes identity service) = bytes_eq me identity
identity_may me _ = false

-- Whether a role may send a command: an admin every one.
abbrev pub is_permitted : Who → Command → Bool
is_permitted who.Admin c = true
is_permitted (who.Router me) c = router_may me c
is_permitted (who.Identity me) c = identity_may me c
