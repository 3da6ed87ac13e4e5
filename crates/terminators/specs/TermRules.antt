-- When a terminator may be added, and the network in which terminators are admissible (docs/RULES.md, "Commands on
-- terminators", "Limits", "Terminators").
use Rattle.std.specs.Prelude.{ℕ, ⊤, nat_lt, Bool, false, not, ◌&&◌, cond, List, [], Ok, Err}
use Rattle.std.specs.declared.result.Result.{Result}
use Rattle.std.specs.Option.{option_map_or}
use Rattle.ctrl_model.specs.declared.kinds.Kind.TheVariants as kind
use Rattle.ctrl_model.specs.declared.kinds.RouterSeen.{RouterSeen}
use Rattle.ctrl_model.specs.Limits.{limit}
use Rattle.ctrl_model.specs.Networks.{Network, is_counted, is_in_service}
use Rattle.ctrl_model.specs.State.{Terminator}
use Rattle.ctrl_model.specs.Tables.{has_room}
use Rattle.grant_denorm.specs.CountsAfter.{count_after}
use Rattle.grant_denorm.specs.PairCounts.{count_of}
use Rattle.terminators.specs.declared.admitting.Grants.{Grants}
use Rattle.terminators.specs.declared.store.TermFault.{TermFault}
use Rattle.terminators.specs.declared.store.TermFault.TheVariants.{NotBindable, Full}
use Rattle.terminators.specs.TermTables.{TermTables, no_terminators, open_at}

-- Whether one more terminator can be added: fewer than may be are present, and their numbers have not run out.
abbrev pub has_term_room : TermTables → Bool
has_term_room t = has_room (limit kind.Terminator) t.terminators

-- Whether a terminator names a host that lacks Bind on its service.
abbrev pub is_not_bindable : Terminator → List ((ℕ × ℕ) × ℕ) → Bool
is_not_bindable e bind = option_map_or (λ h. not (nat_lt 0 (count_of bind h e.service))) e.host false

-- Whether a terminator may be added: there is room for it, and then its host, if it has one, has Bind on its service.
abbrev pub may_add : Terminator → TermTables → List ((ℕ × ℕ) × ℕ) → Result ⊤ TermFault
may_add e t bind = cond (has_term_room t) (cond (is_not_bindable e bind) (Err NotBindable) (Ok tt)) (Err Full)

-- The network of these terminators, counts of Bind, of routers of identities and of routers of services, and routers. It has
-- what decides which terminators are admissible: no links, no grants of Dial, and 0 as the least router cost.
abbrev pub network : TermTables → (ℕ → ℕ → ℕ) → (ℕ → ℕ → ℕ) → (ℕ → ℕ → ℕ) → List RouterSeen → Network
network t bind identity_router service_router routers = record {
  routers = routers;
  links = [];
  least = 0;
  terminators = t.terminators.rows;
  load = open_at t;
  dial = λ _ _. 0;
  bind = bind;
  identity_router = identity_router;
  service_router = service_router;
  full = false;
}

-- The network of some grants and routers, in which no terminator stands yet.
abbrev pub granted : Grants → Network
granted g = network no_terminators (count_after g.bind.now) (count_after g.identity_router.now) (count_after g.service_router.now) g.routers.now

-- Whether a terminator is an admissible one of a service and an instance.
abbrev pub is_admissible : Network → ℕ → List ℕ → ℕ × Terminator → Bool
is_admissible w s instance e = is_counted s instance e && is_in_service w e
