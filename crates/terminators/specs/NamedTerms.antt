-- Which entities a terminator stands on (docs/RULES.md, "Settling").
use Rattle.std.specs.Prelude.{ℕ, ◌==◌, Bool, false}
use Rattle.std.specs.Option.{option_map_or}
use Rattle.ctrl_model.specs.declared.kinds.Kind.{Kind}
use Rattle.ctrl_model.specs.declared.kinds.Kind.TheVariants as kind
use Rattle.ctrl_model.specs.State.{Terminator}

-- A terminator stands on an entity: on its host, if it has one, its service or its router.
abbrev pub stands_on : Kind → ℕ → Terminator → Bool
stands_on kind.Identity n e = option_map_or (λ h. h == n) e.host false
stands_on kind.Service n e = e.service == n
stands_on kind.Router n e = e.router == n
stands_on k n e = false
