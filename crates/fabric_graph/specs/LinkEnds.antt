-- Which links end at a router (docs/RULES.md, "Settling").
use Rattle.std.specs.Prelude.{ℕ, ◌==◌, Bool, ◌||◌}
use Rattle.ctrl_model.specs.State.{Link}

-- A link ends at a router.
abbrev pub is_at : ℕ → Link → Bool
is_at n l = (l.a == n) || (l.b == n)
