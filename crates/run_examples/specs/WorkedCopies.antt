-- A copy of the worked examples.
use Rattle.std.specs.Prelude.{[], None}
use Rattle.follow_core.specs.Following.{Copy}

-- The copy of a folder that was created, and has no record.
abbrev pub bare_copy : Copy
bare_copy = record { records = []; rows = []; mark = 1; parts = None }
