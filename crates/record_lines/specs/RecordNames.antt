-- The names by which lines speak of the records of a state (docs/FORMATS.md, "Lines of records").
use Rattle.std.specs.Prelude.{ℕ, List, [], option_and_then}
use Rattle.std.specs.Option.{option_map_or, unwrap_or}
use Rattle.ctrl_model.specs.declared.kinds.Kind.{Kind}
use Rattle.ctrl_model.specs.Networks.{other_end}
use Rattle.ctrl_model.specs.Numbered.{at}
use Rattle.ctrl_model.specs.State.{State}
use Rattle.ctrl_model.specs.Tables.{table, record_name}

-- The name of the record of a kind that has a number; none where no record has it.
abbrev pub name_of : Kind → State → ℕ → List ℕ
name_of k s n = option_map_or (record_name k) (at (table k s).rows n) []

-- The router at the other end of the link of a number, seen from a router; 0, which is no router's, where the link does not end there.
abbrev pub router_behind : State → ℕ → ℕ → ℕ
router_behind s v n = unwrap_or (option_and_then (other_end v) (at s.links.rows n)) 0
