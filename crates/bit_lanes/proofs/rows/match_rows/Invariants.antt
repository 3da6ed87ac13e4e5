use Rattle.std.proofs.Common.{◌<◌, ◌↔◌, ℕ, IsTrue, false}
use Rattle.std.specs.Prelude.{slice_index_or}
use Rattle.bit_lanes.specs.Lanes.{Meets, bit_row}
use Rattle.bit_lanes.proofs.rows.match_rows.Given as goal

abbrev pub invariant-rows : goal.invariant-rows
invariant-rows l = (k : ℕ) → k < l.place → IsTrue (slice_index_or l.out k false) ↔ Meets l.all (bit_row l.rows l.width k) l.want
