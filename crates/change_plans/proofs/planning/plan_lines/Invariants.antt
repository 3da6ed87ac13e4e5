use Rattle.std.proofs.Common.{◌+◌, ◌≤◌, length}
use Rattle.slot_reading.specs.BatchRows.{rows_in}
use Rattle.frame_lines.specs.TextLines.{lines_of}
use Rattle.change_plans.specs.PlanTurns.{GoesWith}
use Rattle.change_plans.proofs.PlanLaws.{SoFar}
use Rattle.change_plans.proofs.planning.plan_lines.Given as goal

abbrev pub invariant-lines : goal.invariant-lines
invariant-lines l = record {
  goes : GoesWith l.core (rows_in l.rows.entries);
  so_far : SoFar (lines_of l.text) (lines_of l.rest) l.number l.fn.core.state l.core.state l.out.items;
  few : l.number + length l.rest ≤ length l.text + 1;
}

abbrev pub decreases-lines : goal.decreases-lines
decreases-lines l = length l.rest
