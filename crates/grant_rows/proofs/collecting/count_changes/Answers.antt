use Rattle.std.proofs.Common.{sym, subst}
use Rattle.grant_rows.specs.CountChanges.{AreCountChanges}
use Rattle.grant_rows.proofs.CoveredCounts.{covered, first_changes}
use Rattle.grant_rows.proofs.collecting.count_changes.Goals as goal

exact : (c : goal.After-of) → AreCountChanges c.args.format c.args.relation c.args.counted.now c.args.steps.now c.of.result
exact c =
    subst (AreCountChanges c.args.format c.args.relation c.args.counted.now c.args.steps.now) (sym c.of.ensures)
    (first_changes c.args.format c.args.relation c.args.counted.now c.args.steps.now c.new-changes.result.items c.push_count_changes.new.changes.items c.new-changes.ensures.items
    c.in_ok-push_count_changes.ensures)

pub returns-clause-exact : goal.returns-clause-exact
returns-clause-exact c = exact c

pub returns-clause-covers : goal.returns-clause-covers
returns-clause-covers c s t are moves = covered c.args.format c.args.relation c.args.counted.now c.args.steps.now s t are moves c.of.result (exact c)
