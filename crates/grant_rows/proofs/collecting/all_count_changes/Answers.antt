use Rattle.std.proofs.Common.{sym, subst}
use Rattle.ctrl_model.specs.declared.kinds.Relation.TheVariants.{Dial, Bind, IdentityRouter, ServiceRouter}
use Rattle.grant_rows.specs.CountChanges.{AreGrantChanges}
use Rattle.grant_rows.proofs.CoveredCounts.{joined_changes, all_covered}
use Rattle.grant_rows.proofs.collecting.all_count_changes.Goals as goal

pub push_count_changes-requires : goal.push_count_changes-requires
push_count_changes-requires c = c.requires Dial

pub push_count_changes-requires-2 : goal.push_count_changes-requires-2
push_count_changes-requires-2 c = c.requires Bind

pub push_count_changes-requires-3 : goal.push_count_changes-requires-3
push_count_changes-requires-3 c = c.requires IdentityRouter

pub push_count_changes-requires-4 : goal.push_count_changes-requires-4
push_count_changes-requires-4 c = c.requires ServiceRouter

exact : (c : goal.After-of) → AreGrantChanges c.args.format c.args.moves.now c.of.result
exact c =
    subst (AreGrantChanges c.args.format c.args.moves.now) (sym c.of.ensures)
    (joined_changes c.args.format c.args.moves.now c.new-changes.result.items c.push_count_changes.new.changes.items c.push_count_changes-2.new.changes.items c.push_count_changes-3.new.changes.items
    c.push_count_changes-4.new.changes.items c.new-changes.ensures.items c.in_ok-push_count_changes.ensures c.in_ok-push_count_changes-2.ensures c.in_ok-push_count_changes-3.ensures
    c.in_ok-push_count_changes-4.ensures)

pub returns-clause-exact : goal.returns-clause-exact
returns-clause-exact c = exact c

pub returns-clause-covers : goal.returns-clause-covers
returns-clause-covers c s t are moves = all_covered c.args.format c.args.moves.now c.of.result (exact c) s t are moves
