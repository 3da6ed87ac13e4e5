use Rattle.std.proofs.Common.{sym, ◌∙◌}
use Rattle.std.proofs.lemmas.Result.{IfOk-weaker}
use Rattle.ctrl_model.specs.Numbered.{at}
use Rattle.policy_store.specs.PolicyChanges.{after_policy_change}
use Rattle.policy_commands.specs.PolicyRows.{policy_change_of}
use Rattle.policy_store.specs.PolicyTables.{policies}
use Rattle.policy_commands.proofs.PolicyRowLaws.{fit_if_some, touched_policy, touched_long}
use Rattle.policy_commands.proofs.rows.touched_change.Goals as goal

pub change_at-requires-clause-kind : goal.change_at-requires-clause-kind
change_at-requires-clause-kind c = touched_policy c.args.change.now c.args.kept.now c.requires.can c.touched-kind.result.0 c.touched-kind.ensures.kind

pub change_at-requires-clause-long : goal.change_at-requires-clause-long
change_at-requires-clause-long c = touched_long c.args.change.now c.args.kept.now c.requires.can c.requires.before c.touched-kind.result.1 c.touched-kind.ensures.number

pub change_at-requires-clause-before : goal.change_at-requires-clause-before
change_at-requires-clause-before c =
    fit_if_some c.touched-kind.result.0 c.args.kept.now c.touched-kind.result.1 c.in_ok-before.before
    (touched_policy c.args.change.now c.args.kept.now c.requires.can c.touched-kind.result.0 c.touched-kind.ensures.kind) c.requires.before c.in_ok-before.ensures

pub change_at-requires-clause-after : goal.change_at-requires-clause-after
change_at-requires-clause-after c =
    fit_if_some c.touched-kind.result.0 (after_policy_change c.args.change.now c.args.kept.now) c.touched-kind.result.1 c.in_ok-after.after
    (touched_policy c.args.change.now c.args.kept.now c.requires.can c.touched-kind.result.0 c.touched-kind.ensures.kind) c.requires.after
    (c.in_ok-after.ensures ∙ (λ i. at (policies (sym c.touched-kind.ensures.kind i) (after_policy_change c.args.change.now c.args.kept.now)) (sym c.touched-kind.ensures.number i)))

pub returns : goal.returns
returns c =
    let p = c.args.kept.now in
    let kinds = c.touched-kind.ensures.kind in
    let number = c.touched-kind.ensures.number in
    IfOk-weaker c.change_at.result _ _ (λ made is.
    is ∙ (λ i. policy_change_of (kinds i) (number i) ((c.in_ok-before.ensures ∙ (λ j. at (policies (kinds j) p) (number j))) i) (c.in_ok-after.ensures i))) c.change_at.ensures
