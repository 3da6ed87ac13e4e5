use Rattle.std.proofs.Common.{◌≡◌, true}
use Rattle.ctrl_model.specs.Numbered.{at}
use Rattle.ctrl_model.specs.State.{Policy}
use Rattle.policy_commands.specs.PolicyRows.{fits_row}
use Rattle.policy_store.specs.PolicyTables.{policies}
use Rattle.policy_commands.proofs.PolicyRowLaws.{if_some, valid_row}
use Rattle.policy_commands.proofs.rows.push_forgotten.Goals as goal

pub forgotten_at-requires-clause-before : goal.forgotten_at-requires-clause-before
forgotten_at-requires-clause-before c =
    if_some (λ (r : Policy). fits_row c.args.kind r ≡ true) (at (policies c.args.kind c.args.kept.now) _) (λ r e. (valid_row c.args.kind c.args.kept.now _ r c.requires.kind c.requires.before e).1)
