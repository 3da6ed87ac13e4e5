use Rattle.journal_core.proofs.GateLaws.{added_closed}
use Rattle.journal_core.proofs.appending.append.Goals as goal

pub returns-clause-closed : goal.returns-clause-closed
returns-clause-closed g c = λ told.
    added_closed c.text-text.result.now c.args.packed.now c.text-text.ensures.text (c.requires.closed told) (c.in_ok-add_text.ensures.added told)
