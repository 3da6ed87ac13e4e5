use Rattle.row_store.proofs.WorkedLaws.{ann_leads, ann_gives, counted_spells, counted_gives}
use Rattle.row_store.proofs.worked.worked_rows.Goals as goal

pub returns-clause-leads : goal.returns-clause-leads
returns-clause-leads c = ann_leads

pub returns-clause-give : goal.returns-clause-give
returns-clause-give c = ann_gives

pub returns-clause-counted : goal.returns-clause-counted
returns-clause-counted c = counted_spells

pub returns-clause-give_counted : goal.returns-clause-give_counted
returns-clause-give_counted c = counted_gives
