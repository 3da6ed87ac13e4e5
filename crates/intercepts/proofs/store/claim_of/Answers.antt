use Rattle.record_tables.proofs.RecordLaws.{at-lent}
use Rattle.intercepts.proofs.store.claim_of.Goals as goal

pub returns : goal.returns
returns c = at-lent c.args.claims.now.entries c.args.service c.get.result c.get.ensures.value
