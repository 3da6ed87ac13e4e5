use Rattle.std.proofs.Common.{rules}
use Rattle.grant_rows.proofs.collecting.count_key.Goals as goal

pub returns : goal.returns
returns c = search rules
