use Rattle.std.proofs.Common.{rules}
use Rattle.grant_rows.proofs.collecting.table_byte.Goals as goal

pub returns-in-IdentityRouter : goal.returns-in-IdentityRouter
returns-in-IdentityRouter c = search rules
