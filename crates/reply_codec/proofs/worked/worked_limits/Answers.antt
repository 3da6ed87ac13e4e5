use Rattle.std.proofs.Common.{refl}
use Rattle.std.specs.Fmt.{digits}
use Rattle.reply_codec.proofs.worked.worked_limits.Goals as goal

pub returns-clause-picked : goal.returns-clause-picked
unfolding digits
returns-clause-picked c = refl
