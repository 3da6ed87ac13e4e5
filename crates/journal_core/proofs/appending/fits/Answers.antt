use Rattle.std.proofs.Common.{rules}
use Rattle.journal_core.proofs.appending.fits.Goals as goal

pub returns : goal.returns
returns c = search rules
