use Rattle.std.proofs.Common.{rules}
use Rattle.journal_core.proofs.packing.packed_text.Goals as goal

pub returns : goal.returns
returns c = search rules
