use Rattle.std.proofs.Common.{refl}
use Rattle.std.proofs.lemmas.Nat.{le_bytes_4}
use Rattle.journal_core.proofs.ReadLaws.{four_small}
use Rattle.journal_core.proofs.reading.number_of.Goals as goal

pub returns-clause-bytes : goal.returns-clause-bytes
returns-clause-bytes c =
    le_bytes_4 _ _ refl (four_small c.args.first c.args.second c.args.third c.args.fourth c.ranges.first.fits c.ranges.second.fits c.ranges.third.fits c.ranges.fourth.fits) c.from_le_bytes.ensures
