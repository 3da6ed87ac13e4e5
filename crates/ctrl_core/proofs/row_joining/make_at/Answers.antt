use Rattle.std.proofs.Common.{arith}
use Rattle.ctrl_core.proofs.JoinedLaws.{keeps_skipped}
use Rattle.ctrl_core.proofs.row_joining.make_at.Goals as goal

pub make-requires-clause-kept : goal.make-requires-clause-kept
make-requires-clause-kept c = keeps_skipped c.args.kind c.args.number c.args.stores.now c.skip.new.stores c.requires.may.later (omega (arith, c.ranges.number.fits)) c.requires.kept c.skip.ensures.carried c.skip.ensures.loads
