use Rattle.std.proofs.Common.{sym}
use Rattle.row_codec.specs.FieldReading.{behind, front_each, front_long}
use Rattle.row_codec.proofs.SkipLaws.{skips_on}
use Rattle.row_codec.proofs.lists.past_each_long.Goals as goal

pub numbers-preserved : goal.numbers-preserved
numbers-preserved c =
    skips_on front_long c.args.count c.numbers.counter c.numbers.rest.now c.in_ok-after.field-0-0 c.in_ok-after.after.now (behind (front_each front_long c.args.count c.args.bytes.now)) c.numbers-test.true (sym c.in_ok-after.ensures) c.numbers.invariant
