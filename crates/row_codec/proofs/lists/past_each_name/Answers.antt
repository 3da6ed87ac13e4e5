use Rattle.std.proofs.Common.{sym}
use Rattle.row_codec.specs.FieldReading.{behind, front_each, front_name}
use Rattle.row_codec.proofs.SkipLaws.{skips_on}
use Rattle.row_codec.proofs.lists.past_each_name.Goals as goal

pub names-preserved : goal.names-preserved
names-preserved c =
    skips_on front_name c.args.count c.names.counter c.names.rest.now c.in_ok-after.field-0-0.now c.in_ok-after.after.now (behind (front_each front_name c.args.count c.args.bytes.now)) c.names-test.true (sym c.in_ok-after.ensures) c.names.invariant
