use Rattle.std.proofs.Common.{◌≡◌, None, sym}
use Rattle.row_codec.specs.FieldReading.{behind, front_each}
use Rattle.row_codec.proofs.SkipLaws.{skips_on, skip_ends}
use Rattle.row_reading.specs.RowReading.{front_address, front_spelling}
use Rattle.row_reading.proofs.AddressReading.{spelled_front, no_spelling}
use Rattle.row_reading.proofs.intercepts.past_each_spelling.Goals as goal

pub returns-in_err-after : goal.returns-in_err-after
returns-in_err-after c =
    let none : front_spelling c.texts.rest.now ≡ None = sym c.in_err-after.ensures in
    rw c.from_residual.ensures
    (skip_ends front_address c.args.count c.texts.counter c.texts.rest.now (behind (front_each front_address c.args.count c.args.bytes.now)) c.texts-test.true
    (no_spelling c.texts.rest.now none) c.texts.invariant)

pub texts-preserved : goal.texts-preserved
texts-preserved c =
    let own = spelled_front c.texts.rest.now (c.in_ok-after.field-0-0.now, c.in_ok-after.after.now) (sym c.in_ok-after.ensures) in
    skips_on front_address c.args.count c.texts.counter c.texts.rest.now own.address c.in_ok-after.after.now
    (behind (front_each front_address c.args.count c.args.bytes.now)) c.texts-test.true own.read c.texts.invariant
