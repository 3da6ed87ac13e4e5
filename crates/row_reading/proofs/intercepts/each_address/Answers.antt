use Rattle.std.proofs.Common.{◌≡◌, None, sym, ◌∙◌, arith}
use Rattle.std.proofs.lemmas.Option.{same_Some}
use Rattle.row_reading.specs.RowReading.{front_address, front_spelling, things_in}
use Rattle.row_reading.proofs.AddressReading.{spelled_front, no_spelling}
use Rattle.row_reading.proofs.LoopLaws.{goes_on, ends}
use Rattle.row_reading.proofs.intercepts.each_address.Goals as goal

pub returns-in_default : goal.returns-in_default
returns-in_default c =
    let none : front_spelling c.texts.rest.now ≡ None = grind arith in
    ends front_address c.texts.addresses.items c.args.count c.texts.counter c.texts.rest.now (things_in front_address c.args.count c.args.bytes.now) c.texts-test.true
    (no_spelling c.texts.rest.now none) c.texts.invariant

pub texts-preserved : goal.texts-preserved
texts-preserved c =
    let own = spelled_front c.texts.rest.now (c.in-Some.text.now, c.in-Some.after.now) (sym c.in-Some.ensures) in
    rw (c.in_ok-push.ensures.items, same_Some _ _ (c.in_ok-address_named.ensures ∙ own.named))
    (goes_on front_address c.texts.addresses.items c.args.count c.texts.counter c.texts.rest.now own.address c.in-Some.after.now (things_in front_address c.args.count c.args.bytes.now)
    c.texts-test.true own.read c.texts.invariant)
