use Rattle.std.proofs.Common.{◌≡◌, true, false, None, sym, arith}
use Rattle.ctrl_model.specs.AddressForm.{same_address}
use Rattle.row_reading.specs.RowReading.{front_address, front_spelling}
use Rattle.row_reading.proofs.AddressReading.{any_behind, spelled_front, no_spelling}
use Rattle.row_reading.proofs.LoopLaws.{differ_on, differ_found, differ_ends, differ_done}
use Rattle.row_reading.proofs.intercepts.spellings_differ.Goals as goal

pub returns-in_default : goal.returns-in_default
returns-in_default c =
    let none : front_spelling c.texts.rest.now ≡ None = grind arith in
    differ_ends same_address front_address c.args.count c.texts.done c.texts.rest.now _ c.texts.invariant c.texts-test.true (no_spelling c.texts.rest.now none)

pub returns-then-has_spelling : goal.returns-then-has_spelling
returns-then-has_spelling c =
    let is = sym c.in-Some.ensures in
    let own = spelled_front c.texts.rest.now (c.in-Some.text.now, c.in-Some.after.now) is in
    differ_found same_address front_address c.args.count c.texts.done c.texts.rest.now _ c.texts.invariant own.address c.in-Some.after.now c.texts-test.true own.read
    (any_behind c.texts.rest.now (c.in-Some.text.now, c.in-Some.after.now) is c.args.count c.texts.done c.has_spelling.result c.has_spelling.ensures true c.if-has_spelling.true)

pub texts-preserved : goal.texts-preserved
texts-preserved c =
    let is = sym c.in-Some.ensures in
    let own = spelled_front c.texts.rest.now (c.in-Some.text.now, c.in-Some.after.now) is in
    differ_on same_address front_address c.args.count c.texts.done c.texts.rest.now _ c.texts.invariant own.address c.in-Some.after.now c.texts-test.true own.read
    (any_behind c.texts.rest.now (c.in-Some.text.now, c.in-Some.after.now) is c.args.count c.texts.done c.has_spelling.result c.has_spelling.ensures false c.if-has_spelling.false)

pub returns : goal.returns
returns c = differ_done same_address front_address c.args.count c.texts.done c.texts.rest.now _ c.texts.invariant c.texts-test.false
