use Rattle.std.proofs.Common.{◌≡◌, None, sym, arith}
use Rattle.ctrl_model.specs.AddressForm.{same_address}
use Rattle.row_codec.specs.FieldReading.{front_byte}
use Rattle.row_reading.specs.RowReading.{front_address, front_spelling}
use Rattle.row_reading.proofs.AddressReading.{no_spelling, spelled_front}
use Rattle.row_reading.proofs.ClaimReading.{no_list_claimed, empty_claimed, nothing_claimed, things_claimed}
use Rattle.row_reading.proofs.intercepts.are_addresses_claimed.Goals as goal

pub returns-in_default : goal.returns-in_default
returns-in_default c =
    let none : None ≡ front_byte c.args.bytes.now = grind arith in
    no_list_claimed same_address front_address c.args.bytes.now none

pub returns-then-count-eq0 : goal.returns-then-count-eq0
returns-then-count-eq0 c = empty_claimed same_address front_address c.args.bytes.now c.in-Some.count c.in-Some.rest.now c.in-Some.ensures c.if-count-eq0.true

pub returns-in-None : goal.returns-in-None
returns-in-None c =
    let none : front_spelling c.in-Some.rest.now ≡ None = grind arith in
    nothing_claimed same_address front_address c.args.bytes.now c.in-Some.count c.in-Some.rest.now c.in-Some.ensures (no_spelling c.in-Some.rest.now none)

pub returns-in-Some-split_spelling : goal.returns-in-Some-split_spelling
returns-in-Some-split_spelling c =
    let own = spelled_front c.in-Some.rest.now _ (sym c.in-Some-split_spelling.ensures) in
    things_claimed same_address front_address c.args.bytes.now c.in-Some.count c.in-Some.rest.now _ c.in-Some.ensures (omega arith) own.read c.spellings_differ.result c.spellings_differ.ensures
