use Rattle.std.proofs.Common.{◌≡◌, Bool, None, List, ℕ, bytes_eq, sym, ◌∙◌, ap, arith}
use Rattle.ctrl_model.specs.declared.addresses.Address.{Address}
use Rattle.ctrl_model.specs.AddressForm.{address_text}
use Rattle.row_reading.specs.RowReading.{front_address, front_spelling}
use Rattle.row_reading.proofs.AddressReading.{spelled_front, no_spelling}
use Rattle.row_reading.proofs.LoopLaws.{any_on, any_found, any_ends, any_done}
use Rattle.row_reading.proofs.intercepts.has_spelling.Goals as goal

-- an address has a text
abbrev has_text : List ℕ → Address → Bool
has_text text a = bytes_eq text (address_text a)

pub returns-in_default : goal.returns-in_default
returns-in_default c =
    let none : front_spelling c.texts.rest.now ≡ None = grind arith in
    any_ends (has_text c.args.text.now) front_address c.args.count c.texts.counter c.texts.rest.now _ c.texts.invariant c.texts-test.true (no_spelling c.texts.rest.now none)

pub returns-then-same_text : goal.returns-then-same_text
returns-then-same_text c =
    let own = spelled_front c.texts.rest.now (c.in-Some.next.now, c.in-Some.after.now) (sym c.in-Some.ensures) in
    any_found (has_text c.args.text.now) front_address c.args.count c.texts.counter c.texts.rest.now _ c.texts.invariant own.address c.in-Some.after.now c.texts-test.true own.read
    (ap (λ (t : List ℕ). bytes_eq c.args.text.now t) own.spelled ∙ sym c.same_text.ensures ∙ c.if-same_text.true)

pub texts-preserved : goal.texts-preserved
texts-preserved c =
    let own = spelled_front c.texts.rest.now (c.in-Some.next.now, c.in-Some.after.now) (sym c.in-Some.ensures) in
    any_on (has_text c.args.text.now) front_address c.args.count c.texts.counter c.texts.rest.now _ c.texts.invariant own.address c.in-Some.after.now c.texts-test.true own.read
    (ap (λ (t : List ℕ). bytes_eq c.args.text.now t) own.spelled ∙ sym c.same_text.ensures ∙ c.if-same_text.false)

pub returns : goal.returns
returns c = any_done (has_text c.args.text.now) front_address c.args.count c.texts.counter c.texts.rest.now _ c.texts.invariant c.texts-test.false
