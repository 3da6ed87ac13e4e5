use Rattle.std.proofs.Common.{◌≡◌, ◌++◌, take}
use Rattle.ctrl_model.specs.AddressForm.{address_text}
use Rattle.record_lines.specs.RecordWords.{behind_commas, quoted_word}
use Rattle.record_lines.proofs.intercept_putting.put_more_addresses.Given as goal

-- the addresses so far
abbrev pub invariant-addresses : goal.invariant-addresses
invariant-addresses l = l.text.items ≡ l.fn.text.items ++ behind_commas (λ a. quoted_word (address_text a)) (take l.address-index l.addresses)
