-- The protocols, addresses and ports of intercepts are read as they were written.
use Rattle.std.proofs.Common.{◌≡◌, ◌≤◌, nat_le, Bool, true, false, cond, ◌&&◌, ◌||◌, List, [], ◌∷◌, length, map, Option, Some, None, refl, ap, ◌∙◌, arith, leb-true, le-leb}
use Rattle.std.specs.Prelude.{option_map, option_and_then}
use Rattle.std.specs.List.{list_all}
use Rattle.std.proofs.lemmas.Bool.{and_from, and_parts, false≢true}
use Rattle.std.proofs.lemmas.Simd.{map-map}
use Rattle.serde_json.specs.Data.{Data, string, array}
use Rattle.serde_json.specs.View.{items_of}
use Rattle.ctrl_model.specs.declared.addresses.Address.{Address}
use Rattle.ctrl_model.specs.declared.intercepts.PortRange.{PortRange}
use Rattle.ctrl_model.specs.AddressForm.{address_text, same_address, is_address}
use Rattle.ctrl_model.specs.ValueForms.{is_destination, is_one_place, is_port}
use Rattle.ctrl_model.specs.InterceptForm.{is_claim, is_port_range, is_without_repeats, same_ports}
use Rattle.ctrl_model.proofs.AddressLaws.{own_spelling}
use Rattle.body_fields.specs.InterceptFields.{as_protocol, as_protocols, as_address, as_addresses, destination_of, as_destination, as_port, range_of, as_range, as_ranges}
use Rattle.body_fields.specs.ItemLists.{each_once, at_least_one, as_some_once}
use Rattle.body_fields.proofs.OnceLaws.{each_once-own}
use Rattle.command_bodies.specs.WrittenFields.{natural, list_of, two_ports}
use Rattle.command_bodies.specs.WrittenWords.{protocol_word, protocol_words}
use Rattle.command_bodies.proofs.WrittenKinds.{number_read, list_read}

-- ---- lists of what an intercept claims

-- Each thing of a claim has its form.
pub claimed_forms : {A : Type 0} (form : A → Bool) (same : A → A → Bool) (xs : List A) → is_claim form same xs ≡ true → list_all form xs ≡ true
claimed_forms form same xs h =
    let p = and_parts (nat_le 1 (length xs)) (nat_le (length xs) 32 && (list_all form xs && is_without_repeats same xs)) h in
    let q = and_parts (nat_le (length xs) 32) (list_all form xs && is_without_repeats same xs) p.1 in
    (and_parts (list_all form xs) (is_without_repeats same xs) q.1).0

some_read : {A : Type 0} (kind : Data → Option A) (g : A → Data) (form : A → Bool) (same : A → A → Bool) → ((x : A) → form x ≡ true → kind (g x) ≡ Some x)
    → (xs : List A) → is_claim form same xs ≡ true → as_some_once 32 kind same (array (items_of (map g xs))) ≡ Some xs
some_read {A} kind g form same each xs h =
    let p = and_parts (nat_le 1 (length xs)) (nat_le (length xs) 32 && (list_all form xs && is_without_repeats same xs)) h in
    let q = and_parts (nat_le (length xs) 32) (list_all form xs && is_without_repeats same xs) p.1 in
    let r = and_parts (list_all form xs) (is_without_repeats same xs) q.1 in
    ap (λ o. option_map (each_once same) (option_and_then at_least_one o)) (list_read 32 kind g form each xs q.0 r.0)
    ∙ some xs p.0 ∙ ap (λ l. Some l) (each_once-own same xs r.1)
  where
    some : (ys : List A) → nat_le 1 (length ys) ≡ true → option_map (each_once same) (at_least_one ys) ≡ Some (each_once same ys)
    some [] e = absurd (false≢true e)
    some (y ∷ ys) e = refl

-- ---- protocols

pub protocol_read : (udp : Bool) → as_protocol (string (protocol_word udp)) ≡ Some udp
protocol_read true = refl
protocol_read false = refl

pub protocols_read : (tcp udp : Bool) → (tcp || udp) ≡ true → as_protocols (list_of (λ t. string t) (protocol_words tcp udp)) ≡ Some (record { tcp = tcp; udp = udp })
protocols_read true true h = refl
protocols_read true false h = refl
protocols_read false true h = refl
protocols_read false false h = absurd (false≢true h)

-- ---- addresses

address_read : (a : Address) → is_address a ≡ true → as_address (string (address_text a)) ≡ Some a
address_read a h = own_spelling a h

pub addresses_read : (xs : List Address) → is_claim is_address same_address xs ≡ true → as_addresses (list_of (λ t. string t) (map address_text xs)) ≡ Some xs
addresses_read xs h =
    ap (λ ds. as_addresses (array (items_of ds))) (map-map (λ t. string t) address_text xs)
    ∙ some_read as_address (λ a. string (address_text a)) is_address same_address address_read xs h

pub destination_read : (a : Address) → is_destination a ≡ true → as_destination (string (address_text a)) ≡ Some a
destination_read a h =
    let p = and_parts (is_address a) (is_one_place a) h in
    ap (option_and_then destination_of) (address_read a p.0) ∙ ap (λ b. cond b (Some a) None) p.1

-- ---- ports

pub range_read : (r : PortRange) → is_port_range r ≡ true → as_range (two_ports r) ≡ Some r
range_read r h =
    let p = and_parts (nat_le 1 r.low) (nat_le r.low r.high && nat_le r.high 65535) h in
    let q = and_parts (nat_le r.low r.high) (nat_le r.high 65535) p.1 in
    let least : 1 ≤ r.low = leb-true 1 r.low p.0 in
    let rises : r.low ≤ r.high = leb-true r.low r.high q.0 in
    let most : r.high ≤ 65535 = leb-true r.high 65535 q.1 in
    let low : is_port r.low ≡ true = and_from (nat_le 1 r.low) (nat_le r.low 65535) p.0 (le-leb r.low 65535 (omega (arith, rises, most))) in
    let high : is_port r.high ≡ true = and_from (nat_le 1 r.high) (nat_le r.high 65535) (le-leb 1 r.high (omega (arith, least, rises))) q.1 in
    ap (option_and_then range_of) (list_read 2 as_port natural is_port (number_read 1 65535) (r.low ∷ r.high ∷ []) refl
    (and_from (is_port r.low) (is_port r.high && true) low (and_from (is_port r.high) true high refl)))
    ∙ ap (λ b. cond b (Some r) None) q.0

pub ranges_read : (rs : List PortRange) → is_claim is_port_range same_ports rs ≡ true → as_ranges (list_of two_ports rs) ≡ Some rs
ranges_read rs h = some_read as_range two_ports is_port_range same_ports range_read rs h
