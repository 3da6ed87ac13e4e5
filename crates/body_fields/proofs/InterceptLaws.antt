-- The fields of the commands on intercepts: what they give is of the form that the commands keep.
use Rattle.std.proofs.Common.{◌≡◌, ◌↔◌, ℕ, ◌≤◌, nat_le, Bool, true, false, not, ◌&&◌, ◌||◌, List, [], ◌∷◌, length, Option, Result, Some, None, Ok, Err, IsErrOf, IsOk, IsSome, refl, ap, ◌∙◌, subst, arith}
use Rattle.std.specs.Prelude.{is_some, option_map, option_and_then}
use Rattle.std.specs.Option.{ok_or}
use Rattle.std.specs.List.{list_all}
use Rattle.std.proofs.lemmas.Bool.{and_from, and_parts, false≢true}
use Rattle.std.proofs.lemmas.Option.{cond_some, option_and_then_some, same_Some}
use Rattle.serde_json.specs.Data.{Data}
use Rattle.serde_json.specs.Find.{as_str}
use Rattle.serde_json.specs.View.{view, items_view}
use Rattle.serde_json.specs.declared.value.Value.{Value}
use Rattle.ctrl_model.specs.declared.addresses.Address.{Address}
use Rattle.ctrl_model.specs.declared.addresses.AddressFault.{AddressFault}
use Rattle.ctrl_model.specs.declared.addresses.AddressFault.TheVariants as fault
use Rattle.ctrl_model.specs.declared.intercepts.PortRange.{PortRange}
use Rattle.ctrl_model.specs.declared.refusals.Field.TheVariants as field
use Rattle.ctrl_model.specs.AddressForm.{address_of, same_address, is_address}
use Rattle.ctrl_model.specs.ValueForms.{is_one_place, is_destination, is_port}
use Rattle.ctrl_model.specs.InterceptForm.{is_port_range, is_claim, same_ports}
use Rattle.ctrl_model.proofs.AddressLaws.{address_given}
use Rattle.json_body.specs.declared.fields.FieldFault.{FieldFault}
use Rattle.json_body.specs.declared.fields.FieldFault.TheVariants.{WrongKind, NoMemory}
use Rattle.json_body.specs.FieldKinds.{member_of, required_from, required}
use Rattle.body_fields.specs.ReadResults.{Gives}
use Rattle.body_fields.specs.ItemLists.{each_of, as_each_of}
use Rattle.body_fields.specs.InterceptFields.{as_protocol, protocols_of, as_protocols, as_address, as_addresses, destination_of, as_destination, as_port, range_of, as_range, as_ranges}
use Rattle.ctrl_model.specs.declared.intercepts.ProtocolSet.{ProtocolSet}
use Rattle.body_fields.proofs.FieldLaws.{number_form}
use Rattle.body_fields.proofs.ItemLaws.{as_each_of-form}
use Rattle.body_fields.proofs.OnceLaws.{as_some_once-claim}

-- A protocol at least.
protocols_of-form : (words : List Bool) (p : ProtocolSet) → protocols_of words ≡ Some p → (p.tcp || p.udp) ≡ true
protocols_of-form [] p e = absurd (cc)
protocols_of-form (udp ∷ []) p e = subst (λ (q : ProtocolSet). (q.tcp || q.udp) ≡ true) (same_Some (record { tcp = not udp; udp = udp }) p e) (by udp)
  where
    by : (b : Bool) → (not b || b) ≡ true
    by true = refl
    by false = refl
protocols_of-form (udp ∷ other ∷ []) p e =
    subst (λ (q : ProtocolSet). (q.tcp || q.udp) ≡ true) (same_Some (record { tcp = not udp || not other; udp = udp || other }) p e) (by udp other)
  where
    by : (b c : Bool) → ((not b || not c) || (b || c)) ≡ true
    by true true = refl
    by true false = refl
    by false c = refl
protocols_of-form (udp ∷ other ∷ third ∷ words) p e = absurd (cc)

pub protocols-form : (d : Data) (p : ProtocolSet) → as_protocols d ≡ Some p → (p.tcp || p.udp) ≡ true
protocols-form d p e = option_and_then_some protocols_of (as_each_of 2 as_protocol d) p e (λ words is told. protocols_of-form words p told)

-- An address.
address-form : (d : Data) (a : Address) → as_address d ≡ Some a → is_address a ≡ true
address-form d a e = option_and_then_some address_of (as_str d) a e (λ bytes is told. address_given bytes a told)

pub addresses-form : (d : Data) (xs : List Address) → as_addresses d ≡ Some xs → is_claim is_address same_address xs ≡ true
addresses-form d xs e = as_some_once-claim same_address as_address is_address address-form d xs e

-- An address that is one place.
pub destination-form : (d : Data) (a : Address) → as_destination d ≡ Some a → is_destination a ≡ true
destination-form d a e =
    option_and_then_some destination_of (as_address d) a e (λ b is told.
    let p = cond_some (is_one_place b) b a told in
    subst (λ c. is_destination c ≡ true) p.1 (and_from (is_address b) (is_one_place b) (address-form d b is) p.0))

-- A port.
pub port-form : (d : Data) (n : ℕ) → as_port d ≡ Some n → is_port n ≡ true
port-form d n e = number_form 1 65535 d n e

-- A range of ports.
range_of-form : (ports : List ℕ) (r : PortRange) → range_of ports ≡ Some r → (all : ports ≡ r.low ∷ r.high ∷ []) × (nat_le r.low r.high ≡ true)
range_of-form [] r e = absurd (cc)
range_of-form (low ∷ []) r e = absurd (cc)
range_of-form (low ∷ high ∷ []) r e =
    let p = cond_some (nat_le low high) (record { low = low; high = high }) r e in
    (ap (λ (q : PortRange). q.low ∷ q.high ∷ []) p.1, subst (λ (q : PortRange). nat_le q.low q.high ≡ true) p.1 p.0)
range_of-form (low ∷ high ∷ third ∷ ports) r e = absurd (cc)

range-form : (d : Data) (r : PortRange) → as_range d ≡ Some r → is_port_range r ≡ true
range-form d r e =
    option_and_then_some range_of (as_each_of 2 as_port d) r e (λ ports is told.
    as_each_of-form 2 as_port is_port port-form d ports is (λ few all.
    let p = range_of-form ports r told in
    let both = and_parts (is_port r.low) (is_port r.high && true) (subst (λ ns. list_all is_port ns ≡ true) p.0 all) in
    let low = and_parts (nat_le 1 r.low) (nat_le r.low 65535) both.0 in
    let high = and_parts (nat_le 1 r.high) (nat_le r.high 65535) (and_parts (is_port r.high) true both.1).0 in
    and_from (nat_le 1 r.low) (nat_le r.low r.high && nat_le r.high 65535) low.0 (and_from (nat_le r.low r.high) (nat_le r.high 65535) p.1 high.1)))

pub ranges-form : (d : Data) (rs : List PortRange) → as_ranges d ≡ Some rs → is_claim is_port_range same_ports rs ≡ true
ranges-form d rs e = as_some_once-claim same_ports as_range is_port_range range-form d rs e

-- ---- lists of another length

-- Values that are not two are no range of ports.
pub no_two_ports : (vs : List Value) → (length vs ≡ 2 → ⊥) → option_and_then range_of (each_of as_port (items_view vs)) ≡ None
no_two_ports [] other = refl
no_two_ports (v ∷ []) other = by (as_port (view v))
  where
    by : (o : Option ℕ) → option_and_then range_of (option_and_then (λ x. Some (x ∷ [])) o) ≡ None
    by None = refl
    by (Some x) = refl
no_two_ports (v ∷ w ∷ []) other = absurd (other refl)
no_two_ports (v ∷ w ∷ u ∷ vs) other = by (as_port (view v)) (as_port (view w)) (as_port (view u)) (each_of as_port (items_view vs))
  where
    by : (a b c : Option ℕ) (more : Option (List ℕ))
        → option_and_then range_of (option_and_then (λ x. option_map (λ xs. x ∷ xs) (option_and_then (λ y. option_map (λ ys. y ∷ ys) (option_and_then (λ z. option_map (λ zs. z ∷ zs) more) c)) b)) a) ≡ None
    by None b c more = refl
    by (Some x) None c more = refl
    by (Some x) (Some y) None more = refl
    by (Some x) (Some y) (Some z) None = refl
    by (Some x) (Some y) (Some z) (Some zs) = refl

-- More than two words are no protocols.
pub no_two_words : (vs : List Value) → 3 ≤ length vs → option_and_then protocols_of (each_of as_protocol (items_view vs)) ≡ None
no_two_words [] more = absurd (omega (arith, more))
no_two_words (v ∷ []) more = absurd (omega (arith, more))
no_two_words (v ∷ w ∷ []) more = absurd (omega (arith, more))
no_two_words (v ∷ w ∷ u ∷ vs) more = by (as_protocol (view v)) (as_protocol (view w)) (as_protocol (view u)) (each_of as_protocol (items_view vs))
  where
    by : (a b c : Option Bool) (more : Option (List Bool))
        → option_and_then protocols_of (option_and_then (λ x. option_map (λ xs. x ∷ xs) (option_and_then (λ y. option_map (λ ys. y ∷ ys) (option_and_then (λ z. option_map (λ zs. z ∷ zs) more) c)) b)) a) ≡ None
    by None b c more = refl
    by (Some x) None c more = refl
    by (Some x) (Some y) None more = refl
    by (Some x) (Some y) (Some z) None = refl
    by (Some x) (Some y) (Some z) (Some zs) = refl

-- ---- faults

pub nothing_of : {A : Type 0} (o : Option A) → is_some o ≡ false → None ≡ o
nothing_of None e = refl
nothing_of (Some x) e = absurd (cc)

-- Where memory is wanting for an address, there is one.
pub address_not_bad : (w : List ℕ) (r : Result Address AddressFault) (e : AddressFault) → r ≡ Err e → e ≡ fault.NoMemory → (IsErrOf r fault.BadAddress ↔ (address_of w ≡ None)) → IsSome (address_of w)
address_not_bad w r e failed wanting bad = by (address_of w) refl
  where
    by : (o : Option Address) → address_of w ≡ o → IsSome o
    by None none =
        let bad_too : ◌≡◌ {A = Result Address AddressFault} (Err fault.NoMemory) (Err fault.BadAddress) = subst (λ q. IsErrOf q fault.BadAddress) (failed ∙ ap Err wanting) (bad.1 none) in
        absurd (cc)
    by (Some a) some = refl

-- What an object gives as destination, if it gives a text.
pub destination_at : (o : Data) (text : List ℕ) → required as_str field.Address o ≡ Ok text → required as_destination field.Address o ≡ ok_or (option_and_then destination_of (address_of text)) (WrongKind field.Address)
destination_at o text e = by (member_of field.Address o) e
  where
    told : (q : Option (List ℕ)) → ok_or q (WrongKind field.Address) ≡ Ok text
        → ok_or (option_and_then destination_of (option_and_then address_of q)) (WrongKind field.Address) ≡ ok_or (option_and_then destination_of (address_of text)) (WrongKind field.Address)
    told None e = absurd (cc)
    told (Some t) e = let same : t ≡ text = cc in ap (λ w. ok_or (option_and_then destination_of (address_of w)) (WrongKind field.Address)) same

    by : (v : Option Data) → required_from field.Address as_str v ≡ Ok text → required_from field.Address as_destination v ≡ ok_or (option_and_then destination_of (address_of text)) (WrongKind field.Address)
    by None e = absurd (cc)
    by (Some d) e = told (as_str d) e

pub destination_given : (r : Result Address FieldFault) (o : Option Address) (reading : Result Address FieldFault)
    → r ≡ ok_or o (WrongKind field.Address) → reading ≡ ok_or o (WrongKind field.Address) → Gives NoMemory (λ a. a) r reading
destination_given r None reading p q = rw (p, q) (λ other. refl)
destination_given r (Some a) reading p q = rw (p, q) refl

pub destination_there : (o : Data) (text : List ℕ) → required as_str field.Address o ≡ Ok text → IsSome (option_and_then destination_of (address_of text)) → IsOk (required as_destination field.Address o)
destination_there o text e there = rw (destination_at o text e) (by (option_and_then destination_of (address_of text)) there)
  where
    by : (d : Option Address) → IsSome d → IsOk (ok_or d (WrongKind field.Address))
    by None there = absurd (false≢true there)
    by (Some a) there = refl
