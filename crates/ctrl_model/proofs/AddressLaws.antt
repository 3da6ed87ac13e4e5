-- Each address that bytes are is read back from its spelling.
use Rattle.std.proofs.Common.{◌≡◌, ℕ, ◌≤◌, ◌==◌, nat_le, ◌&&◌, ◌||◌, Bool, true, false, cond, is_some, bytes_eq, map, length, arith, leb-true, List, [], ◌∷◌, None, Some, Option, option_map, refl, sym, ap, ap₂, ◌∙◌, subst, eq-eqb, eqb-true}
use Rattle.std.proofs.lemmas.Bool.{and_from, and_parts, false≢true}
use Rattle.std.proofs.lemmas.Option.{none-some, same_Some}
use Rattle.std.proofs.lemmas.Slice.Eq.{bytes_eq-Decides}
use Rattle.std.specs.Option.{option_map_or}
use Rattle.std.specs.List.{list_all}
use Rattle.ctrl_model.specs.AddressForm.{lowered, is_host, host_of, range_of, under_of, or_else, address_of, address_text, same_address, is_address, is_spelling, is_range_spelling}
use Rattle.ctrl_model.specs.declared.addresses.Address.{Address}
use Rattle.ctrl_model.specs.declared.addresses.Address.TheVariants.{Host, Under, Range}
use Rattle.ctrl_model.proofs.HostTexts.{host_said, host_read, host_is_no_range, host_is_not_under, under_said, under_is_no_range}
use Rattle.ctrl_model.proofs.RangeTexts.{IsRange, guarded, range_said, range_read, range_short}

pub read_back : (bytes : List ℕ) (a : Address) → address_of bytes ≡ Some a → address_of (address_text a) ≡ Some a
read_back bytes a e = ranged (range_of bytes) refl e where
  hosted : (o : Option (List ℕ)) → host_of bytes ≡ o → option_map (λ h. Host h) o ≡ Some a → address_of (address_text a) ≡ Some a
  hosted None is e = absurd (none-some a e)
  hosted (Some h) is e =
      let p = host_said bytes h is in
      subst (λ x. address_of (address_text x) ≡ Some x) (same_Some (Host h) a e)
      (ap (λ r. or_else (option_map (λ r. Range r.0 r.1) r) (or_else (option_map (λ t. Under t) (under_of h)) (option_map (λ t. Host t) (host_of h)))) (host_is_no_range h p.0)
      ∙ ap (λ u. or_else (option_map (λ t. Under t) u) (option_map (λ t. Host t) (host_of h))) (host_is_not_under h p.0)
      ∙ ap (λ o. option_map (λ t. Host t) o) (host_read h p.0 p.1))

  under : (o : Option (List ℕ)) → under_of bytes ≡ o → or_else (option_map (λ h. Under h) o) (option_map (λ h. Host h) (host_of bytes)) ≡ Some a → address_of (address_text a) ≡ Some a
  under None is e = hosted (host_of bytes) refl e
  under (Some h) is e =
      let p = under_said bytes h is in
      subst (λ x. address_of (address_text x) ≡ Some x) (same_Some (Under h) a e)
      (ap (λ r. or_else (option_map (λ r. Range r.0 r.1) r) (or_else (option_map (λ t. Under t) (host_of h)) (option_map (λ t. Host t) (host_of (42 ∷ 46 ∷ h))))) (under_is_no_range h p.0)
      ∙ ap (λ u. or_else (option_map (λ t. Under t) u) (option_map (λ t. Host t) (host_of (42 ∷ 46 ∷ h)))) (host_read h p.0 p.1))

  ranged : (o : Option (ℕ × ℕ)) → range_of bytes ≡ o → or_else (option_map (λ r. Range r.0 r.1) o) (or_else (option_map (λ h. Under h) (under_of bytes)) (option_map (λ h. Host h) (host_of bytes))) ≡ Some a → address_of (address_text a) ≡ Some a
  ranged None is e = under (under_of bytes) refl e
  ranged (Some r) is e =
      let text = address_text (Range r.0 r.1) in
      subst (λ x. address_of (address_text x) ≡ Some x) (same_Some (Range r.0 r.1) a e)
      (ap (λ o. or_else (option_map (λ r. Range r.0 r.1) o) (or_else (option_map (λ h. Under h) (under_of text)) (option_map (λ h. Host h) (host_of text)))) (range_read r.0 r.1 (range_said bytes r.0 r.1 is)))

pub same_itself : (a : Address) → same_address a a ≡ true
same_itself (Host t) = (bytes_eq-Decides t t).1 refl
same_itself (Under t) = (bytes_eq-Decides t t).1 refl
same_itself (Range i k) = and_from _ _ (eq-eqb i i refl) (eq-eqb k k refl)

pub address_given : (bytes : List ℕ) (a : Address) → address_of bytes ≡ Some a → is_address a ≡ true
address_given bytes a e = ap (λ o. option_map_or (same_address a) o false) (read_back bytes a e) ∙ same_itself a

-- ---- addresses that are their own

differ : {P : Type 0} → false ≡ true → P
differ e = absurd (false≢true e)

pub same_is : (a b : Address) → same_address a b ≡ true → a ≡ b
same_is (Host t) (Host u) e = ap Host ((bytes_eq-Decides t u).0 e)
same_is (Host t) (Under u) e = differ e
same_is (Host t) (Range j l) e = differ e
same_is (Under t) (Host u) e = differ e
same_is (Under t) (Under u) e = ap Under ((bytes_eq-Decides t u).0 e)
same_is (Under t) (Range j l) e = differ e
same_is (Range i k) (Host u) e = differ e
same_is (Range i k) (Under u) e = differ e
same_is (Range i k) (Range j l) e = let p = and_parts (i == j) (k == l) e in ap₂ Range (eqb-true i j p.0) (eqb-true k l p.1)

pub own_spelling : (a : Address) → is_address a ≡ true → address_of (address_text a) ≡ Some a
own_spelling a is = by (address_of (address_text a)) refl is where
  by : (o : Option Address) → address_of (address_text a) ≡ o → option_map_or (same_address a) o false ≡ true → address_of (address_text a) ≡ Some a
  by None e is = differ is
  by (Some b) e is = e ∙ ap Some (sym (same_is a b is))

-- ---- a range that bytes are

abbrev parts_of_range : Address → ℕ × ℕ
parts_of_range (Host t) = (0, 0)
parts_of_range (Under t) = (0, 0)
parts_of_range (Range i k) = (i, k)

abbrev is_range : Address → Bool
is_range (Host t) = false
is_range (Under t) = false
is_range (Range i k) = true

pub ranged_only : (w : List ℕ) (ip bits : ℕ) → address_of w ≡ Some (Range ip bits) → range_of w ≡ Some (ip, bits)
ranged_only w ip bits e = by (range_of w) refl e where
  hosted : (o : Option (List ℕ)) → option_map (λ h. Host h) o ≡ Some (Range ip bits) → ⊥
  hosted None e = none-some (Range ip bits) e
  hosted (Some h) e = false≢true (ap is_range (same_Some (Host h) (Range ip bits) e))

  under : (o p : Option (List ℕ)) → or_else (option_map (λ h. Under h) o) (option_map (λ h. Host h) p) ≡ Some (Range ip bits) → ⊥
  under None p e = hosted p e
  under (Some h) p e = false≢true (ap is_range (same_Some (Under h) (Range ip bits) e))

  by : (o : Option (ℕ × ℕ)) → range_of w ≡ o → or_else (option_map (λ r. Range r.0 r.1) o) (or_else (option_map (λ h. Under h) (under_of w)) (option_map (λ h. Host h) (host_of w))) ≡ Some (Range ip bits) → range_of w ≡ Some (ip, bits)
  by None is e = absurd (under (under_of w) (host_of w) e)
  by (Some r) is e = is ∙ ap (λ a. Some (parts_of_range a)) (same_Some (Range r.0 r.1) (Range ip bits) e)

pub bits_within : (ip bits : ℕ) → is_address (Range ip bits) ≡ true → bits ≤ 32
bits_within ip bits is =
    let text = address_text (Range ip bits) in
    (range_said text ip bits (ranged_only text ip bits (own_spelling (Range ip bits) is))).few

-- ---- what an address that bytes are has

-- a host in small letters, what is under one, or a range whose other bits are 0
abbrev pub IsMade : Address → Type 0
IsMade (Host t) = (is_host t ≡ true) × (map lowered t ≡ t)
IsMade (Under t) = (is_host t ≡ true) × (map lowered t ≡ t)
IsMade (Range ip bits) = IsRange ip bits

pub made : (w : List ℕ) (a : Address) → address_of w ≡ Some a → IsMade a
made w a e = ranged (range_of w) refl e where
  hosted : (o : Option (List ℕ)) → host_of w ≡ o → option_map (λ h. Host h) o ≡ Some a → IsMade a
  hosted None is e = absurd (none-some a e)
  hosted (Some h) is e = subst IsMade (same_Some (Host h) a e) (host_said w h is)

  under : (o : Option (List ℕ)) → under_of w ≡ o → or_else (option_map (λ h. Under h) o) (option_map (λ h. Host h) (host_of w)) ≡ Some a → IsMade a
  under None is e = hosted (host_of w) refl e
  under (Some h) is e = subst IsMade (same_Some (Under h) a e) (under_said w h is)

  ranged : (o : Option (ℕ × ℕ)) → range_of w ≡ o → or_else (option_map (λ r. Range r.0 r.1) o) (or_else (option_map (λ h. Under h) (under_of w)) (option_map (λ h. Host h) (host_of w))) ≡ Some a → IsMade a
  ranged None is e = under (under_of w) refl e
  ranged (Some r) is e = subst IsMade (same_Some (Range r.0 r.1) a e) (range_said w r.0 r.1 is)

host_short : (t : List ℕ) → is_host t ≡ true → length t ≤ 253
host_short t h = leb-true (length t) 253 (and_parts (nat_le (length t) 253) _ h).0

pub text_short : (a : Address) → is_address a ≡ true → length (address_text a) ≤ 255
text_short a is = by a (made (address_text a) a (own_spelling a is)) where
  by : (a : Address) → IsMade a → length (address_text a) ≤ 255
  by (Host t) m = let short = host_short t m.0 in omega (arith, short)
  by (Under t) m = let short = host_short t m.0 in omega (arith, short)
  by (Range ip bits) m = let short = range_short ip bits m in omega (arith, short)

-- ---- which bytes are the one spelling of an address

pub small_bytes : (w : List ℕ) → list_all (λ b. lowered b == b) w ≡ bytes_eq (map lowered w) w
small_bytes [] = refl
small_bytes (b ∷ bs) = ap (λ t. (lowered b == b) && t) (small_bytes bs)

-- what is under a host, in small letters, is the text of the address
under_text : (w t : List ℕ) → under_of w ≡ Some t → 42 ∷ 46 ∷ t ≡ map lowered w
under_text [] t e = absurd (none-some t e)
under_text (a ∷ []) t e = absurd (none-some t e)
under_text (star ∷ dot ∷ host) t e =
    let p = guarded ((star == 42) && (dot == 46)) (host_of host) t e in
    let marks = and_parts (star == 42) (dot == 46) p.0 in
    let q = guarded (is_host host) (Some (map lowered host)) t p.1 in
    sym (λ i. lowered (eqb-true star 42 marks.0 i) ∷ lowered (eqb-true dot 46 marks.1 i) ∷ same_Some (map lowered host) t q.1 i)

-- bytes that are a range are its spelling where the range says so, and others where they have no capital
pub spelled_range : (w : List ℕ) → is_some (range_of w) ≡ true → is_range_spelling w ≡ is_spelling w
spelled_range w some = by (range_of w) some
  where
    by : (o : Option (ℕ × ℕ)) → is_some o ≡ true → option_map_or (λ (r : ℕ × ℕ). bytes_eq (address_text (Range r.0 r.1)) w) o false
        ≡ option_map_or (λ a. bytes_eq (address_text a) w)
        (or_else (option_map (λ (r : ℕ × ℕ). Range r.0 r.1) o) (or_else (option_map (λ h. Under h) (under_of w)) (option_map (λ h. Host h) (host_of w)))) false
    by None e = absurd (false≢true e)
    by (Some r) e = refl

pub spelled_host : (w : List ℕ) → is_some (range_of w) ≡ false → ((is_some (under_of w) || is_host w) && bytes_eq (map lowered w) w) ≡ is_spelling w
spelled_host w none = by (range_of w) none
  where
    hosted : (b : Bool) → is_host w ≡ b → (b && bytes_eq (map lowered w) w) ≡ option_map_or (λ a. bytes_eq (address_text a) w) (option_map (λ h. Host h) (cond b (Some (map lowered w)) None)) false
    hosted true is = refl
    hosted false is = refl

    under : (o : Option (List ℕ)) → under_of w ≡ o → ((is_some o || is_host w) && bytes_eq (map lowered w) w)
        ≡ option_map_or (λ a. bytes_eq (address_text a) w) (or_else (option_map (λ h. Under h) o) (option_map (λ h. Host h) (host_of w))) false
    under None is = hosted (is_host w) refl
    under (Some t) is = ap (λ u. bytes_eq u w) (sym (under_text w t is))

    by : (o : Option (ℕ × ℕ)) → is_some o ≡ false → ((is_some (under_of w) || is_host w) && bytes_eq (map lowered w) w)
        ≡ option_map_or (λ a. bytes_eq (address_text a) w)
        (or_else (option_map (λ (r : ℕ × ℕ). Range r.0 r.1) o) (or_else (option_map (λ h. Under h) (under_of w)) (option_map (λ h. Host h) (host_of w)))) false
    by None e = under (under_of w) refl
    by (Some r) e = absurd (false≢true (sym e))

-- bytes that are a spelling are that of the address that they are
pub spelled_as : (w : List ℕ) → is_spelling w ≡ true → (a : Address) × (address_of w ≡ Some a) × (address_text a ≡ w)
spelled_as w e = by (address_of w) refl e
  where
    by : (o : Option Address) → address_of w ≡ o → option_map_or (λ a. bytes_eq (address_text a) w) o false ≡ true → (a : Address) × (address_of w ≡ Some a) × (address_text a ≡ w)
    by None is e = absurd (false≢true e)
    by (Some a) is e = (a, is, (bytes_eq-Decides (address_text a) w).0 e)
