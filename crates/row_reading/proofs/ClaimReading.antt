-- Intercepts as they are read: ranges of ports, and which lists of them an intercept may claim, judged on the bytes.
use Rattle.std.proofs.Common.{◌≡◌, ℕ, zero, suc, ◌<◌, Bool, true, false, cond, leb, ◌&&◌, ◌||◌, List, [], ◌∷◌, length, Option, Some, None, refl, sym, ◌∙◌, ap, ap₂, arith}
use Rattle.std.proofs.lemmas.Bool.{le-leb}
use Rattle.std.specs.List.{list_all}
use Rattle.std.specs.Option.{option_map, option_map_or, option_and_then}
use Rattle.ctrl_model.specs.declared.addresses.Address.{Address}
use Rattle.ctrl_model.specs.declared.intercepts.Intercept.{Intercept}
use Rattle.ctrl_model.specs.declared.intercepts.PortRange.{PortRange}
use Rattle.ctrl_model.specs.AddressForm.{same_address, is_address}
use Rattle.ctrl_model.specs.InterceptForm.{is_claim, is_intercept, is_port_range, is_without_repeats, same_ports}
use Rattle.row_codec.specs.FieldReading.{Front, alone, at_end, both, front_byte, front_short, kept, mapped}
use Rattle.row_codec.proofs.FieldLaws.{AreBytes, and_left, and_right}
use Rattle.row_reading.specs.RowReading.{front_intercept, front_parts, front_port_range, intercept_of, is_claimed, port_range_of, things_in, things_of}
use Rattle.row_reading.proofs.FormLaws.{both_read}
use Rattle.row_reading.proofs.ValueLaws.{fits_addresses, fits_ports, fits_intercept, parts_fit}

-- ---- what is kept of what is read

kept_read : {A B : Type 0} (make : A → B) (q : B → Bool) (f : List ℕ → Front A) (bytes : List ℕ) (x : A) (after : List ℕ) → Some (x, after) ≡ f bytes
    → kept q (mapped make f) bytes ≡ cond (q (make x)) (Some (make x, after)) None
kept_read {A = A} {B = B} make q f bytes x after e =
    ap (λ (o : Front A). option_and_then (λ (y : B × List ℕ). cond (q y.0) (Some y) None) (option_map (λ (z : A × List ℕ). (make z.0, z.1)) o)) (sym e)

module _ {A B : Type 0} (make : A → B) (q : B → Bool) where
  whole : (a : A) (b : Bool) → option_and_then (λ (y : B × List ℕ). at_end y.0 y.1) (cond b (Some (make a, [])) None) ≡ cond b (Some (make a)) None
  whole a true = refl
  whole a false = refl

  more : (a : A) (r : ℕ) (rest : List ℕ) (b : Bool) → option_and_then (λ (y : B × List ℕ). at_end y.0 y.1) (cond b (Some (make a, r ∷ rest)) None) ≡ None
  more a r rest true = refl
  more a r rest false = refl

  ends : (a : A) (rest : List ℕ) → option_and_then (λ (y : B × List ℕ). at_end y.0 y.1) (cond (q (make a)) (Some (make a, rest)) None)
      ≡ option_and_then (λ (z : A). cond (q (make z)) (Some (make z)) None) (at_end a rest)
  ends a [] = whole a (q (make a))
  ends a (r ∷ rest) = more a r rest (q (make a))

  by_front : (o : Front A)
      → option_and_then (λ (y : B × List ℕ). at_end y.0 y.1) (option_and_then (λ (y : B × List ℕ). cond (q y.0) (Some y) None) (option_map (λ (x : A × List ℕ). (make x.0, x.1)) o))
      ≡ option_and_then (λ (z : A). cond (q (make z)) (Some (make z)) None) (option_and_then (λ (x : A × List ℕ). at_end x.0 x.1) o)
  by_front None = refl
  by_front (Some x) = ends x.0 x.1

  pub alone_kept : (f : List ℕ → Front A) (bytes : List ℕ)
      → alone (kept q (mapped make f)) bytes ≡ option_and_then (λ (z : A). cond (q (make z)) (Some (make z)) None) (alone f bytes)
  alone_kept f bytes = by_front (f bytes)

-- ---- ranges of ports

pub ports_read : (bytes : List ℕ) (low : ℕ) (rest : List ℕ) (high : ℕ) (after : List ℕ) → Some (low, rest) ≡ front_short bytes → Some (high, after) ≡ front_short rest
    → (t : Bool) → is_port_range (port_range_of (low, high)) ≡ t → front_port_range bytes ≡ cond t (Some (port_range_of (low, high), after)) None
ports_read bytes low rest high after e h t is =
    kept_read port_range_of is_port_range (both front_short front_short) bytes (low, high) after (both_read front_short front_short bytes low rest high after e h)
    ∙ ap (λ (c : Bool). cond c (Some (port_range_of (low, high), after)) None) is

-- ---- lists that are claimed

module _ {A : Type 0} (same : A → A → Bool) (f : List ℕ → Front A) (bytes : List ℕ) where
  pub no_list_claimed : None ≡ front_byte bytes → false ≡ is_claimed same (things_of f bytes)
  no_list_claimed e = ap (λ (o : Front ℕ). is_claimed same (option_map_or (λ (n : ℕ × List ℕ). things_in f n.0 n.1) o [])) e

  things_at : (count : ℕ) (rest : List ℕ) → Some (count, rest) ≡ front_byte bytes → things_of f bytes ≡ things_in f count rest
  things_at count rest e = ap (λ (o : Front ℕ). option_map_or (λ (n : ℕ × List ℕ). things_in f n.0 n.1) o []) (sym e)

  pub empty_claimed : (count : ℕ) (rest : List ℕ) → Some (count, rest) ≡ front_byte bytes → count ≡ 0 → false ≡ is_claimed same (things_of f bytes)
  empty_claimed count rest e none = sym (ap (is_claimed same) (things_at count rest e ∙ ap (λ (n : ℕ). things_in f n rest) none))

  nothing_in : (count : ℕ) (rest : List ℕ) → f rest ≡ None → things_in f count rest ≡ []
  nothing_in zero rest h = refl
  nothing_in (suc n) rest h = ap (λ (o : Front A). option_map_or (λ (x : A × List ℕ). x.0 ∷ things_in f n x.1) o []) h

  pub nothing_claimed : (count : ℕ) (rest : List ℕ) → Some (count, rest) ≡ front_byte bytes → f rest ≡ None → false ≡ is_claimed same (things_of f bytes)
  nothing_claimed count rest e h = sym (ap (is_claimed same) (things_at count rest e ∙ nothing_in count rest h))

  some_in : (count : ℕ) (rest : List ℕ) (x : A × List ℕ) → 0 < count → f rest ≡ Some x → leb 1 (length (things_in f count rest)) ≡ true
  some_in zero rest x lt h = absurd (omega (arith, lt))
  some_in (suc n) rest x lt h =
      ap (λ (o : Front A). leb 1 (length (option_map_or (λ (y : A × List ℕ). y.0 ∷ things_in f n y.1) o []))) h ∙ le-leb 1 (length (x.0 ∷ things_in f n x.1)) (omega arith)

  pub things_claimed : (count : ℕ) (rest : List ℕ) (x : A × List ℕ) → Some (count, rest) ≡ front_byte bytes → 0 < count → f rest ≡ Some x
      → (b : Bool) → b ≡ is_without_repeats same (things_in f count rest) → b ≡ is_claimed same (things_of f bytes)
  things_claimed count rest x e lt h b is =
      is ∙ sym (ap (λ (c : Bool). c && is_without_repeats same (things_in f count rest)) (some_in count rest x lt h)) ∙ sym (ap (is_claimed same) (things_at count rest e))

-- ---- intercepts

-- of a short list of its form the rest of a claim is left to judge
claim_left : {A : Type 0} (form : A → Bool) (same : A → A → Bool) (xs : List A) → (leb (length xs) 32 && list_all form xs) ≡ true → is_claim form same xs ≡ is_claimed same xs
claim_left form same xs e = ap (λ (b : Bool). leb 1 (length xs) && b) (by (leb (length xs) 32) (list_all form xs) e)
  where
    by : (a b : Bool) → (a && b) ≡ true → (a && (b && is_without_repeats same xs)) ≡ is_without_repeats same xs
    by true true e = refl
    by true false e = absurd cc
    by false b e = absurd cc

intercept_left : (i : Intercept) → fits_intercept i ≡ true → is_intercept i ≡ (is_claimed same_address i.addresses && is_claimed same_ports i.ports)
intercept_left i e =
    let lists = and_right (i.tcp || i.udp) (fits_addresses i.addresses && fits_ports i.ports) e in
    ap₂ (λ (c d : Bool). c && d) (and_left (i.tcp || i.udp) (fits_addresses i.addresses && fits_ports i.ports) e)
    (ap₂ (λ (c d : Bool). c && d) (claim_left is_address same_address i.addresses (and_left (fits_addresses i.addresses) (fits_ports i.ports) lists))
    (claim_left is_port_range same_ports i.ports (and_right (fits_addresses i.addresses) (fits_ports i.ports) lists)))

-- the protocols, the addresses and the ranges of ports that are read
abbrev Parts : Type 0
Parts = (Bool × Bool) × (List Address × List PortRange)

abbrev judged : Parts → Option Intercept
judged x = cond (is_intercept (intercept_of x)) (Some (intercept_of x)) None

pub intercept_read : (value : List ℕ) (x : Parts) → AreBytes value → Some x ≡ alone front_parts value → (t : Bool)
    → (is_claimed same_address x.1.0 && is_claimed same_ports x.1.1) ≡ t → alone front_intercept value ≡ cond t (Some (intercept_of x)) None
intercept_read value x fits e t is =
    alone_kept intercept_of is_intercept front_parts value ∙ ap (λ (o : Option Parts). option_and_then judged o) (sym e)
    ∙ ap (λ (c : Bool). cond c (Some (intercept_of x)) None) (intercept_left (intercept_of x) (parts_fit value x fits (sym e)) ∙ is)
