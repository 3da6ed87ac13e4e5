-- Bytes that are an address are one place exactly where no mark of theirs says more.
use Rattle.std.proofs.Common.{◌≡◌, ℕ, ◌+◌, ◌-◌, ◌≤◌, ◌==◌, Bool, true, false, true≢false, not, ◌&&◌, nat_lt, cond, List, [], ◌∷◌, ◌++◌, length, map, take, drop, codes, decimal, bytes_eq, is_some, Option, Some, None, refl, sym, ap, ◌∙◌, arith, lit≤, ne_eqb, eqb-true, eq-eqb, ltb-true}
use Rattle.std.specs.Prelude.{option_map, option_and_then}
use Rattle.std.specs.List.{position, position_or_len, join_with_byte}
use Rattle.std.specs.Fmt.{digits}
use Rattle.std.specs.Option.{option_map_or}
use Rattle.std.specs.Str.Parse.{AllDigits}
use Rattle.std.proofs.lemmas.Bool.{and_parts, both_ways}
use Rattle.std.proofs.lemmas.Fmt.{decimal_is_IsNumeral}
use Rattle.std.proofs.lemmas.List.{take_rest}
use Rattle.std.proofs.lemmas.List.Elements.{All-cons, All-get_or, All-head}
use Rattle.std.proofs.lemmas.List.Splits.{length-slice_split, join_with_byte-slice_split}
use Rattle.std.proofs.lemmas.List.Sums.{passes_at_first}
use Rattle.std.proofs.lemmas.Option.{none-some, same_Some}
use Rattle.std.proofs.lemmas.Slice.Eq.{bytes_eq-Decides}
use Rattle.std.proofs.lemmas.Str.Parse.{digit_from_value}
use Rattle.ctrl_model.specs.declared.addresses.Address.{Address}
use Rattle.ctrl_model.specs.declared.addresses.Address.TheVariants.{Host, Under, Range}
use Rattle.ctrl_model.specs.AddressForm.{lowered, is_host, host_of, number_to, ip_of, first_bits, parts_at, range_in, range_of, under_of, or_else, address_of}
use Rattle.ctrl_model.specs.ValueForms.{is_one_place}
use Rattle.ctrl_model.proofs.CutLaws.{cut_found, cut_nowhere}
use Rattle.ctrl_model.proofs.HostTexts.{host_lacks}
use Rattle.ctrl_model.proofs.NumberTexts.{text_of_number, number_of_text}
use Rattle.ctrl_model.proofs.RangeTexts.{Lacks, Four, four_said, guarded, whole_pieces}
use Rattle.body_fields.specs.InterceptFields.{destination_of}
use Rattle.body_fields.specs.PlaceMarks.{has_no_star, is_unmarked}

-- ---- bytes without `/`

unplaced : (w : List ℕ) → Lacks 47 w → position (λ b. b == 47) w ≡ None
unplaced w lacks = by (nat_lt (position_or_len (λ b. b == 47) w) (length w)) refl
  where
    by : (b : Bool) → nat_lt (position_or_len (λ b. b == 47) w) (length w) ≡ b → cond b (Some (position_or_len (λ b. b == 47) w)) None ≡ None
    by true is =
        let within = ltb-true (position_or_len (λ b. b == 47) w) (length w) is in
        absurd (true≢false (sym (passes_at_first (λ b. b == 47) w 0 within) ∙ All-get_or (λ b. (b == 47) ≡ false) w (position_or_len (λ b. b == 47) w) 0 within lacks))
    by false is = refl

-- Such bytes are one place unless they begin with `*`.
by_star : (w : List ℕ) → Lacks 47 w → is_unmarked w ≡ has_no_star w
by_star w lacks = ap (λ o. option_map_or (λ place. bytes_eq (drop (place + 1) w) (codes "32")) o (has_no_star w)) (unplaced w lacks)

host_place : (w : List ℕ) → is_host w ≡ true → is_unmarked w ≡ true
host_place w h = by_star w (host_lacks 47 refl refl w h) ∙ by w (host_lacks 42 refl refl w h)
  where
    by : (w : List ℕ) → Lacks 42 w → has_no_star w ≡ true
    by [] lacks = refl
    by (b ∷ bs) lacks = ap not (All-head (λ x. (x == 42) ≡ false) b bs lacks)

under_place : (w text : List ℕ) → under_of w ≡ Some text → is_unmarked w ≡ false
under_place [] text e = absurd (none-some text e)
under_place (b ∷ []) text e = absurd (none-some text e)
under_place (star ∷ dot ∷ host) text e =
    let p = guarded ((star == 42) && (dot == 46)) (host_of host) text e in
    let marks = and_parts (star == 42) (dot == 46) p.0 in
    let q = guarded (is_host host) (Some (map lowered host)) text p.1 in
    let lacks = λ (x : ℕ). (x == 47) ≡ false in
    let all : Lacks 47 (star ∷ dot ∷ host) =
    All-cons lacks star (dot ∷ host) (ap (λ x. x == 47) (eqb-true star 42 marks.0)) (All-cons lacks dot host (ap (λ x. x == 47) (eqb-true dot 46 marks.1)) (host_lacks 47 refl refl host q.0)) in
    by_star (star ∷ dot ∷ host) all ∙ ap not marks.0

-- ---- ranges

-- Four numbers do not begin with `*`.
digits_first : (ds rest : List ℕ) → AllDigits 10 ds → has_no_star (ds ++ 46 ∷ rest) ≡ true
digits_first [] rest d = refl
digits_first (b ∷ bs) rest d = let r = digit_from_value b d.0 in ap not (ne_eqb b 42 (λ e. omega (arith, e, r.0)))

ip_place : (w : List ℕ) (ip : ℕ) → ip_of w ≡ Some ip → has_no_star w ≡ true
ip_place w ip e =
    let f : Four w ip = four_said w ip e in
    ap has_no_star (f.text ∙ sym (whole_pieces f.a f.b f.c f.d))
    ∙ digits_first (decimal f.a) _ (decimal_is_IsNumeral f.a (omega (arith, f.fit.a_fits))).0.1

-- All bits, as they are written.
thirty_two : decimal 32 ≡ codes "32"
unfolding digits
thirty_two = refl

-- The bits behind `/` are all bits exactly where they are written so.
bits_written : (k : List ℕ) (bits : ℕ) → number_to 32 k ≡ Some bits → (bits == 32) ≡ bytes_eq k (codes "32")
bits_written k bits e = by (bits == 32) (bytes_eq k (codes "32")) refl refl
  where
    text : k ≡ decimal bits
    text = (text_of_number 32 k bits e).0

    all : bits ≡ 32 → bytes_eq k (codes "32") ≡ true
    all is = (bytes_eq-Decides k (codes "32")).1 (text ∙ ap decimal is ∙ thirty_two)

    back : bytes_eq k (codes "32") ≡ true → bits ≡ 32
    back is =
        same_Some bits 32 (sym e ∙ ap (number_to 32) ((bytes_eq-Decides k (codes "32")).0 is ∙ sym thirty_two) ∙ number_of_text 32 32 (lit≤ tt) (omega arith))

    by : (b c : Bool) → (bits == 32) ≡ b → bytes_eq k (codes "32") ≡ c → b ≡ c
    by true true p q = refl
    by false false p q = refl
    by true false p q = absurd (both_ways (bytes_eq k (codes "32")) q (all (eqb-true bits 32 p)))
    by false true p q = absurd (both_ways (bits == 32) p (eq-eqb bits 32 (back q)))

range_place : (w : List ℕ) (ip bits : ℕ) → range_of w ≡ Some (ip, bits) → (bits == 32) ≡ is_unmarked w
range_place w ip bits e = by (position (λ b. b == 47) w) refl
  where
    whole : (o : Option ℕ) → ip_of w ≡ o → option_map {U = ℕ × ℕ} (λ n. (n, 32)) o ≡ Some (ip, bits) → (bits == 32) ≡ has_no_star w
    whole None is h = absurd (none-some (ip, bits) h)
    whole (Some n) is h = ap (λ b. b == 32) (sym (ap (λ (q : ℕ × ℕ). q.1) (same_Some (n, 32) (ip, bits) h))) ∙ sym (ip_place w n is)

    part : (i rest : List ℕ) (ks : List (List ℕ)) → parts_at 47 rest ≡ ks → 1 ≤ length ks → range_in (i ∷ ks) ≡ Some (ip, bits) → (bits == 32) ≡ bytes_eq rest (codes "32")
    part i rest [] is some h = absurd (omega (arith, some))
    part i rest (k ∷ []) is some h = read (ip_of i) h
      where
        same : rest ≡ k
        same = sym (join_with_byte-slice_split 47 rest) ∙ ap (join_with_byte 47) is

        bits_of : (n : ℕ) (o : Option ℕ) → number_to 32 k ≡ o → option_map {U = ℕ × ℕ} (λ m. (first_bits m n, m)) o ≡ Some (ip, bits) → (bits == 32) ≡ bytes_eq rest (codes "32")
        bits_of n None told h = absurd (none-some (ip, bits) h)
        bits_of n (Some m) told h =
            let is_bits : m ≡ bits = ap (λ (q : ℕ × ℕ). q.1) (same_Some (first_bits m n, m) (ip, bits) h) in
            bits_written k bits (told ∙ ap Some is_bits) ∙ ap (λ l. bytes_eq l (codes "32")) (sym same)

        read : (o : Option ℕ) → option_and_then (λ n. option_map {U = ℕ × ℕ} (λ m. (first_bits m n, m)) (number_to 32 k)) o ≡ Some (ip, bits) → (bits == 32) ≡ bytes_eq rest (codes "32")
        read None h = absurd (none-some (ip, bits) h)
        read (Some n) h = bits_of n (number_to 32 k) refl h
    part i rest (k ∷ j ∷ ks) is some h = absurd (none-some (ip, bits) h)

    by : (o : Option ℕ) → position (λ b. b == 47) w ≡ o → (bits == 32) ≡ option_map_or (λ place. bytes_eq (drop (place + 1) w) (codes "32")) o (has_no_star w)
    by None is = whole (ip_of w) refl (sym (ap range_in (cut_nowhere (λ b. b == 47) w is)) ∙ e)
    by (Some place) is =
        let rest = take (length w - (place + 1)) (drop (place + 1) w) in
        part (take place w) rest (parts_at 47 rest) refl (let some = length-slice_split (λ b. b == 47) rest in omega (arith, some)) (sym (ap range_in (cut_found (λ b. b == 47) w place is)) ∙ e)
        ∙ ap (λ l. bytes_eq l (codes "32")) (take_rest w (place + 1))

-- ---- addresses

pub unmarked_place : (w : List ℕ) → (is_some (address_of w) && is_unmarked w) ≡ is_some (option_and_then destination_of (address_of w))
unmarked_place w = ranged (range_of w) refl
  where
    told : (a : Address) → is_one_place a ≡ is_unmarked w → is_unmarked w ≡ is_some (destination_of a)
    told a is = sym is ∙ there (is_one_place a)
      where
        there : (b : Bool) → b ≡ is_some (cond b (Some a) None)
        there true = refl
        there false = refl

    hosted : (b : Bool) → is_host w ≡ b → (is_some (option_map (λ h. Host h) (cond b (Some (map lowered w)) None)) && is_unmarked w) ≡ is_some (option_and_then destination_of (option_map (λ h. Host h) (cond b (Some (map lowered w)) None)))
    hosted true is = host_place w is
    hosted false is = refl

    under : (o : Option (List ℕ)) → under_of w ≡ o → (is_some (or_else (option_map (λ h. Under h) o) (option_map (λ h. Host h) (host_of w))) && is_unmarked w)
        ≡ is_some (option_and_then destination_of (or_else (option_map (λ h. Under h) o) (option_map (λ h. Host h) (host_of w))))
    under None is = hosted (is_host w) refl
    under (Some h) is = under_place w h is

    ranged : (o : Option (ℕ × ℕ)) → range_of w ≡ o
        → (is_some (or_else (option_map (λ r. Range r.0 r.1) o) (or_else (option_map (λ h. Under h) (under_of w)) (option_map (λ h. Host h) (host_of w)))) && is_unmarked w)
        ≡ is_some (option_and_then destination_of (or_else (option_map (λ r. Range r.0 r.1) o) (or_else (option_map (λ h. Under h) (under_of w)) (option_map (λ h. Host h) (host_of w)))))
    ranged None is = under (under_of w) refl
    ranged (Some r) is = told (Range r.0 r.1) (range_place w r.0 r.1 is)
