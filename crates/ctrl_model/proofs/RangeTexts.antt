-- Texts of ranges of addresses: each that is read so is written, and what is written is read as it.
use Rattle.std.proofs.Common.{◌≡◌, ℕ, ◌+◌, ◌-◌, ◌*◌, ◌/◌, ◌%◌, ◌^◌, ◌<◌, ◌≤◌, ◌==◌, Bool, true, false, cond, not, ◌&&◌, is_some, bytes_eq, List, [], ◌∷◌, ◌++◌, length, All, codes, decimal, Option, None, Some, option_map, option_and_then, Result, Ok, Err, refl, sym, ap, ◌∙◌, subst, arith, append_assoc, append-nil, length-append, div-add-mod', eqb-true, eq-eqb, ne_eqb}
use Rattle.std.proofs.Math.Nat.{mul-mod_left}
use Rattle.std.proofs.lemmas.Fmt.{decimal_is_IsNumeral, length-decimal-le}
use Rattle.std.proofs.lemmas.Bool.{false≢true, false_from_ne_true, eqb-false}
use Rattle.std.proofs.lemmas.List.{append_cancel_right}
use Rattle.std.proofs.lemmas.List.Elements.{All-nil, All-cons, All-append, All-head, All-tail}
use Rattle.std.proofs.lemmas.List.Splits.{slice_split_at, slice_split_none, join_with_byte-slice_split}
use Rattle.std.proofs.lemmas.Option.{none-some, same_Some}
use Rattle.std.proofs.lemmas.Slice.Eq.{bytes_eq-Decides}
use Rattle.std.proofs.lemmas.Str.Parse.{digit_from_value}
use Rattle.std.specs.Int.{w32, from_be_bytes}
use Rattle.std.specs.List.{join_with_byte}
use Rattle.std.specs.Option.{option_map_or}
use Rattle.std.specs.Net.Addr.{ipv4_bits}
use Rattle.std.specs.Net.Grammar.{IsIpv4Text, Parses}
use Rattle.std.specs.Net.Text.{dotted_text}
use Rattle.std.specs.Result.{result_ok}
use Rattle.std.specs.Str.Parse.{AllDigits}
use Rattle.std.specs.declared.net.ipv4_addr.Ipv4Addr.{Ipv4Addr}
use Rattle.ctrl_model.specs.AddressForm.{parts_at, number_to, ip_behind, ip_of, first_bits, range_in, range_of, ip_text, address_text, is_range_spelling}
use Rattle.ctrl_model.specs.declared.addresses.Address.TheVariants.{Range}
use Rattle.ctrl_model.proofs.NumberTexts.{text_of_number, number_of_text}

-- ---- what was read, of a chain of reads

pub guarded : {A : Type 0} (b : Bool) (o : Option A) (y : A) → cond b o None ≡ Some y → (b ≡ true) × (o ≡ Some y)
guarded true o y e = (refl, e)
guarded false o y e = absurd (none-some y e)

read_then : {A B P : Type 0} (f : A → Option B) (o : Option A) (y : B) → option_and_then f o ≡ Some y → ((x : A) → o ≡ Some x → f x ≡ Some y → P) → P
read_then f None y e k = absurd (none-some y e)
read_then f (Some x) y e k = k x refl e

read_as : {A B P : Type 0} (f : A → B) (o : Option A) (y : B) → option_map f o ≡ Some y → ((x : A) → o ≡ Some x → f x ≡ y → P) → P
read_as f None y e k = absurd (none-some y e)
read_as f (Some x) y e k = k x refl (same_Some (f x) y e)

-- ---- bytes without a given one

abbrev pub Lacks : ℕ → List ℕ → Type 0
Lacks c xs = All (λ b. (b == c) ≡ false) xs

digits_lack : (c : ℕ) (ds : List ℕ) → c < 48 → AllDigits 10 ds → Lacks c ds
digits_lack c [] low d = All-nil (λ b. (b == c) ≡ false)
digits_lack c (x ∷ xs) low d =
    let r = digit_from_value x d.0 in
    All-cons (λ b. (b == c) ≡ false) x xs (ne_eqb x c (λ e. omega (arith, e, r.0, low))) (digits_lack c xs low d.1)

decimal_lacks : (c n : ℕ) → c < 48 → n < 2 ^ 64 → Lacks c (decimal n)
decimal_lacks c n low small = digits_lack c (decimal n) low (decimal_is_IsNumeral n small).0.1

-- ---- four numbers joined by dots

spread : (a b c d : ℕ) → dotted_text a b c d ≡ decimal a ++ (46 ∷ (decimal b ++ (46 ∷ (decimal c ++ (46 ∷ decimal d)))))
spread a b c d = simp append_assoc

-- such a text as pieces that are written one behind the other
pub whole_pieces : (a b c d : ℕ) → decimal a ++ (codes "." ++ (decimal b ++ (codes "." ++ (decimal c ++ (codes "." ++ decimal d))))) ≡ dotted_text a b c d
whole_pieces a b c d = sym (spread a b c d)

pub part_pieces : (a b c d : ℕ) (rest : List ℕ) → decimal a ++ (codes "." ++ (decimal b ++ (codes "." ++ (decimal c ++ (codes "." ++ (decimal d ++ (codes "/" ++ rest))))))) ≡ dotted_text a b c d ++ (47 ∷ rest)
part_pieces a b c d rest =
    let spread_on : dotted_text a b c d ++ (47 ∷ rest) ≡ decimal a ++ (46 ∷ (decimal b ++ (46 ∷ (decimal c ++ (46 ∷ (decimal d ++ (47 ∷ rest))))))) = simp append_assoc in
    sym spread_on

pub whole_end : (text : List ℕ) (bits : ℕ) → bits ≡ 32 → text ≡ text ++ cond (bits == 32) [] (47 ∷ decimal bits)
whole_end text bits whole = sym (append-nil text) ∙ ap (λ t. text ++ cond t [] (47 ∷ decimal bits)) (sym (eq-eqb bits 32 whole))

pub part_end : (text : List ℕ) (bits : ℕ) → (bits ≡ 32 → ⊥) → text ++ (47 ∷ decimal bits) ≡ text ++ cond (bits == 32) [] (47 ∷ decimal bits)
part_end text bits part = ap (λ t. text ++ cond t [] (47 ∷ decimal bits)) (sym (ne_eqb bits 32 part))

pub record Fit (a b c d : ℕ) : Type 0 where
  pub a_fits : a < 256
  pub b_fits : b < 256
  pub c_fits : c < 256
  pub d_fits : d < 256

abbrev pub joined : ℕ → ℕ → ℕ → ℕ → ℕ
joined a b c d = (((0 * 256 + a) * 256 + b) * 256 + c) * 256 + d

pub parts_of_four : (a b c d : ℕ) → Fit a b c d → parts_at 46 (dotted_text a b c d) ≡ decimal a ∷ decimal b ∷ decimal c ∷ decimal d ∷ []
parts_of_four a b c d f =
    let is_dot : ℕ → Bool = λ x. x == 46 in
    let last = slice_split_none is_dot (decimal d) (decimal_lacks 46 d (omega arith) (omega (arith, f.d_fits))) in
    let third = slice_split_at is_dot (decimal c) 46 (decimal d) (decimal_lacks 46 c (omega arith) (omega (arith, f.c_fits))) refl in
    let second = slice_split_at is_dot (decimal b) 46 (decimal c ++ (46 ∷ decimal d)) (decimal_lacks 46 b (omega arith) (omega (arith, f.b_fits))) refl in
    let first = slice_split_at is_dot (decimal a) 46 (decimal b ++ (46 ∷ (decimal c ++ (46 ∷ decimal d)))) (decimal_lacks 46 a (omega arith) (omega (arith, f.a_fits))) refl in
    ap (parts_at 46) (spread a b c d)
    ∙ first ∙ ap (λ ps. decimal a ∷ ps) (second ∙ ap (λ ps. decimal b ∷ ps) (third ∙ ap (λ ps. decimal c ∷ ps) last))

said : (n : ℕ) → n < 256 → number_to 255 (decimal n) ≡ Some n
said n f = number_of_text 255 n (omega (arith, f)) (omega arith)

pub ip_of_four : (a b c d : ℕ) → Fit a b c d → ip_of (dotted_text a b c d) ≡ Some (joined a b c d)
ip_of_four a b c d f =
    ap (λ ps. cond (length ps == 4) (ip_behind 0 ps) None) (parts_of_four a b c d f)
    ∙ ap (λ o. option_and_then (λ n. ip_behind (0 * 256 + n) (decimal b ∷ decimal c ∷ decimal d ∷ [])) o) (said a f.a_fits)
    ∙ ap (λ o. option_and_then (λ n. ip_behind ((0 * 256 + a) * 256 + n) (decimal c ∷ decimal d ∷ [])) o) (said b f.b_fits)
    ∙ ap (λ o. option_and_then (λ n. ip_behind (((0 * 256 + a) * 256 + b) * 256 + n) (decimal d ∷ [])) o) (said c f.c_fits)
    ∙ ap (λ o. option_and_then (λ n. ip_behind ((((0 * 256 + a) * 256 + b) * 256 + c) * 256 + n) []) o) (said d f.d_fits)

-- the four numbers of an address that bytes say
pub record Four (w : List ℕ) (ip : ℕ) : Type 0 where
  pub a : ℕ
  pub b : ℕ
  pub c : ℕ
  pub d : ℕ
  pub fit : Fit a b c d
  pub text : w ≡ dotted_text a b c d
  pub value : joined a b c d ≡ ip

pub four_said : (w : List ℕ) (ip : ℕ) → ip_of w ≡ Some ip → Four w ip
four_said w ip e =
    let p = guarded (length (parts_at 46 w) == 4) (ip_behind 0 (parts_at 46 w)) ip e in
    by (parts_at 46 w) (join_with_byte-slice_split 46 w) (eqb-true (length (parts_at 46 w)) 4 p.0) p.1
  where
    by : (ps : List (List ℕ)) → join_with_byte 46 ps ≡ w → length ps ≡ 4 → ip_behind 0 ps ≡ Some ip → Four w ip
    by [] j four e = absurd (omega (arith, four))
    by (p ∷ []) j four e = absurd (omega (arith, four))
    by (p ∷ q ∷ []) j four e = absurd (omega (arith, four))
    by (p ∷ q ∷ r ∷ []) j four e = absurd (omega (arith, four))
    by (p ∷ q ∷ r ∷ s ∷ []) j four e =
        read_then _ (number_to 255 p) ip e λ a read_a e₁.
        read_then _ (number_to 255 q) ip e₁ λ b read_b e₂.
        read_then _ (number_to 255 r) ip e₂ λ c read_c e₃.
        read_then _ (number_to 255 s) ip e₃ λ d read_d e₄.
        let is_a = text_of_number 255 p a read_a in
        let is_b = text_of_number 255 q b read_b in
        let is_c = text_of_number 255 r c read_c in
        let is_d = text_of_number 255 s d read_d in
        record {
          a = a;
          b = b;
          c = c;
          d = d;
          fit = record { a_fits = omega (arith, is_a.1); b_fits = omega (arith, is_b.1); c_fits = omega (arith, is_c.1); d_fits = omega (arith, is_d.1) };
          text = sym j ∙ (λ i. is_a.0 i ++ (46 ∷ (is_b.0 i ++ (46 ∷ (is_c.0 i ++ (46 ∷ is_d.0 i)))))) ∙ sym (spread a b c d);
          value = same_Some (joined a b c d) ip e₄;
        }
    by (p ∷ q ∷ r ∷ s ∷ t ∷ ps) j four e = absurd (omega (arith, four))

pub no_ip : (w : List ℕ) → ((a b c d : ℕ) → Fit a b c d → w ≡ dotted_text a b c d → ⊥) → ip_of w ≡ None
no_ip w never = by (ip_of w) refl where
  by : (o : Option ℕ) → ip_of w ≡ o → ip_of w ≡ None
  by None e = e
  by (Some ip) e = let f = four_said w ip e in absurd (never f.a f.b f.c f.d f.fit f.text)

-- ---- what the library reads

bits_of_four : (a b c d : ℕ) → from_be_bytes w32 (a ∷ b ∷ c ∷ d ∷ []) ≡ joined a b c d
bits_of_four a b c d = omega arith

pub parsed_ip : {E : Type 0} (w : List ℕ) (r : Result Ipv4Addr E) → Parses IsIpv4Text w r → option_map ipv4_bits (result_ok r) ≡ ip_of w
unfolding ipv4_bits
parsed_ip w (Ok x) h =
    let fit : Fit h.a h.b h.c h.d = record { a_fits = h.fit.0; b_fits = h.fit.1; c_fits = h.fit.2; d_fits = h.fit.3 } in
    sym (ap ip_of h.spelled ∙ ip_of_four h.a h.b h.c h.d fit ∙ ap Some (sym (ap (from_be_bytes w32) h.value ∙ bits_of_four h.a h.b h.c h.d)))
parsed_ip w (Err e) h =
    sym (no_ip w (λ a b c d f text. h (record { octets = a ∷ b ∷ c ∷ d ∷ [] }) (record {
      a = a;
      b = b;
      c = c;
      d = d;
      fit = (f.a_fits, f.b_fits, f.c_fits, f.d_fits);
      value = refl;
      spelled = text;
    })))

-- ---- ranges

-- a range that some bytes say
pub record IsRange (ip bits : ℕ) : Type 0 where
  pub few : bits ≤ 32
  pub low : ip < 2 ^ 32
  pub cut : first_bits bits ip ≡ ip

first_bits_twice : (bits n : ℕ) → first_bits bits (first_bits bits n) ≡ first_bits bits n
first_bits_twice bits n =
    let m = 2 ^ (32 - bits) in
    let whole : n - n % m ≡ n / m * m = omega (arith, div-add-mod' n m) in
    let rest : (n - n % m) % m ≡ 0 = ap (λ x. x % m) whole ∙ mul-mod_left (n / m) m in
    let same : (n - n % m) - 0 ≡ n - n % m = omega arith in
    ap (λ x. (n - n % m) - x) rest ∙ same

four_is_low : (w : List ℕ) (ip : ℕ) → ip_of w ≡ Some ip → ip < 2 ^ 32
four_is_low w ip e = let f = four_said w ip e in omega (arith, f.fit.a_fits, f.fit.b_fits, f.fit.c_fits, f.fit.d_fits, f.value)

pub range_said : (w : List ℕ) (ip bits : ℕ) → range_of w ≡ Some (ip, bits) → IsRange ip bits
range_said w ip bits e = by (parts_at 47 w) e where
  at : (ps : List (List ℕ)) (n k : ℕ) → k ≤ 32 → n < 2 ^ 32 → first_bits k n ≡ ip → k ≡ bits → IsRange ip bits
  at ps n k few low is same = record {
    few = subst (λ x. x ≤ 32) same few;
    low = subst (λ x. x < 2 ^ 32) is (omega (arith, low));
    cut = subst (λ x. first_bits x ip ≡ ip) same (subst (λ x. first_bits k x ≡ x) is (first_bits_twice k n));
  }

  by : (ps : List (List ℕ)) → range_in ps ≡ Some (ip, bits) → IsRange ip bits
  by [] e = absurd (none-some _ e)
  by (i ∷ []) e =
      read_as _ (ip_of i) (ip, bits) e λ n is pair.
      let whole : first_bits 32 n ≡ n = omega arith in
      at [] n 32 (omega arith) (four_is_low i n is) (whole ∙ ap (λ p. p.0) pair) (ap (λ p. p.1) pair)
  by (i ∷ k ∷ []) e =
      read_then _ (ip_of i) (ip, bits) e λ n is e₁.
      read_as _ (number_to 32 k) (ip, bits) e₁ λ m read pair.
      at [] n m (text_of_number 32 k m read).1 (four_is_low i n is) (ap (λ p. p.0) pair) (ap (λ p. p.1) pair)
  by (i ∷ k ∷ j ∷ ps) e = absurd (none-some _ e)

pub ip_read : (ip : ℕ) → ip < 2 ^ 32 → ip_of (ip_text ip) ≡ Some ip
ip_read ip low =
    let whole : joined (ip / 16777216) (ip / 65536 % 256) (ip / 256 % 256) (ip % 256) ≡ ip = omega (arith, low) in
    ip_of_four (ip / 16777216) (ip / 65536 % 256) (ip / 256 % 256) (ip % 256)
    (record { a_fits = omega (arith, low); b_fits = omega arith; c_fits = omega arith; d_fits = omega arith })
    ∙ ap Some whole

four_lack : (a b c d : ℕ) → Fit a b c d → Lacks 47 (dotted_text a b c d)
four_lack a b c d f =
    let lacks : (n : ℕ) → n < 256 → Lacks 47 (decimal n) = λ n few. decimal_lacks 47 n (omega arith) (omega (arith, few)) in
    let dot : (xs : List ℕ) → Lacks 47 xs → Lacks 47 (46 ∷ xs) = λ xs h. All-cons (λ b. (b == 47) ≡ false) 46 xs refl h in
    let then : (xs ys : List ℕ) → Lacks 47 xs → Lacks 47 ys → Lacks 47 (xs ++ (46 ∷ ys)) = λ xs ys h k. All-append (λ b. (b == 47) ≡ false) xs (46 ∷ ys) h (dot ys k) in
    subst (Lacks 47) (sym (spread a b c d))
    (then (decimal a) _ (lacks a f.a_fits) (then (decimal b) _ (lacks b f.b_fits) (then (decimal c) (decimal d) (lacks c f.c_fits) (lacks d f.d_fits))))

pub range_read : (ip bits : ℕ) → IsRange ip bits → range_of (address_text (Range ip bits)) ≡ Some (ip, bits)
range_read ip bits r = by (bits == 32) refl where
  lacks : Lacks 47 (ip_text ip)
  lacks =
      four_lack (ip / 16777216) (ip / 65536 % 256) (ip / 256 % 256) (ip % 256)
      (record { a_fits = omega (arith, r.low); b_fits = omega arith; c_fits = omega arith; d_fits = omega arith })

  by : (b : Bool) → (bits == 32) ≡ b → range_of (ip_text ip ++ cond b [] (47 ∷ decimal bits)) ≡ Some (ip, bits)
  by true whole =
      ap range_of (append-nil (ip_text ip)) ∙ ap range_in (slice_split_none (λ x. x == 47) (ip_text ip) lacks)
      ∙ ap (λ o. option_map (λ n. (n, 32)) o) (ip_read ip r.low)
      ∙ ap (λ k. Some (ip, k)) (sym (eqb-true bits 32 whole))
  by false part =
      ap range_in (slice_split_at (λ x. x == 47) (ip_text ip) 47 (decimal bits) lacks refl ∙ ap (λ ps. ip_text ip ∷ ps) (slice_split_none (λ x. x == 47) (decimal bits) (decimal_lacks 47 bits (omega arith) (omega (arith, r.few)))))
      ∙ ap (λ o. option_and_then (λ n. option_map (λ k. (first_bits k n, k)) (number_to 32 (decimal bits))) o) (ip_read ip r.low)
      ∙ ap (λ o. option_map (λ k. (first_bits k ip, k)) o) (number_of_text 32 bits r.few (omega arith))
      ∙ ap (λ n. Some (n, bits)) r.cut

-- ---- spellings are short

four_short : (a b c d : ℕ) → Fit a b c d → length (dotted_text a b c d) ≤ 15
four_short a b c d f =
    let short : (n : ℕ) → n < 256 → length (decimal n) ≤ 3 = λ n few. length-decimal-le 3 n (omega arith) (omega (arith, few)) (omega (arith, few)) in
    let whole = ap length (spread a b c d) in
    let first = length-append (decimal a) (46 ∷ (decimal b ++ (46 ∷ (decimal c ++ (46 ∷ decimal d))))) in
    let second = length-append (decimal b) (46 ∷ (decimal c ++ (46 ∷ decimal d))) in
    let third = length-append (decimal c) (46 ∷ decimal d) in
    omega (arith, whole, first, second, third, short a f.a_fits, short b f.b_fits, short c f.c_fits, short d f.d_fits)

pub range_short : (ip bits : ℕ) → IsRange ip bits → length (address_text (Range ip bits)) ≤ 18
range_short ip bits r = by (bits == 32) where
  ip_short : length (ip_text ip) ≤ 15
  ip_short =
      four_short (ip / 16777216) (ip / 65536 % 256) (ip / 256 % 256) (ip % 256)
      (record { a_fits = omega (arith, r.low); b_fits = omega arith; c_fits = omega arith; d_fits = omega arith })

  by : (b : Bool) → length (ip_text ip ++ cond b [] (47 ∷ decimal bits)) ≤ 18
  by true = omega (arith, length-append (ip_text ip) [], ip_short)
  by false =
      omega (arith, length-append (ip_text ip) (47 ∷ decimal bits), ip_short, length-decimal-le 2 bits (omega arith) (omega (arith, r.few)) (omega (arith, r.few)))

-- ---- which bytes are a range's own spelling

-- what four numbers say is written as they are
pub ip_written : (w : List ℕ) (ip : ℕ) → ip_of w ≡ Some ip → w ≡ ip_text ip
ip_written w ip e =
    let f = four_said w ip e in
    let a : f.a ≡ ip / 16777216 = omega (arith, f.value, f.fit.a_fits, f.fit.b_fits, f.fit.c_fits, f.fit.d_fits) in
    let b : f.b ≡ ip / 65536 % 256 = omega (arith, f.value, f.fit.a_fits, f.fit.b_fits, f.fit.c_fits, f.fit.d_fits) in
    let c : f.c ≡ ip / 256 % 256 = omega (arith, f.value, f.fit.a_fits, f.fit.b_fits, f.fit.c_fits, f.fit.d_fits) in
    let d : f.d ≡ ip % 256 = omega (arith, f.value, f.fit.a_fits, f.fit.b_fits, f.fit.c_fits, f.fit.d_fits) in
    f.text ∙ (λ i. dotted_text (a i) (b i) (c i) (d i))

-- the bytes between slashes, joined again
two_joined : (w i k : List ℕ) → parts_at 47 w ≡ i ∷ k ∷ [] → w ≡ i ++ 47 ∷ k
two_joined w i k e = sym (join_with_byte-slice_split 47 w) ∙ ap (join_with_byte 47) e

one_joined : (w i : List ℕ) → parts_at 47 w ≡ i ∷ [] → w ≡ i
one_joined w i e = sym (join_with_byte-slice_split 47 w) ∙ ap (join_with_byte 47) e

pub whole_spelled : (w i : List ℕ) → parts_at 47 w ≡ i ∷ [] → is_some (ip_of i) ≡ is_range_spelling w
whole_spelled w i e = by (ip_of i) refl ∙ ap (λ ps. option_map_or (λ (r : ℕ × ℕ). bytes_eq (address_text (Range r.0 r.1)) w) (range_in ps) false) (sym e)
  where
    by : (o : Option ℕ) → ip_of i ≡ o → is_some o ≡ option_map_or (λ (r : ℕ × ℕ). bytes_eq (address_text (Range r.0 r.1)) w) (option_map (λ n. (n, 32)) o) false
    by None is = refl
    by (Some n) is = sym ((bytes_eq-Decides (ip_text n ++ []) w).1 (append-nil (ip_text n) ∙ sym (ip_written i n is) ∙ sym (one_joined w i e)))

-- no slash is among bytes that lack it
lacks_none : (xs ys : List ℕ) → Lacks 47 (xs ++ 47 ∷ ys) → ⊥
lacks_none [] ys h = false≢true (sym (All-head (λ b. (b == 47) ≡ false) 47 ys h))
lacks_none (x ∷ xs) ys h = lacks_none xs ys (All-tail (λ b. (b == 47) ≡ false) x (xs ++ 47 ∷ ys) h)

-- an address with bits, as it is written, is its own spelling where 32 bits are not said and the other bits are 0
own_part : (n k : ℕ) → n < 2 ^ 32 → k ≤ 32 → (not (k == 32) && (first_bits k n == n)) ≡ bytes_eq (address_text (Range (first_bits k n) k)) (ip_text n ++ 47 ∷ decimal k)
own_part n k low few = by (k == 32) refl
  where
    m : ℕ
    m = first_bits k n

    -- the same text says the same address
    same_ip : ip_text m ++ 47 ∷ decimal k ≡ ip_text n ++ 47 ∷ decimal k → m ≡ n
    same_ip e = same_Some m n (sym (ip_read m (omega (arith, low))) ∙ ap ip_of (append_cancel_right (ip_text m) (ip_text n) (47 ∷ decimal k) e) ∙ ip_read n low)

    cut : (b : Bool) → (m == n) ≡ b → b ≡ bytes_eq (ip_text m ++ 47 ∷ decimal k) (ip_text n ++ 47 ∷ decimal k)
    cut true is = sym ((bytes_eq-Decides _ _).1 (ap (λ x. ip_text x ++ 47 ∷ decimal k) (eqb-true m n is)))
    cut false is = sym (false_from_ne_true _ (λ t. eqb-false m n is (same_ip ((bytes_eq-Decides _ _).0 t))))

    by : (b : Bool) → (k == 32) ≡ b → (not b && (m == n)) ≡ bytes_eq (ip_text m ++ cond b [] (47 ∷ decimal k)) (ip_text n ++ 47 ∷ decimal k)
    by true is = sym (false_from_ne_true _ (λ t. no_slash ((bytes_eq-Decides _ _).0 t)))
      where
        lacks : Lacks 47 (ip_text m)
        lacks =
            four_lack (m / 16777216) (m / 65536 % 256) (m / 256 % 256) (m % 256)
            (record { a_fits = omega (arith, low); b_fits = omega arith; c_fits = omega arith; d_fits = omega arith })

        no_slash : ip_text m ++ [] ≡ ip_text n ++ 47 ∷ decimal k → ⊥
        no_slash e = lacks_none (ip_text n) (decimal k) (subst (Lacks 47) (sym (append-nil (ip_text m)) ∙ e) lacks)
    by false is = cut (m == n) refl

pub part_spelled : (w i k : List ℕ) → parts_at 47 w ≡ i ∷ k ∷ []
    → option_map_or (λ n. option_map_or (λ b. not (b == 32) && (first_bits b n == n)) (number_to 32 k) false) (ip_of i) false ≡ is_range_spelling w
part_spelled w i k e =
    by (ip_of i) (number_to 32 k) refl refl ∙ ap (λ ps. option_map_or (λ (r : ℕ × ℕ). bytes_eq (address_text (Range r.0 r.1)) w) (range_in ps) false) (sym e)
  where
    by : (o p : Option ℕ) → ip_of i ≡ o → number_to 32 k ≡ p → option_map_or (λ n. option_map_or (λ b. not (b == 32) && (first_bits b n == n)) p false) o false
        ≡ option_map_or (λ (r : ℕ × ℕ). bytes_eq (address_text (Range r.0 r.1)) w) (option_and_then (λ n. option_map (λ b. (first_bits b n, b)) p) o) false
    by None p is at = refl
    by (Some n) None is at = refl
    by (Some n) (Some b) is at =
        let said = text_of_number 32 k b at in
        own_part n b (four_is_low i n is) said.1
        ∙ ap (bytes_eq (address_text (Range (first_bits b n) b))) (sym (λ j. ip_written i n is j ++ 47 ∷ said.0 j) ∙ sym (two_joined w i k e))

pub more_spelled : (w i k j : List ℕ) (ps : List (List ℕ)) → parts_at 47 w ≡ i ∷ k ∷ j ∷ ps → false ≡ is_range_spelling w
more_spelled w i k j ps e = ap (λ ps. option_map_or (λ (r : ℕ × ℕ). bytes_eq (address_text (Range r.0 r.1)) w) (range_in ps) false) (sym e)
