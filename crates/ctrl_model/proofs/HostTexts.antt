-- Texts of hosts: what is read as one is one in small letters, and no host is a range.
use Rattle.std.proofs.Common.{◌≡◌, ℕ, ◌+◌, ◌<◌, ◌≤◌, ◌==◌, ◌⊎◌, inl, inr, not, ◌&&◌, ◌||◌, Bool, true, false, true≢false, nat_le, cond, List, [], ◌∷◌, map, decimal, None, Some, option_map, refl, sym, ap, ap₂, ◌∙◌, subst, arith, ne_eqb, leb-true, le-leb}
use Rattle.std.proofs.lemmas.Bool.{and_from, and_parts, and_right, lt-leb, cond-true}
use Rattle.std.proofs.lemmas.Fmt.{decimal_is_IsNumeral}
use Rattle.std.proofs.lemmas.List.{length-map}
use Rattle.std.proofs.lemmas.List.Elements.{All-nil, All-cons, All-append, All-head}
use Rattle.std.proofs.lemmas.List.Splits.{slice_split_none, join_with_byte-slice_split}
use Rattle.std.proofs.lemmas.Option.{none-some, cond_some}
use Rattle.std.proofs.lemmas.Str.Parse.{digit_from_value}
use Rattle.std.specs.Char.{is_ascii_digit}
use Rattle.std.specs.List.{list_all, list_any, onto_first, join_with_byte}
use Rattle.std.specs.Str.Parse.{AllDigits}
use Rattle.ctrl_model.specs.AddressForm.{lowered, is_label_byte, is_label, parts_at, last_part, is_host, host_of, ip_of, range_in, range_of, under_of}
use Rattle.ctrl_model.proofs.RangeTexts.{Lacks, guarded, no_ip, parts_of_four}

-- ---- the bytes of a host

bytes_of_label : (p : List ℕ) → is_label p ≡ true → list_all is_label_byte p ≡ true
bytes_of_label p e = (and_parts _ _ (and_parts _ _ e).1).1

label_lacks : (c : ℕ) → is_label_byte c ≡ false → (p : List ℕ) → list_all is_label_byte p ≡ true → Lacks c p
label_lacks c never [] all = All-nil (λ x. (x == c) ≡ false)
label_lacks c never (b ∷ bs) all =
    let q = and_parts (is_label_byte b) (list_all is_label_byte bs) all in
    All-cons (λ x. (x == c) ≡ false) b bs (ne_eqb b c (λ e. true≢false (sym q.0 ∙ ap is_label_byte e ∙ never))) (label_lacks c never bs q.1)

joined_lacks : (c : ℕ) → (46 == c) ≡ false → is_label_byte c ≡ false → (ps : List (List ℕ)) → list_all is_label ps ≡ true → Lacks c (join_with_byte 46 ps)
joined_lacks c dot never [] all = All-nil (λ x. (x == c) ≡ false)
joined_lacks c dot never (p ∷ []) all = label_lacks c never p (bytes_of_label p (and_parts (is_label p) true all).0)
joined_lacks c dot never (p ∷ q ∷ ps) all =
    let both = and_parts (is_label p) (list_all is_label (q ∷ ps)) all in
    let lacks = λ (x : ℕ). (x == c) ≡ false in
    All-append lacks p (46 ∷ join_with_byte 46 (q ∷ ps)) (label_lacks c never p (bytes_of_label p both.0))
    (All-cons lacks 46 (join_with_byte 46 (q ∷ ps)) dot (joined_lacks c dot never (q ∷ ps) both.1))

host_labels : (w : List ℕ) → is_host w ≡ true → list_all is_label (parts_at 46 w) ≡ true
host_labels w h = (and_parts _ _ (and_parts _ _ h).1).0

host_last : (w : List ℕ) → is_host w ≡ true → list_any (λ b. not (is_ascii_digit b)) (last_part (parts_at 46 w)) ≡ true
host_last w h = (and_parts _ _ (and_parts _ _ h).1).1

-- a host has no byte that no label has, dots apart
pub host_lacks : (c : ℕ) → (46 == c) ≡ false → is_label_byte c ≡ false → (w : List ℕ) → is_host w ≡ true → Lacks c w
host_lacks c dot never w h = subst (Lacks c) (join_with_byte-slice_split 46 w) (joined_lacks c dot never (parts_at 46 w) (host_labels w h))

-- ---- no host is a range, and what is under one is none

digits_alone : (ds : List ℕ) → AllDigits 10 ds → list_any (λ b. not (is_ascii_digit b)) ds ≡ false
digits_alone [] d = refl
digits_alone (b ∷ bs) d =
    let r = digit_from_value b d.0 in
    ap (λ t. not t || list_any (λ x. not (is_ascii_digit x)) bs) (and_from (nat_le 48 b) (nat_le b 57) (le-leb 48 b r.0) (le-leb b 57 r.1)) ∙ digits_alone bs d.1

decimal_digits : (n : ℕ) → n < 256 → AllDigits 10 (decimal n)
decimal_digits n few = (decimal_is_IsNumeral n (omega (arith, few))).0.1

host_is_no_ip : (w : List ℕ) → is_host w ≡ true → ip_of w ≡ None
host_is_no_ip w h =
    no_ip w (λ a b c d f text.
    let parts : parts_at 46 w ≡ decimal a ∷ decimal b ∷ decimal c ∷ decimal d ∷ [] = ap (parts_at 46) text ∙ parts_of_four a b c d f in
    let any = λ (ps : List (List ℕ)). list_any (λ b. not (is_ascii_digit b)) (last_part ps) in
    true≢false (sym (host_last w h) ∙ ap any parts ∙ digits_alone (decimal d) (decimal_digits d f.d_fits)))

pub host_is_no_range : (w : List ℕ) → is_host w ≡ true → range_of w ≡ None
host_is_no_range w h =
    ap range_in (slice_split_none (λ b. b == 47) w (host_lacks 47 refl refl w h)) ∙ ap (λ o. option_map (λ n. (n, 32)) o) (host_is_no_ip w h)

abbrev first_part : List (List ℕ) → List ℕ
first_part [] = []
first_part (p ∷ ps) = p

star_is_no_digits : AllDigits 10 (42 ∷ []) → ⊥
star_is_no_digits d = omega (arith, (digit_from_value 42 d.0).0)

under_is_no_ip : (h : List ℕ) → ip_of (42 ∷ 46 ∷ h) ≡ None
under_is_no_ip h =
    no_ip (42 ∷ 46 ∷ h) (λ a b c d f text.
    let first : 42 ∷ [] ≡ decimal a = ap (λ w. first_part (parts_at 46 w)) text ∙ ap first_part (parts_of_four a b c d f) in
    star_is_no_digits (subst (AllDigits 10) (sym first) (decimal_digits a f.a_fits)))

pub under_is_no_range : (h : List ℕ) → is_host h ≡ true → range_of (42 ∷ 46 ∷ h) ≡ None
under_is_no_range h is =
    let lacks = λ (x : ℕ). (x == 47) ≡ false in
    let all = All-cons lacks 42 (46 ∷ h) refl (All-cons lacks 46 h refl (host_lacks 47 refl refl h is)) in
    ap range_in (slice_split_none (λ b. b == 47) (42 ∷ 46 ∷ h) all) ∙ ap (λ o. option_map (λ n. (n, 32)) o) (under_is_no_ip h)

-- no host begins with `*`
pub host_is_not_under : (w : List ℕ) → is_host w ≡ true → under_of w ≡ None
host_is_not_under [] h = refl
host_is_not_under (a ∷ []) h = refl
host_is_not_under (star ∷ dot ∷ host) h =
    ap (λ t. cond (t && (dot == 46)) (host_of host) None) (All-head (λ x. (x == 42) ≡ false) star (dot ∷ host) (host_lacks 42 refl refl (star ∷ dot ∷ host) h))

-- ---- small letters

lowered_as : (b : ℕ) → ((65 ≤ b) × (b ≤ 90) × (lowered b ≡ b + 32)) ⊎ (lowered b ≡ b)
lowered_as b = by (nat_le 65 b && nat_le b 90) refl where
  by : (t : Bool) → (nat_le 65 b && nat_le b 90) ≡ t → ((65 ≤ b) × (b ≤ 90) × (cond (nat_le 65 b && nat_le b 90) (b + 32) b ≡ b + 32)) ⊎ (cond (nat_le 65 b && nat_le b 90) (b + 32) b ≡ b)
  by true e =
      let q = and_parts (nat_le 65 b) (nat_le b 90) e in
      inl (leb-true 65 b q.0, leb-true b 90 q.1, ap (λ t. cond t (b + 32) b) e)
  by false e = inr (ap (λ t. cond t (b + 32) b) e)

lowered_twice : (b : ℕ) → lowered (lowered b) ≡ lowered b
lowered_twice b = by (lowered_as b) where
  by : ((65 ≤ b) × (b ≤ 90) × (lowered b ≡ b + 32)) ⊎ (lowered b ≡ b) → lowered (lowered b) ≡ lowered b
  by (inl c) =
      ap lowered c.2 ∙ ap (λ t. cond t (b + 32 + 32) (b + 32)) (and_right (nat_le 65 (b + 32)) (nat_le (b + 32) 90) (lt-leb (b + 32) 90 (omega (arith, c.0)))) ∙ sym c.2
  by (inr s) = ap lowered s

lowered_dot : (b : ℕ) → (lowered b == 46) ≡ (b == 46)
lowered_dot b = by (lowered_as b) where
  by : ((65 ≤ b) × (b ≤ 90) × (lowered b ≡ b + 32)) ⊎ (lowered b ≡ b) → (lowered b == 46) ≡ (b == 46)
  by (inl c) = ne_eqb (lowered b) 46 (λ e. omega (arith, c.2, e, c.0)) ∙ sym (ne_eqb b 46 (λ e. omega (arith, e, c.0)))
  by (inr s) = ap (λ x. x == 46) s

lowered_digit : (b : ℕ) → is_ascii_digit (lowered b) ≡ is_ascii_digit b
lowered_digit b = by (lowered_as b) where
  by : ((65 ≤ b) × (b ≤ 90) × (lowered b ≡ b + 32)) ⊎ (lowered b ≡ b) → is_ascii_digit (lowered b) ≡ is_ascii_digit b
  by (inl c) =
      and_right (nat_le 48 (lowered b)) (nat_le (lowered b) 57) (lt-leb (lowered b) 57 (omega (arith, c.2, c.0)))
      ∙ sym (and_right (nat_le 48 b) (nat_le b 57) (lt-leb b 57 (omega (arith, c.0))))
  by (inr s) = ap is_ascii_digit s

small_is_byte : (b : ℕ) → 97 ≤ b → b ≤ 122 → is_label_byte b ≡ true
small_is_byte b low high =
    let capital : (nat_le 65 b && nat_le b 90) ≡ false = and_right (nat_le 65 b) (nat_le b 90) (lt-leb b 90 (omega (arith, low))) in
    let small : (nat_le 97 b && nat_le b 122) ≡ true = and_from (nat_le 97 b) (nat_le b 122) (le-leb 97 b low) (le-leb b 122 high) in
    ap₂ (λ s t. s || t || is_ascii_digit b || (b == 45) || (b == 95)) capital small

lowered_byte : (b : ℕ) → is_label_byte b ≡ true → is_label_byte (lowered b) ≡ true
lowered_byte b e = by (lowered_as b) where
  by : ((65 ≤ b) × (b ≤ 90) × (lowered b ≡ b + 32)) ⊎ (lowered b ≡ b) → is_label_byte (lowered b) ≡ true
  by (inl c) = ap is_label_byte c.2 ∙ small_is_byte (b + 32) (omega (arith, c.0)) (omega (arith, c.1))
  by (inr s) = ap is_label_byte s ∙ e

bytes_lowered : (p : List ℕ) → list_all is_label_byte p ≡ true → list_all is_label_byte (map lowered p) ≡ true
bytes_lowered [] all = refl
bytes_lowered (b ∷ bs) all = let q = and_parts (is_label_byte b) (list_all is_label_byte bs) all in and_from _ _ (lowered_byte b q.0) (bytes_lowered bs q.1)

label_lowered : (p : List ℕ) → is_label p ≡ true → is_label (map lowered p) ≡ true
label_lowered p e =
    let q = and_parts _ _ e in
    let r = and_parts _ _ q.1 in
    and_from _ _ (ap (λ n. nat_le 1 n) (length-map p lowered) ∙ q.0) (and_from _ _ (ap (λ n. nat_le n 63) (length-map p lowered) ∙ r.0) (bytes_lowered p r.1))

labels_lowered : (ps : List (List ℕ)) → list_all is_label ps ≡ true → list_all is_label (map (map lowered) ps) ≡ true
labels_lowered [] all = refl
labels_lowered (p ∷ ps) all = let q = and_parts (is_label p) (list_all is_label ps) all in and_from _ _ (label_lowered p q.0) (labels_lowered ps q.1)

last_lowered : (ps : List (List ℕ)) → last_part (map (map lowered) ps) ≡ map lowered (last_part ps)
last_lowered [] = refl
last_lowered (p ∷ []) = refl
last_lowered (p ∷ q ∷ ps) = last_lowered (q ∷ ps)

any_lowered : (p : List ℕ) → list_any (λ b. not (is_ascii_digit b)) (map lowered p) ≡ list_any (λ b. not (is_ascii_digit b)) p
any_lowered [] = refl
any_lowered (b ∷ bs) = ap₂ (λ s t. not s || t) (lowered_digit b) (any_lowered bs)

cut_lowered : (b : ℕ) (t : Bool) (ps qs : List (List ℕ)) → ps ≡ map (map lowered) qs → cond t ([] ∷ ps) (onto_first (lowered b) ps) ≡ map (map lowered) (cond t ([] ∷ qs) (onto_first b qs))
cut_lowered b true ps qs e = ap (λ x. [] ∷ x) e
cut_lowered b false ps [] e = ap (onto_first (lowered b)) e
cut_lowered b false ps (q ∷ qs) e = ap (onto_first (lowered b)) e

parts_lowered : (w : List ℕ) → parts_at 46 (map lowered w) ≡ map (map lowered) (parts_at 46 w)
parts_lowered [] = refl
parts_lowered (b ∷ bs) =
    let ps = parts_at 46 (map lowered bs) in
    ap (λ t. cond t ([] ∷ ps) (onto_first (lowered b) ps)) (lowered_dot b) ∙ cut_lowered b (b == 46) ps (parts_at 46 bs) (parts_lowered bs)

host_lowered : (w : List ℕ) → is_host w ≡ true → is_host (map lowered w) ≡ true
host_lowered w h =
    let any = λ (p : List ℕ). list_any (λ b. not (is_ascii_digit b)) p in
    and_from _ _ (ap (λ n. nat_le n 253) (length-map w lowered) ∙ (and_parts _ _ h).0)
    (and_from _ _ (ap (list_all is_label) (parts_lowered w) ∙ labels_lowered (parts_at 46 w) (host_labels w h))
    (ap (λ ps. any (last_part ps)) (parts_lowered w) ∙ ap any (last_lowered (parts_at 46 w)) ∙ any_lowered (last_part (parts_at 46 w)) ∙ host_last w h))

all_lowered_twice : (w : List ℕ) → map lowered (map lowered w) ≡ map lowered w
all_lowered_twice [] = refl
all_lowered_twice (b ∷ bs) = ap₂ (λ x xs. x ∷ xs) (lowered_twice b) (all_lowered_twice bs)

-- ---- what is read as a host is one, in small letters, and reads as itself

pub host_said : (w text : List ℕ) → host_of w ≡ Some text → (is_host text ≡ true) × (map lowered text ≡ text)
host_said w text e =
    let p = cond_some (is_host w) (map lowered w) text e in
    (subst (λ t. is_host t ≡ true) p.1 (host_lowered w p.0), subst (λ t. map lowered t ≡ t) p.1 (all_lowered_twice w))

pub host_read : (text : List ℕ) → is_host text ≡ true → map lowered text ≡ text → host_of text ≡ Some text
host_read text is small = cond-true _ _ _ is ∙ ap Some small

pub under_said : (w text : List ℕ) → under_of w ≡ Some text → (is_host text ≡ true) × (map lowered text ≡ text)
under_said [] text e = absurd (none-some text e)
under_said (a ∷ []) text e = absurd (none-some text e)
under_said (star ∷ dot ∷ host) text e = host_said host text (guarded ((star == 42) && (dot == 46)) (host_of host) text e).1
