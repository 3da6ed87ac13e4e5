-- What a line says of an intercept is what the body has that sets it: names and addresses have no byte that is escaped.
use Rattle.std.proofs.Common.{◌≡◌, ℕ, ◌<◌, ◌≤◌, ◌==◌, ◌/◌, ◌%◌, ◌^◌, Bool, true, false, true≢false, cond, ◌&&◌, ◌||◌, nat_le, nat_lt, List, [], ◌∷◌, ◌++◌, length, get_or, map, codes, decimal, refl, sym, ap, ap₂, ◌∙◌, subst, arith, eqb-true, eq-eqb, ne_eqb, append_assoc}
use Rattle.std.specs.List.{All, list_all}
use Rattle.std.specs.Net.Text.{dotted_text}
use Rattle.std.specs.Str.Parse.{AllDigits}
use Rattle.std.proofs.lemmas.Bool.{and_parts}
use Rattle.std.proofs.lemmas.Bool.Decides.{nat_tests}
use Rattle.std.proofs.lemmas.Fmt.{decimal_is_IsNumeral}
use Rattle.std.proofs.lemmas.List.Elements.{All-nil, All-cons, All-head, All-tail, All-append, All-get_or, All-from_get_or}
use Rattle.std.proofs.lemmas.Str.Parse.{digit_from_value}
use Rattle.std.specs.Char.{digit_char}
use Rattle.std.proofs.lemmas.Simd.{map-map}
use Rattle.json.specs.Print.{escape, escape_byte, escape_letter, quoted}
use Rattle.serde_json.specs.Data.{Data, string, array}
use Rattle.serde_json.specs.View.{items_of}
use Rattle.serde_json.specs.Written.{compact_text, items_text}
use Rattle.serde_json.proofs.OnLiterals.{serde_json_on_literals}
use Rattle.ctrl_model.specs.declared.addresses.Address.{Address}
use Rattle.ctrl_model.specs.declared.addresses.Address.TheVariants.{Host, Under, Range}
use Rattle.ctrl_model.specs.declared.commands.Command.TheVariants as command
use Rattle.ctrl_model.specs.declared.intercepts.Intercept.{Intercept}
use Rattle.ctrl_model.specs.declared.intercepts.PortRange.{PortRange}
use Rattle.ctrl_model.specs.AddressForm.{address_text, ip_text, is_address, is_host, is_label_byte, same_address}
use Rattle.ctrl_model.specs.InterceptForm.{is_claim, is_intercept, is_port_range, same_ports}
use Rattle.ctrl_model.specs.NameForm.{is_name, is_name_byte}
use Rattle.ctrl_model.proofs.AddressLaws.{IsMade, made, own_spelling}
use Rattle.ctrl_model.proofs.HostTexts.{host_lacks}
use Rattle.ctrl_model.proofs.RangeTexts.{whole_pieces}
use Rattle.command_bodies.specs.BodyTexts.{body_text}
use Rattle.command_bodies.specs.WrittenFields.{list_of, natural, two_ports}
use Rattle.command_bodies.specs.WrittenWords.{protocol_words}
use Rattle.command_bodies.proofs.WrittenIntercepts.{claimed_forms}
use Rattle.record_lines.specs.RecordWords.{addresses_word, behind_commas, list_word, ports_word, protocols_word, quoted_word, range_word}

-- ---- bytes that are not escaped

abbrev Plain : ℕ → Type 0
Plain b = escape_byte b ≡ b ∷ []

plain_from : (b : ℕ) → 35 ≤ b → (b == 92) ≡ false → Plain b
unfolding escape_byte
plain_from b least other =
    let not_quote : (b == 34) ≡ false = ne_eqb b 34 (λ e. omega (arith, e, least)) in
    let not_back : (b == 8) ≡ false = ne_eqb b 8 (λ e. omega (arith, e, least)) in
    let not_feed : (b == 12) ≡ false = ne_eqb b 12 (λ e. omega (arith, e, least)) in
    let not_line : (b == 10) ≡ false = ne_eqb b 10 (λ e. omega (arith, e, least)) in
    let not_return : (b == 13) ≡ false = ne_eqb b 13 (λ e. omega (arith, e, least)) in
    let not_tab : (b == 9) ≡ false = ne_eqb b 9 (λ e. omega (arith, e, least)) in
    let not_low : nat_lt b 32 ≡ false = grind (arith, nat_tests, least) in
    let no_letter : escape_letter b ≡ 0 =
    λ i. cond (not_quote i || other i) b (cond (not_back i) 98 (cond (not_feed i) 102 (cond (not_line i) 110 (cond (not_return i) 114 (cond (not_tab i) 116 0))))) in
    λ i. cond (nat_lt 0 (no_letter i)) (92 ∷ no_letter i ∷ []) (cond (not_low i) (92 ∷ 117 ∷ 48 ∷ 48 ∷ digit_char (b / 16) ∷ digit_char (b % 16) ∷ []) (b ∷ []))

escaped_as : (s : List ℕ) → All Plain s → escape s ≡ s
escaped_as [] all = refl
escaped_as (b ∷ bs) all = ap₂ (λ (x y : List ℕ). x ++ y) (All-head Plain b bs all) (escaped_as bs (All-tail Plain b bs all))

quoted_as : (s : List ℕ) → All Plain s → quoted s ≡ quoted_word s
quoted_as s all = ap (λ t. 34 ∷ (t ++ 34 ∷ [])) (escaped_as s all)

-- ---- names and hosts

name_byte : (b : ℕ) → is_name_byte b ≡ true → Plain b
name_byte b h = plain_from b (grind (arith, nat_tests)) (grind (arith, nat_tests))

name_bytes : (bytes : List ℕ) → list_all is_name_byte bytes ≡ true → All Plain bytes
name_bytes [] h = All-nil Plain
name_bytes (b ∷ bytes) h =
    let p = and_parts (is_name_byte b) (list_all is_name_byte bytes) h in
    All-cons Plain b bytes (name_byte b p.0) (name_bytes bytes p.1)

plain_name : (name : List ℕ) → is_name name ≡ true → All Plain name
plain_name name h = name_bytes name (and_parts (nat_le 1 (length name) && nat_le (length name) 64) (list_all is_name_byte name) h).1

label_byte : (b : ℕ) → is_label_byte b ≡ true → Plain b
label_byte b h = plain_from b (grind (arith, nat_tests)) (grind (arith, nat_tests))

dot_plain : Plain 46
dot_plain = plain_from 46 (omega arith) refl

host_bytes : (t : List ℕ) → is_host t ≡ true → All Plain t
host_bytes t h = All-from_get_or Plain t 0 (λ i within. label i within (is_label_byte (get_or t i 0)) refl)
  where
    dot : (i : ℕ) → i < length t → is_label_byte (get_or t i 0) ≡ false → (is : Bool) → (46 == get_or t i 0) ≡ is → Plain (get_or t i 0)
    dot i within never true e = subst Plain (eqb-true 46 (get_or t i 0) e) dot_plain
    dot i within never false e =
        let c = get_or t i 0 in
        absurd (true≢false (sym (eq-eqb c c refl) ∙ All-get_or (λ b. (b == c) ≡ false) t i 0 within (host_lacks c e never t h)))

    label : (i : ℕ) → i < length t → (is : Bool) → is_label_byte (get_or t i 0) ≡ is → Plain (get_or t i 0)
    label i within true e = label_byte (get_or t i 0) e
    label i within false e = dot i within e (46 == get_or t i 0) refl

-- ---- ranges

digits_plain : (ds : List ℕ) → AllDigits 10 ds → All Plain ds
digits_plain [] d = All-nil Plain
digits_plain (c ∷ cs) d =
    let r = digit_from_value c d.0 in
    All-cons Plain c cs (plain_from c (omega (arith, r.0)) (grind (arith, nat_tests, r.0, r.1))) (digits_plain cs d.1)

decimal_plain : (n : ℕ) → n < 2 ^ 64 → All Plain (decimal n)
decimal_plain n few = digits_plain (decimal n) (decimal_is_IsNumeral n few).0.1

dotted_plain : (a b c d : ℕ) → a < 256 → b < 256 → c < 256 → d < 256 → All Plain (dotted_text a b c d)
dotted_plain a b c d a_fits b_fits c_fits d_fits =
    subst (All Plain) (whole_pieces a b c d) (piece a _ a_fits (piece b _ b_fits (piece c (decimal d) c_fits (decimal_plain d (omega (arith, d_fits))))))
  where
    piece : (n : ℕ) (rest : List ℕ) → n < 256 → All Plain rest → All Plain (decimal n ++ (codes "." ++ rest))
    piece n rest fits plain = All-append Plain (decimal n) (codes "." ++ rest) (decimal_plain n (omega (arith, fits))) (All-cons Plain 46 rest dot_plain plain)

made_plain : (a : Address) → IsMade a → All Plain (address_text a)
made_plain (Host t) m = host_bytes t m.0
made_plain (Under t) m =
    All-cons Plain 42 (46 ∷ t) (plain_from 42 (omega arith) refl) (All-cons Plain 46 t dot_plain (host_bytes t m.0))
made_plain (Range ip bits) m =
    All-append Plain (ip_text ip) (cond (bits == 32) [] (47 ∷ decimal bits))
    (dotted_plain (ip / 16777216) (ip / 65536 % 256) (ip / 256 % 256) (ip % 256) (omega (arith, m.low)) (omega arith) (omega arith) (omega arith)) (by (bits == 32))
  where
    by : (whole : Bool) → All Plain (cond whole [] (47 ∷ decimal bits))
    by true = All-nil Plain
    by false = All-cons Plain 47 (decimal bits) (plain_from 47 (omega arith) refl) (decimal_plain bits (omega (arith, m.few)))

plain_address : (a : Address) → is_address a ≡ true → All Plain (address_text a)
plain_address a h = made_plain a (made (address_text a) a (own_spelling a h))

-- ---- lists

items_written : {A : Type 0} (g : A → Data) (word : A → List ℕ) (form : A → Bool) → ((x : A) → form x ≡ true → compact_text (g x) ≡ word x)
    → (xs : List A) → list_all form xs ≡ true → items_text true (items_of (map g xs)) ≡ behind_commas word xs ++ codes "]"
items_written g word form each [] h = refl
items_written g word form each (x ∷ xs) h =
    let p = and_parts (form x) (list_all form xs) h in
    ap₂ (λ (l m : List ℕ). 44 ∷ (l ++ m)) (each x p.0) (items_written g word form each xs p.1)
    ∙ ap (λ (l : List ℕ). 44 ∷ l) (sym (append_assoc (word x) (behind_commas word xs) (codes "]")))

list_written : {A : Type 0} (g : A → Data) (word : A → List ℕ) (form : A → Bool) → ((x : A) → form x ≡ true → compact_text (g x) ≡ word x)
    → (xs : List A) → list_all form xs ≡ true → compact_text (list_of g xs) ≡ list_word word xs
list_written g word form each [] h = refl
list_written g word form each (x ∷ xs) h =
    let p = and_parts (form x) (list_all form xs) h in
    ap₂ (λ (l m : List ℕ). 91 ∷ (l ++ m)) (each x p.0) (items_written g word form each xs p.1)
    ∙ ap (λ (l : List ℕ). 91 ∷ l) (sym (append_assoc (word x) (behind_commas word xs) (codes "]")))

-- ---- the fields

protocols_written : (tcp udp : Bool) → compact_text (list_of (λ t. string t) (protocol_words tcp udp)) ≡ list_word quoted_word (protocol_words tcp udp)
unfolding escape_byte
protocols_written true true = refl
protocols_written true false = refl
protocols_written false true = refl
protocols_written false false = refl

addresses_written : (xs : List Address) → list_all is_address xs ≡ true
    → compact_text (list_of (λ t. string t) (map address_text xs)) ≡ list_word (λ a. quoted_word (address_text a)) xs
addresses_written xs h =
    ap (λ ds. compact_text (array (items_of ds))) (map-map (λ t. string t) address_text xs)
    ∙ list_written (λ a. string (address_text a)) (λ a. quoted_word (address_text a)) is_address (λ a e. quoted_as (address_text a) (plain_address a e)) xs h

range_written : (r : PortRange) → compact_text (two_ports r) ≡ range_word r
range_written r = list_written natural decimal (λ n. true) (λ n h. refl) (r.low ∷ r.high ∷ []) refl

ranges_written : (rs : List PortRange) → list_all is_port_range rs ≡ true → compact_text (list_of two_ports rs) ≡ list_word range_word rs
ranges_written rs h = list_written two_ports range_word is_port_range (λ r e. range_written r) rs h

-- four fields in their places
abbrev body_with : List ℕ → List ℕ → List ℕ → List ℕ → List ℕ
body_with addresses ports protocols service =
    codes "{\"addresses\":" ++ (addresses ++ (codes ",\"ports\":" ++ (ports ++ (codes ",\"protocols\":" ++ (protocols ++ (codes ",\"service\":" ++ (service ++ codes "}")))))))

body_fields : (name : List ℕ) (i : Intercept) → body_text (command.SetIntercept name i)
    ≡ body_with (compact_text (list_of (λ t. string t) (map address_text i.addresses))) (compact_text (list_of two_ports i.ports))
    (compact_text (list_of (λ t. string t) (protocol_words i.tcp i.udp))) (quoted name)
unfolding serde_json_on_literals escape_byte
body_fields name i = refl

pub body_of_fields : (name : List ℕ) (i : Intercept) → is_name name ≡ true → is_intercept i ≡ true
    → body_text (command.SetIntercept name i) ≡ body_with (addresses_word i) (ports_word i) (protocols_word i) (quoted_word name)
body_of_fields name i named h =
    let p = and_parts (i.tcp || i.udp) (is_claim is_address same_address i.addresses && is_claim is_port_range same_ports i.ports) h in
    let q = and_parts (is_claim is_address same_address i.addresses) (is_claim is_port_range same_ports i.ports) p.1 in
    let addresses = addresses_written i.addresses (claimed_forms is_address same_address i.addresses q.0) in
    let ports = ranges_written i.ports (claimed_forms is_port_range same_ports i.ports q.1) in
    body_fields name i
    ∙ (λ j. body_with (addresses j) (ports j) (protocols_written i.tcp i.udp j) (quoted_as name (plain_name name named) j))
