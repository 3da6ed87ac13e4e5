-- What the spellings of addresses are: text, and few bytes.
use Rattle.std.proofs.Common.{◌≡◌, ℕ, zero, suc, ◌<◌, ◌≤◌, ◌==◌, ◌/◌, ◌%◌, ◌^◌, Bool, true, false, true≢false, cond, List, [], ◌∷◌, ◌++◌, length, get_or, codes, decimal, All, refl, sym, subst, ◌∙◌, arith, lit<, eq-eqb, eqb-true}
use Rattle.std.proofs.lemmas.Bool.Decides.{nat_tests}
use Rattle.std.proofs.lemmas.Fmt.{IsAscii-decimal}
use Rattle.std.proofs.lemmas.List.Elements.{All-cons, All-get_or, All-from_get_or}
use Rattle.std.proofs.lemmas.Str.{IsAscii-append, IsUtf8-from_ascii}
use Rattle.std.proofs.lemmas.Str.Ascii.{IsAscii-from_all, IsAscii-nil}
use Rattle.std.specs.Net.Text.{dotted_text}
use Rattle.std.specs.Str.{IsAscii, IsUtf8}
use Rattle.ctrl_model.specs.declared.addresses.Address.{Address}
use Rattle.ctrl_model.specs.declared.addresses.Address.TheVariants.{Host, Under, Range}
use Rattle.ctrl_model.specs.AddressForm.{is_label_byte, is_host, is_spelling, ip_text, address_text}
use Rattle.ctrl_model.proofs.AddressLaws.{IsMade, made, address_given, spelled_as, text_short}
use Rattle.ctrl_model.proofs.HostTexts.{host_lacks}
use Rattle.ctrl_model.proofs.RangeTexts.{whole_pieces}

label_byte_is_ascii : (b : ℕ) → is_label_byte b ≡ true → b < 128
label_byte_is_ascii b h = grind (arith, nat_tests)

-- a byte of a host is one of a label, or a dot
host_bytes : (t : List ℕ) → is_host t ≡ true → All (λ b. b < 128) t
host_bytes t h = All-from_get_or (λ b. b < 128) t 0 (λ i within. label i within (is_label_byte (get_or t i 0)) refl)
  where
    dot : (i : ℕ) → i < length t → is_label_byte (get_or t i 0) ≡ false → (is : Bool) → (46 == get_or t i 0) ≡ is → get_or t i 0 < 128
    dot i within never true e = subst (λ b. b < 128) (eqb-true 46 (get_or t i 0) e) (lit< tt)
    dot i within never false e =
        let c = get_or t i 0 in
        absurd (true≢false (sym (eq-eqb c c refl) ∙ All-get_or (λ b. (b == c) ≡ false) t i 0 within (host_lacks c e never t h)))

    label : (i : ℕ) → i < length t → (is : Bool) → is_label_byte (get_or t i 0) ≡ is → get_or t i 0 < 128
    label i within true e = label_byte_is_ascii (get_or t i 0) e
    label i within false e = dot i within e (46 == get_or t i 0) refl

-- digits are ASCII
decimal_ascii : (n : ℕ) → n < 2 ^ 32 → IsAscii (decimal n)
decimal_ascii n few = IsAscii-decimal n (omega (arith, few))

-- so is an ASCII byte before such bytes
behind : (b : ℕ) (bs : List ℕ) → b < 128 → IsAscii bs → IsAscii (b ∷ bs)
behind b bs small ascii zero = small
behind b bs small ascii (suc i) = ascii i

-- and so are four numbers joined by dots
dotted_ascii : (a b c d : ℕ) → a < 256 → b < 256 → c < 256 → d < 256 → IsAscii (dotted_text a b c d)
dotted_ascii a b c d a_fits b_fits c_fits d_fits =
    subst IsAscii (whole_pieces a b c d) (piece a _ a_fits (piece b _ b_fits (piece c (decimal d) c_fits (decimal_ascii d (omega (arith, d_fits))))))
  where
    piece : (n : ℕ) (rest : List ℕ) → n < 256 → IsAscii rest → IsAscii (decimal n ++ (codes "." ++ rest))
    piece n rest fits ascii = IsAscii-append (decimal n) (codes "." ++ rest) (decimal_ascii n (omega (arith, fits))) (behind 46 rest (lit< tt) ascii)

-- what an address is written as is ASCII
address_ascii : (a : Address) → IsMade a → IsAscii (address_text a)
address_ascii (Host t) m = IsAscii-from_all t (host_bytes t m.0)
address_ascii (Under t) m =
    IsAscii-from_all (42 ∷ 46 ∷ t) (All-cons (λ b. b < 128) 42 (46 ∷ t) (lit< tt) (All-cons (λ b. b < 128) 46 t (lit< tt) (host_bytes t m.0)))
address_ascii (Range ip bits) m =
    IsAscii-append (ip_text ip) (cond (bits == 32) [] (47 ∷ decimal bits))
    (dotted_ascii (ip / 16777216) (ip / 65536 % 256) (ip / 256 % 256) (ip % 256) (omega (arith, m.low)) (omega arith) (omega arith) (omega arith)) (by (bits == 32))
  where
    by : (whole : Bool) → IsAscii (cond whole [] (47 ∷ decimal bits))
    by true = IsAscii-nil
    by false = behind 47 (decimal bits) (lit< tt) (decimal_ascii bits (omega (arith, m.few)))

-- a spelling is text
pub IsUtf8-spelling : (w : List ℕ) → is_spelling w ≡ true → IsUtf8 w
IsUtf8-spelling w h =
    let (a, read, text) = spelled_as w h in
    subst IsUtf8 text (IsUtf8-from_ascii (address_text a) (address_ascii a (made w a read)))

-- a spelling has at most 255 bytes
pub length-spelling : (w : List ℕ) → is_spelling w ≡ true → length w ≤ 255
length-spelling w h =
    let (a, read, text) = spelled_as w h in
    subst (λ u. length u ≤ 255) text (text_short a (address_given w a read))
