-- Which bytes are an address of an intercept, which address they are, and the one spelling of an address (docs/RULES.md,
-- "Intercepts").
use Rattle.std.specs.Prelude.{ℕ, ◌+◌, ◌*◌, ◌-◌, ◌/◌, ◌%◌, ◌^◌, ◌==◌, Bool, false, not, ◌&&◌, ◌||◌, nat_le, cond, List, [], ◌∷◌, ◌++◌, length, map, None, Some, option_and_then, bytes_eq, decimal}
use Rattle.std.specs.declared.option.Option.{Option}
use Rattle.std.specs.Char.{is_ascii_digit}
use Rattle.std.specs.List.{list_all, list_any, slice_split}
use Rattle.std.specs.Net.Text.{dotted_text}
use Rattle.std.specs.Option.{option_map, option_map_or}
use Rattle.std.specs.Str.Parse.{digits_value}
use Rattle.ctrl_model.specs.declared.addresses.Address.{Address}
use Rattle.ctrl_model.specs.declared.addresses.Address.TheVariants.{Host, Under, Range}
use Rattle.ctrl_model.specs.Limits.{longest_host, longest_label, most_bits}

-- ---- hosts

-- A capital letter, read as the small one; every other byte is itself.
abbrev pub lowered : ℕ → ℕ
lowered b = cond (nat_le 65 b && nat_le b 90) (b + 32) b

-- A byte of a label: a letter or digit of ASCII, a hyphen or a low line.
abbrev pub is_label_byte : ℕ → Bool
is_label_byte b = (nat_le 65 b && nat_le b 90) || (nat_le 97 b && nat_le b 122) || is_ascii_digit b || (b == 45) || (b == 95)

-- A label is at least one such byte, and at most as many as a label may have.
abbrev pub is_label : List ℕ → Bool
is_label bytes = nat_le 1 (length bytes) && (nat_le (length bytes) longest_label && list_all is_label_byte bytes)

-- The parts of bytes between the places where a byte stands.
abbrev pub parts_at : ℕ → List ℕ → List (List ℕ)
parts_at c bytes = slice_split (λ b. b == c) bytes

-- The last of some parts.
abbrev pub last_part : List (List ℕ) → List ℕ
last_part [] = []
last_part (p ∷ []) = p
last_part (p ∷ q ∷ ps) = last_part (q ∷ ps)

-- A host is labels joined by single dots, of which the last has a byte that is no digit, and has at most as many bytes as a
-- host may have.
abbrev pub is_host : List ℕ → Bool
is_host bytes =
    nat_le (length bytes) longest_host
    && (list_all is_label (parts_at 46 bytes) && list_any (λ b. not (is_ascii_digit b)) (last_part (parts_at 46 bytes)))

-- The host that bytes are, if they are one: its letters are small.
abbrev pub host_of : List ℕ → Option (List ℕ)
host_of bytes = cond (is_host bytes) (Some (map lowered bytes)) None

-- ---- ranges

-- The number that bytes say, if they are the decimal text of one from 0 to a greatest: no zero stands before another digit.
abbrev pub number_to : ℕ → List ℕ → Option ℕ
number_to most bytes =
    cond (bytes_eq bytes (decimal (digits_value 10 bytes)) && nat_le (digits_value 10 bytes) most) (Some (digits_value 10 bytes)) None

-- The address of four numbers from 0 to 255, behind those that were read.
abbrev pub ip_behind : ℕ → List (List ℕ) → Option ℕ
ip_behind ip [] = Some ip
ip_behind ip (p ∷ ps) = option_and_then (λ n. ip_behind (ip * 256 + n) ps) (number_to 255 p)

-- The address that bytes say, if they are four such numbers joined by dots.
abbrev pub ip_of : List ℕ → Option ℕ
ip_of bytes = cond (length (parts_at 46 bytes) == 4) (ip_behind 0 (parts_at 46 bytes)) None

-- The first bits of an address, with the others read as 0.
abbrev pub first_bits : ℕ → ℕ → ℕ
first_bits bits ip = ip - ip % 2 ^ (most_bits - bits)

-- The range that an address and its bits, if some are said, make.
abbrev pub range_in : List (List ℕ) → Option (ℕ × ℕ)
range_in (ip ∷ []) = option_map (λ n. (n, most_bits)) (ip_of ip)
range_in (ip ∷ bits ∷ []) = option_and_then (λ n. option_map (λ k. (first_bits k n, k)) (number_to most_bits bits)) (ip_of ip)
range_in parts = None

-- The range that bytes say, if they say one: an address, alone or with `/` and its bits behind it.
abbrev pub range_of : List ℕ → Option (ℕ × ℕ)
range_of bytes = range_in (parts_at 47 bytes)

-- ---- addresses

-- What is under a host: `*.` and the host. The text is the host alone.
abbrev pub under_of : List ℕ → Option (List ℕ)
under_of (star ∷ dot ∷ host) = cond ((star == 42) && (dot == 46)) (host_of host) None
under_of bytes = None

-- The first of two, if there is one, and else the second.
abbrev pub or_else : {X : Type 0} → Option X → Option X → Option X
or_else (Some x) other = Some x
or_else None other = other

-- The address that bytes are, if they are one. No bytes are two of the three.
abbrev pub address_of : List ℕ → Option Address
address_of bytes =
    or_else (option_map (λ r. Range r.0 r.1) (range_of bytes)) (or_else (option_map (λ h. Under h) (under_of bytes)) (option_map (λ h. Host h) (host_of bytes)))

-- ---- the one spelling

-- Four numbers joined by dots, of which each is eight bits of an address.
abbrev pub ip_text : ℕ → List ℕ
ip_text ip = dotted_text (ip / 16777216) (ip / 65536 % 256) (ip / 256 % 256) (ip % 256)

-- The bytes of an address: small letters, and no `/32`.
abbrev pub address_text : Address → List ℕ
address_text (Host text) = text
address_text (Under text) = 42 ∷ 46 ∷ text
address_text (Range ip bits) = ip_text ip ++ cond (bits == most_bits) [] (47 ∷ decimal bits)

-- ---- which addresses there are

-- Whether two addresses are the same.
abbrev pub same_address : Address → Address → Bool
same_address (Host t) (Host u) = bytes_eq t u
same_address (Under t) (Under u) = bytes_eq t u
same_address (Range i k) (Range j l) = (i == j) && (k == l)
same_address a b = false

-- An address that some bytes are: its own spelling is read as it.
abbrev pub is_address : Address → Bool
is_address a = option_map_or (same_address a) (address_of (address_text a)) false

-- Whether bytes are the one spelling of an address.
abbrev pub is_spelling : List ℕ → Bool
is_spelling bytes = option_map_or (λ a. bytes_eq (address_text a) bytes) (address_of bytes) false

-- Whether bytes are the one spelling of a range. Private contracts alone cite it, as the next one.
abbrev pub is_range_spelling : List ℕ → Bool
is_range_spelling bytes = option_map_or (λ r. bytes_eq (address_text (Range r.0 r.1)) bytes) (range_of bytes) false

-- A text begins with a plus, or with a zero before another byte.
abbrev pub is_padded : List ℕ → Bool
is_padded [] = false
is_padded (first ∷ []) = first == 43
is_padded (first ∷ second ∷ rest) = (first == 43) || (first == 48)
