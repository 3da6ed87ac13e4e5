-- What the bytes of names are: ASCII, and few.
use Rattle.std.proofs.Common.{◌≡◌, ℕ, zero, suc, ◌<◌, ◌≤◌, nat_le, ◌&&◌, true, List, [], ◌∷◌, length, Result, Ok, Err, refl, arith, lit<, leb-true}
use Rattle.std.proofs.lemmas.Bool.{and_parts}
use Rattle.std.proofs.lemmas.Bool.Decides.{nat_tests}
use Rattle.std.specs.List.{list_all}
use Rattle.std.specs.Result.{MatchResult, IsOk}
use Rattle.std.specs.Str.{IsAscii, IsUtf8}
use Rattle.std.proofs.lemmas.Str.{IsUtf8-from_ascii}
use Rattle.ctrl_model.specs.NameForm.{is_name, is_name_byte}

byte_is_ascii : (b : ℕ) → is_name_byte b ≡ true → b < 128
byte_is_ascii b h = grind (arith, nat_tests)

bytes_are_ascii : (bytes : List ℕ) → list_all is_name_byte bytes ≡ true → IsAscii bytes
bytes_are_ascii [] h i = lit< tt
bytes_are_ascii (b ∷ bytes) h zero = byte_is_ascii b (and_parts (is_name_byte b) (list_all is_name_byte bytes) h).0
bytes_are_ascii (b ∷ bytes) h (suc i) = bytes_are_ascii bytes (and_parts (is_name_byte b) (list_all is_name_byte bytes) h).1 i

-- a name is text
pub IsUtf8-name : (bytes : List ℕ) → is_name bytes ≡ true → IsUtf8 bytes
IsUtf8-name bytes h = IsUtf8-from_ascii bytes (bytes_are_ascii bytes (and_parts (nat_le 1 (length bytes) && nat_le (length bytes) 64) (list_all is_name_byte bytes) h).1)

-- a name has at most 64 bytes
pub length-name : (bytes : List ℕ) → is_name bytes ≡ true → length bytes ≤ 64
length-name bytes h =
    leb-true (length bytes) 64 (and_parts (nat_le 1 (length bytes)) (nat_le (length bytes) 64) (and_parts (nat_le 1 (length bytes) && nat_le (length bytes) 64) (list_all is_name_byte bytes) h).0).1

-- what comes where some bytes are text comes of text
pub is_ok_where : {T E X : Type 0} (P : T → Type 0) (Q : E → Type 0) (r : Result T E) → X → MatchResult r P (λ e. ¬ X × Q e) → IsOk r
is_ok_where P Q (Ok x) text h = refl
is_ok_where P Q (Err e) text h = absurd (h.0 text)
