-- Names and instances are text.
use Rattle.std.proofs.Common.{◌≡◌, ℕ, zero, suc, ◌<◌, nat_le, ◌==◌, Bool, true, false, ◌||◌, ◌&&◌, List, [], ◌∷◌, length, Result, Ok, Err, refl, sym, subst, eqb-true, arith, lit<}
use Rattle.std.specs.List.{list_all}
use Rattle.std.specs.Result.{MatchResult, IsOk}
use Rattle.std.specs.Str.{IsAscii, IsUtf8, is_utf8, chars}
use Rattle.std.proofs.lemmas.Bool.{and_parts}
use Rattle.std.proofs.lemmas.Bool.Decides.{nat_tests}
use Rattle.std.proofs.lemmas.List.{nil_from_length}
use Rattle.std.proofs.lemmas.Str.{IsUtf8-from_ascii, IsUtf8-from_is_utf8}
use Rattle.ctrl_model.specs.NameForm.{is_name, is_name_byte, is_instance}

pub is_ok_where : {T E X : Type 0} (P : T → Type 0) (Q : E → Type 0) (r : Result T E) → X → MatchResult r P (λ e. ¬ X × Q e) → IsOk r
is_ok_where P Q (Ok x) text h = refl
is_ok_where P Q (Err e) text h = absurd (h.0 text)

byte_is_ascii : (b : ℕ) → is_name_byte b ≡ true → b < 128
byte_is_ascii b h = grind (arith, nat_tests)

bytes_are_ascii : (bytes : List ℕ) → list_all is_name_byte bytes ≡ true → IsAscii bytes
bytes_are_ascii [] h i = lit< tt
bytes_are_ascii (b ∷ bytes) h zero = byte_is_ascii b (and_parts (is_name_byte b) (list_all is_name_byte bytes) h).0
bytes_are_ascii (b ∷ bytes) h (suc i) = bytes_are_ascii bytes (and_parts (is_name_byte b) (list_all is_name_byte bytes) h).1 i

pub IsUtf8-name : (bytes : List ℕ) → is_name bytes ≡ true → IsUtf8 bytes
IsUtf8-name bytes h = IsUtf8-from_ascii bytes (bytes_are_ascii bytes (and_parts (nat_le 1 (length bytes) && nat_le (length bytes) 64) (list_all is_name_byte bytes) h).1)

nothing_is_text : IsUtf8 []
unfolding is_utf8 chars
nothing_is_text = IsUtf8-from_is_utf8 [] refl

pub IsUtf8-instance : (bytes : List ℕ) → is_instance bytes ≡ true → IsUtf8 bytes
IsUtf8-instance bytes h = by (length bytes == 0) refl h
  where
    by : (b : Bool) → (length bytes == 0) ≡ b → (b || is_name bytes) ≡ true → IsUtf8 bytes
    by true is h = subst IsUtf8 (sym (nil_from_length bytes (eqb-true (length bytes) 0 is))) nothing_is_text
    by false is h = IsUtf8-name bytes h
