-- No byte that is written of a value is below a space, and a string grows to six times its length at most.
use Rattle.std.proofs.Common.{◌≡◌, ℕ, zero, suc, ◌+◌, ◌*◌, ◌/◌, ◌%◌, ◌≤◌, ◌==◌, ◌||◌, Bool, true, false, cond, nat_lt, List, [], ◌∷◌, ◌++◌, length, pos, negsuc, decimal, refl, arith, length-append, lit≤}
use Rattle.std.specs.List.{AllByRecursion}
use Rattle.std.specs.Char.{digit_char}
use Rattle.std.specs.Fmt.{digits, digits_onto, digit_glyph}
use Rattle.std.proofs.lemmas.Bool.Decides.{nat_tests}
use Rattle.json.specs.Print.{escape, escape_byte, escape_letter, quoted}
use Rattle.serde_json.specs.Data.{Num, unsigned, negative, float, Data, null, boolean, number, string, array, object, Items, no_items, item, Members, no_members, member}
use Rattle.serde_json.specs.Written.{number_text, comma_if, compact_text, items_text, members_text}

-- ---- bytes from a space on

abbrev pub IsClear : List ℕ → Type 0
IsClear text = AllByRecursion (λ b. 32 ≤ b) text

pub clear_both : (xs ys : List ℕ) → IsClear xs → IsClear ys → IsClear (xs ++ ys)
clear_both [] ys p q = q
clear_both (x ∷ xs) ys p q = (p.0, clear_both xs ys p.1 q)

-- ---- numbers

glyph_high : (d : ℕ) → 32 ≤ digit_glyph false d
glyph_high d = by (nat_lt d 10)
  where
    by : (t : Bool) → 32 ≤ cond t (48 + d) (87 + d)
    by true = omega arith
    by false = omega arith

digits_clear : (k n : ℕ) (behind : List ℕ) → IsClear behind → IsClear (digits_onto k 10 false n behind)
digits_clear zero n behind c = c
digits_clear (suc k) n behind c = by (n / 10 == 0) (digits_clear k (n / 10) (digit_glyph false (n % 10) ∷ behind) (glyph_high (n % 10), c))
  where
    by : (t : Bool) → IsClear (digits_onto k 10 false (n / 10) (digit_glyph false (n % 10) ∷ behind))
        → IsClear (cond t (digit_glyph false (n % 10) ∷ behind) (digits_onto k 10 false (n / 10) (digit_glyph false (n % 10) ∷ behind)))
    by true more = (glyph_high (n % 10), c)
    by false more = more

pub decimal_clear : (n : ℕ) → IsClear (decimal n)
unfolding digits
decimal_clear n = digits_clear 64 n [] tt

number_clear : (n : Num) → IsClear (number_text n)
number_clear (unsigned n) = decimal_clear n
number_clear (negative (pos n)) = decimal_clear n
number_clear (negative (negsuc n)) = (lit≤ tt, decimal_clear (suc n))
number_clear (float x) = tt

-- ---- strings

char_high : (d : ℕ) → 32 ≤ digit_char d
char_high d = by (nat_lt d 10)
  where
    by : (t : Bool) → 32 ≤ cond t (48 + d) (87 + d)
    by true = omega arith
    by false = omega arith

letter_at : (quote back feed line return tab : Bool) (x : ℕ) → (quote ≡ true → 32 ≤ x)
    → nat_lt 0 (cond quote x (cond back 98 (cond feed 102 (cond line 110 (cond return 114 (cond tab 116 0)))))) ≡ true
    → 32 ≤ cond quote x (cond back 98 (cond feed 102 (cond line 110 (cond return 114 (cond tab 116 0)))))
letter_at true back feed line return tab x high h = high refl
letter_at false true feed line return tab x high h = lit≤ tt
letter_at false false true line return tab x high h = lit≤ tt
letter_at false false false true return tab x high h = lit≤ tt
letter_at false false false false true tab x high h = lit≤ tt
letter_at false false false false false true x high h = lit≤ tt
letter_at false false false false false false x high h = absurd cc

quote_high : (x : ℕ) → ((x == 34) || (x == 92)) ≡ true → 32 ≤ x
quote_high x h = grind (arith, nat_tests)

letter_high : (x : ℕ) → nat_lt 0 (escape_letter x) ≡ true → 32 ≤ escape_letter x
letter_high x h = letter_at ((x == 34) || (x == 92)) (x == 8) (x == 12) (x == 10) (x == 13) (x == 9) x (quote_high x) h

not_low : (x : ℕ) → nat_lt x 32 ≡ false → 32 ≤ x
not_low x h = grind (arith, nat_tests)

byte_at : (escaped low : Bool) (x l : ℕ) → (escaped ≡ true → 32 ≤ l) → (low ≡ false → 32 ≤ x)
    → IsClear (cond escaped (92 ∷ l ∷ []) (cond low (92 ∷ 117 ∷ 48 ∷ 48 ∷ digit_char (x / 16) ∷ digit_char (x % 16) ∷ []) (x ∷ [])))
byte_at true low x l letter high = (lit≤ tt, (letter refl, tt))
byte_at false true x l letter high = (lit≤ tt, (lit≤ tt, (lit≤ tt, (lit≤ tt, (char_high (x / 16), (char_high (x % 16), tt))))))
byte_at false false x l letter high = (high refl, tt)

byte_clear : (x : ℕ) → IsClear (escape_byte x)
unfolding escape_byte
byte_clear x = byte_at (nat_lt 0 (escape_letter x)) (nat_lt x 32) x (escape_letter x) (letter_high x) (not_low x)

escape_clear : (s : List ℕ) → IsClear (escape s)
escape_clear [] = tt
escape_clear (x ∷ s) = clear_both (escape_byte x) (escape s) (byte_clear x) (escape_clear s)

quoted_clear : (s : List ℕ) → IsClear (quoted s)
quoted_clear s = (lit≤ tt, clear_both (escape s) (34 ∷ []) (escape_clear s) (lit≤ tt, tt))

-- ---- values

comma_clear : (later : Bool) → IsClear (comma_if later)
comma_clear true = (lit≤ tt, tt)
comma_clear false = tt

mutual
  pub written_clear : (d : Data) → IsClear (compact_text d)
  written_clear null = (lit≤ tt, (lit≤ tt, (lit≤ tt, (lit≤ tt, tt))))
  written_clear (boolean true) = (lit≤ tt, (lit≤ tt, (lit≤ tt, (lit≤ tt, tt))))
  written_clear (boolean false) = (lit≤ tt, (lit≤ tt, (lit≤ tt, (lit≤ tt, (lit≤ tt, tt)))))
  written_clear (number n) = number_clear n
  written_clear (string s) = quoted_clear s
  written_clear (array ds) = (lit≤ tt, items_clear false ds)
  written_clear (object ms) = (lit≤ tt, members_clear false ms)

  items_clear : (later : Bool) (ds : Items) → IsClear (items_text later ds)
  items_clear later no_items = (lit≤ tt, tt)
  items_clear later (item d ds) =
      clear_both (comma_if later) (compact_text d ++ items_text true ds) (comma_clear later)
      (clear_both (compact_text d) (items_text true ds) (written_clear d) (items_clear true ds))

  members_clear : (later : Bool) (ms : Members) → IsClear (members_text later ms)
  members_clear later no_members = (lit≤ tt, tt)
  members_clear later (member k d ms) =
      clear_both (comma_if later) (quoted k ++ 58 ∷ (compact_text d ++ members_text true ms)) (comma_clear later)
      (clear_both (quoted k) (58 ∷ (compact_text d ++ members_text true ms)) (quoted_clear k)
      (lit≤ tt, clear_both (compact_text d) (members_text true ms) (written_clear d) (members_clear true ms)))

-- ---- how long a string gets

byte_long : (escaped low : Bool) (x l : ℕ) → length (cond escaped (92 ∷ l ∷ []) (cond low (92 ∷ 117 ∷ 48 ∷ 48 ∷ digit_char (x / 16) ∷ digit_char (x % 16) ∷ []) (x ∷ []))) ≤ 6
byte_long true low x l = lit≤ tt
byte_long false true x l = lit≤ tt
byte_long false false x l = lit≤ tt

byte_length : (x : ℕ) → length (escape_byte x) ≤ 6
unfolding escape_byte
byte_length x = byte_long (nat_lt 0 (escape_letter x)) (nat_lt x 32) x (escape_letter x)

escape_length : (s : List ℕ) → length (escape s) ≤ 6 * length s
escape_length [] = omega arith
escape_length (x ∷ s) = let one = byte_length x in let more = escape_length s in let both = length-append (escape_byte x) (escape s) in omega arith

pub quoted_length : (s : List ℕ) (n : ℕ) → length s ≤ n → length (quoted s) ≤ 6 * n + 2
quoted_length s n h = let one = escape_length s in let both = length-append (escape s) (34 ∷ []) in omega arith
