-- A line in its full form: its words, and what they say.
use Rattle.std.proofs.Common.{◌≡◌, ℕ, ◌-◌, ◌<◌, ◌≤◌, ◌^◌, ◌&&◌, ◌||◌, Bool, true, false, not, cond, eqb, ltb, leb, List, [], ◌∷◌, ◌++◌, length, get_or, None, Some, Ok, Err, inl, inr, refl, sym, ap, ◌∙◌, append-nil, decimal, arith}
use Rattle.std.specs.declared.option.Option.{Option}
use Rattle.std.specs.declared.result.Result.{Result}
use Rattle.std.specs.Char.{is_ascii_digit}
use Rattle.std.specs.List.{list_all}
use Rattle.std.proofs.lemmas.Bool.{cases_lt, lt-ltb, le-ltb, leb-true}
use Rattle.std.proofs.lemmas.Bool.Decides.{eqb_tells}
use Rattle.std.proofs.lemmas.Fmt.{decimal_is_IsNumeral, decimal_digit, first_decimal}
use Rattle.frame_lines.specs.declared.lines.Line.{Line}
use Rattle.frame_lines.specs.declared.lines.LineCause.{LineCause}
use Rattle.frame_lines.specs.declared.lines.LineCause.TheVariants.{TooLong}
use Rattle.frame_lines.specs.LineWords.{first_word, behind_word, are_digits, is_plain, number_in}
use Rattle.frame_lines.specs.TypeNames.{number_named, name_numbered}
use Rattle.frame_lines.specs.TextLines.{passes, lines_of}
use Rattle.frame_lines.specs.LineCuts.{Lacks, without_return}
use Rattle.frame_lines.specs.LineReading.{type_or, type_in, with_type, with_sequence, said_by}
use Rattle.frame_lines.specs.FrameLines.{name_or, body_words}
use Rattle.frame_lines.proofs.CutLaws.{word_alone, word_cut, line_cut, last_stays}
use Rattle.frame_lines.proofs.NumberLaws.{model, number_plain}
use Rattle.frame_lines.proofs.TypeLaws.{IsPlainWord, and_left, and_right, number_of_name, name_is_plain, digits_name_none}

-- ---- what a byte that is a digit is not

digit_is_not : (b other : ℕ) → is_ascii_digit b ≡ true → other < 48 → eqb b other ≡ false
digit_is_not b other digit low =
    let high : 48 ≤ b = leb-true 48 b (and_left (leb 48 b) (leb b 57) digit) in
    elim (eqb_tells b other) [ inl same ↦ (let e : b ≡ other = same.1 in absurd (omega arith)) | inr apart ↦ apart.0 ]

pub digits_are_plain : (word : List ℕ) → list_all is_ascii_digit word ≡ true → IsPlainWord word
digits_are_plain [] is = record { spaces = tt; newlines = tt; returns = tt }
digits_are_plain (b ∷ word) is =
    let digit = and_left (is_ascii_digit b) (list_all is_ascii_digit word) is in
    let later = digits_are_plain word (and_right (is_ascii_digit b) (list_all is_ascii_digit word) is) in
    record {
      spaces = (digit_is_not b 32 digit (omega arith), later.spaces);
      newlines = (digit_is_not b 10 digit (omega arith), later.newlines);
      returns = (digit_is_not b 13 digit (omega arith), later.returns);
    }

-- ---- decimals

-- a number of four bytes as a word
pub record IsNumberWord (n : ℕ) (word : List ℕ) : Type 0 where
  pub some : 0 < length word
  pub digits : list_all is_ascii_digit word ≡ true
  pub are : are_digits word ≡ true
  pub reads : number_in word ≡ Some n
  pub plain : IsPlainWord word

first_digit : (word : List ℕ) → 0 < length word → list_all is_ascii_digit word ≡ true → is_ascii_digit (get_or word 0 0) ≡ true
first_digit [] lt is = absurd (omega arith)
first_digit (b ∷ word) lt is = and_left (is_ascii_digit b) (list_all is_ascii_digit word) is

or_left : (a b : Bool) → a ≡ true → (a || b) ≡ true
or_left true b is = refl
or_left false b is = cc

or_right : (a b : Bool) → b ≡ true → (a || b) ≡ true
or_right true b is = refl
or_right false b is = is

are_digits_from : (word : List ℕ) → 0 < length word → list_all is_ascii_digit word ≡ true → are_digits word ≡ true
are_digits_from [] lt is = absurd (omega arith)
are_digits_from (b ∷ word) lt is =
    elim (eqb_tells (length (b ∷ word)) 0) [
      | inl none ↦ (let e : length (b ∷ word) ≡ 0 = none.1 in absurd (omega arith))
      | inr some ↦ ap (λ (t : Bool). not t && list_all is_ascii_digit (b ∷ word)) some.0 ∙ is
    ]

decimal_plain : (n : ℕ) → n < 2 ^ 32 → is_plain (decimal n) ≡ true
decimal_plain n fits = elim (cases_lt n 10) [
  | inl low ↦ ap is_plain (decimal_digit n low)
  | inr high ↦
      let above = first_decimal n (omega arith) (omega arith) in
      or_right (eqb (length (decimal n)) 1) (not (eqb (get_or (decimal n) 0 0) 48))
      (elim (eqb_tells (get_or (decimal n) 0 0) 48) [ inl same ↦ (let e : get_or (decimal n) 0 0 ≡ 48 = same.1 in absurd (omega arith)) | inr apart ↦ ap not apart.0 ])
]

pub number_word : (n : ℕ) → n < 2 ^ 32 → IsNumberWord n (decimal n)
number_word n fits =
    let numeral = decimal_is_IsNumeral n (omega arith) in
    let digits = model.from (decimal n) numeral.0.1 in
    let are = are_digits_from (decimal n) numeral.0.0 digits in
    record {
      some = numeral.0.0;
      digits = digits;
      are = are;
      reads =
          number_plain (decimal n) are (decimal_plain n fits)
          ∙ ap (λ (v : ℕ). cond {A = Option ℕ} (ltb v (2 ^ 32)) (Some v) None) numeral.1
          ∙ ap (λ (t : Bool). cond {A = Option ℕ} t (Some n) None) (lt-ltb n (2 ^ 32) fits);
      plain = digits_are_plain (decimal n) digits;
    }

-- ---- content types

-- a word that tells a content type behind a sequence number
pub record IsTypeWord (content : ℕ) (word : List ℕ) : Type 0 where
  pub reads : type_in word ≡ Some content
  pub plain : IsPlainWord word

type_word_at : (content : ℕ) (o : Option (List ℕ)) → content < 2 ^ 32 → name_numbered content ≡ o → IsTypeWord content (name_or o content)
type_word_at content (Some name) fits is = record {
  reads = ap (λ (o : Option ℕ). type_or o name) (number_of_name content name is);
  plain = name_is_plain content name is;
}
type_word_at content None fits is =
    let word = number_word content fits in
    record {
      reads = ap (λ (o : Option ℕ). type_or o (decimal content)) (digits_name_none (decimal content) (first_digit (decimal content) word.some word.digits)) ∙ word.reads;
      plain = word.plain;
    }

pub type_word : (content : ℕ) → content < 2 ^ 32 → IsTypeWord content (name_or (name_numbered content) content)
type_word content fits = type_word_at content (name_numbered content) fits refl

-- ---- what a full line says

-- a word and a body behind it
word_and_body : (word body : List ℕ) → Lacks 32 word → (first_word (word ++ body_words body) ≡ word) × (behind_word (word ++ body_words body) ≡ body)
word_and_body word [] lacks =
    let alone = word_alone word lacks in
    (ap first_word (append-nil word) ∙ alone.0, ap behind_word (append-nil word) ∙ alone.1)
word_and_body word (b ∷ body) lacks = word_cut word (b ∷ body) lacks

short_body : (sequence : Option ℕ) (content : ℕ) (body : List ℕ) → length body ≤ 1048576
    → with_type sequence (Some content) body ≡ Ok (record { sequence = sequence; content = content; body = body })
short_body sequence content body short =
    ap (λ (t : Bool). cond {A = Result Line LineCause} t (Err TooLong) (Ok (record { sequence = sequence; content = content; body = body }))) (le-ltb 1048576 (length body) short)

-- the words of a line with its sequence number, its content type and its body say these
pub full_says : (sequence content : ℕ) (type_word body : List ℕ) → sequence < 2 ^ 32 → IsTypeWord content type_word → length body ≤ 1048576
    → said_by (decimal sequence ++ 32 ∷ (type_word ++ body_words body)) ≡ Ok (record { sequence = Some sequence; content = content; body = body })
full_says sequence content type_word body fits is short =
    let number = number_word sequence fits in
    let rest : List ℕ = type_word ++ body_words body in
    let line : List ℕ = decimal sequence ++ 32 ∷ rest in
    let first = word_cut (decimal sequence) rest number.plain.spaces in
    let next = word_and_body type_word body is.plain.spaces in
    ap (λ (t : Bool). cond {A = Result Line LineCause} t (with_sequence (number_in (first_word line)) (behind_word line)) (with_type None (number_named (first_word line)) (behind_word line))) (ap are_digits first.0 ∙ number.are)
    ∙ ap (λ (o : Option ℕ). with_sequence o (behind_word line)) (ap number_in first.0 ∙ number.reads)
    ∙ ap (λ (r : List ℕ). with_type (Some sequence) (type_in (first_word r)) (behind_word r)) first.1
    ∙ ap (λ (w : List ℕ). with_type (Some sequence) (type_in w) (behind_word rest)) next.0
    ∙ ap (λ (o : Option ℕ). with_type (Some sequence) o (behind_word rest)) is.reads
    ∙ ap (λ (b : List ℕ). with_type (Some sequence) (Some content) b) next.1
    ∙ short_body (Some sequence) content body short

-- a line that begins with a digit does not pass
pub digit_passes_not : (word rest : List ℕ) → 0 < length word → list_all is_ascii_digit word ≡ true → passes (word ++ rest) ≡ false
digit_passes_not [] rest lt is = absurd (omega arith)
digit_passes_not (b ∷ word) rest lt is =
    let digit = and_left (is_ascii_digit b) (list_all is_ascii_digit word) is in
    ap (λ (t : Bool). cond t (passes (word ++ rest)) (eqb b 35)) (digit_is_not b 32 digit (omega arith)) ∙ digit_is_not b 35 digit (omega arith)

-- ---- a full line stands alone in a text

pub lacks_both : (b : ℕ) (xs ys : List ℕ) → Lacks b xs → Lacks b ys → Lacks b (xs ++ ys)
lacks_both b [] ys p q = q
lacks_both b (x ∷ xs) ys p q = (p.0, lacks_both b xs ys p.1 q)

lacks_stays : (line : List ℕ) → Lacks 13 line → without_return line ≡ line
lacks_stays [] lacks = refl
lacks_stays (b ∷ []) lacks = ap (λ (t : Bool). cond t [] (b ∷ [])) lacks.0
lacks_stays (b ∷ c ∷ line) lacks = ap (λ (xs : List ℕ). b ∷ xs) (lacks_stays (c ∷ line) lacks.1)

stays_behind : (xs : List ℕ) (y : ℕ) (ys : List ℕ) → without_return (y ∷ ys) ≡ y ∷ ys → without_return (xs ++ y ∷ ys) ≡ xs ++ y ∷ ys
stays_behind [] y ys is = is
stays_behind (x ∷ []) y ys is = ap (λ (zs : List ℕ). x ∷ zs) is
stays_behind (x ∷ w ∷ xs) y ys is = ap (λ (zs : List ℕ). x ∷ zs) (stays_behind (w ∷ xs) y ys is)

-- a body that has no newline and no carriage return at its end
pub record IsTold (body : List ℕ) : Type 0 where
  pub newlines : Lacks 10 body
  pub end : eqb (get_or body (length body - 1) 0) 13 ≡ false

-- words that have no newline and no carriage return
pub record IsPlainLine (words : List ℕ) : Type 0 where
  pub newlines : Lacks 10 words
  pub returns : Lacks 13 words

body_lacks : (body : List ℕ) → Lacks 10 body → Lacks 10 (body_words body)
body_lacks [] lacks = tt
body_lacks (b ∷ body) lacks = (refl, lacks)

body_stays : (words body : List ℕ) → Lacks 13 words → IsTold body → without_return (words ++ body_words body) ≡ words ++ body_words body
body_stays words [] lacks told = ap without_return (append-nil words) ∙ lacks_stays words lacks ∙ sym (append-nil words)
body_stays words (b ∷ body) lacks told = stays_behind words 32 (b ∷ body) (ap (λ (xs : List ℕ). 32 ∷ xs) (last_stays (b ∷ body) told.end))

pub line_alone_in : (words body rest : List ℕ) → IsPlainLine words → IsTold body
    → lines_of ((words ++ body_words body) ++ 10 ∷ rest) ≡ (words ++ body_words body) ∷ lines_of rest
line_alone_in words body rest plain told =
    line_cut (words ++ body_words body) rest (lacks_both 10 words (body_words body) plain.newlines (body_lacks body told.newlines))
    ∙ ap (λ (l : List ℕ). l ∷ lines_of rest) (body_stays words body plain.returns told)
