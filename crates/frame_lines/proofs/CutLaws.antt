-- Cuts at a byte, and what they make of words and lines.
use Rattle.std.proofs.Common.{◌≡◌, ℕ, zero, suc, ◌<◌, Bool, true, false, List, [], ◌∷◌, ◌++◌, length, get_or, take, drop, refl, sym, ap, ◌∙◌, arith, ◌-◌, eqb, cond, ◌&&◌}
use Rattle.std.proofs.lemmas.List.{take_all, drop_all}
use Rattle.frame_lines.specs.LineCuts.{Lacks, without_return}
use Rattle.frame_lines.specs.LineWords.{first_word, behind_word}
use Rattle.frame_lines.specs.TextLines.{lines_of, with_byte, is_newline_next}

-- ---- what a place of a byte cuts

pub lacks_at : (b : ℕ) (bytes : List ℕ) (n : ℕ) → ((k : ℕ) → k < n → eqb (get_or bytes k 0) b ≡ false) → Lacks b (take n bytes)
lacks_at b bytes zero none = tt
lacks_at b [] (suc n) none = tt
lacks_at b (x ∷ bytes) (suc n) none = (none 0 (omega arith), lacks_at b bytes n (λ k lt. none (suc k) (omega arith)))

pub cut_text : (b : ℕ) (bytes : List ℕ) (n : ℕ) → n < length bytes → get_or bytes n 0 ≡ b → bytes ≡ take n bytes ++ b ∷ drop (suc n) bytes
cut_text b [] n lt is = absurd (omega arith)
cut_text b (x ∷ bytes) zero lt is = ap (λ (y : ℕ). y ∷ bytes) is
cut_text b (x ∷ bytes) (suc n) lt is = ap (λ (ys : List ℕ). x ∷ ys) (cut_text b bytes n (omega arith) is)

drop_one : (n : ℕ) (bytes : List ℕ) → drop (suc n) bytes ≡ drop 1 (drop n bytes)
drop_one zero [] = refl
drop_one (suc n) [] = refl
drop_one zero (x ∷ bytes) = refl
drop_one (suc n) (x ∷ bytes) = drop_one n bytes

pub lacks_all : (b : ℕ) (bytes : List ℕ) → ((k : ℕ) → k < length bytes → eqb (get_or bytes k 0) b ≡ false) → Lacks b bytes
lacks_all b [] none = tt
lacks_all b (x ∷ bytes) none = (none 0 (omega arith), lacks_all b bytes (λ k lt. none (suc k) (omega arith)))

pub cut_here : (b : ℕ) (bytes rest behind : List ℕ) (n : ℕ) → n < length bytes → get_or bytes n 0 ≡ b → rest ≡ drop n bytes → behind ≡ drop 1 rest
    → bytes ≡ take n bytes ++ b ∷ behind
cut_here b bytes rest behind n lt is at one =
    cut_text b bytes n lt is ∙ ap (λ (ys : List ℕ). take n bytes ++ b ∷ ys) (drop_one n bytes ∙ ap (drop 1) (sym at) ∙ sym one)

-- ---- the end of a line

pub last_returns : (line : List ℕ) → 0 < length line → get_or line (length line - 1) 0 ≡ 13 → take (length line - 1) line ≡ without_return line
last_returns [] lt is = absurd (omega arith)
last_returns (b ∷ []) lt is = ap (λ (x : ℕ). cond (eqb x 13) [] (x ∷ [])) (sym is)
last_returns (b ∷ c ∷ line) lt is =
    let n : ℕ = length line in
    let one : length (b ∷ c ∷ line) - 1 ≡ suc n = omega arith in
    let less : length (c ∷ line) - 1 ≡ n = omega arith in
    let here : get_or (c ∷ line) n 0 ≡ 13 = ap (λ (k : ℕ). get_or (b ∷ c ∷ line) k 0) (sym one) ∙ is in
    let later = last_returns (c ∷ line) (omega arith) (ap (λ (k : ℕ). get_or (c ∷ line) k 0) less ∙ here) in
    ap (λ (k : ℕ). take k (b ∷ c ∷ line)) one ∙ ap (λ (xs : List ℕ). b ∷ xs) (ap (λ (k : ℕ). take k (c ∷ line)) (sym less) ∙ later)

pub last_stays : (line : List ℕ) → eqb (get_or line (length line - 1) 0) 13 ≡ false → without_return line ≡ line
last_stays [] is = refl
last_stays (b ∷ []) is = ap (λ (t : Bool). cond t [] (b ∷ [])) is
last_stays (b ∷ c ∷ line) is =
    let n : ℕ = length line in
    let one : length (b ∷ c ∷ line) - 1 ≡ suc n = omega arith in
    let less : length (c ∷ line) - 1 ≡ n = omega arith in
    ap (λ (xs : List ℕ). b ∷ xs) (last_stays (c ∷ line) (ap (λ (k : ℕ). eqb (get_or (c ∷ line) k 0) 13) less ∙ ap (λ (k : ℕ). eqb (get_or (b ∷ c ∷ line) k 0) 13) (sym one) ∙ is))

-- ---- words

pub word_alone : (line : List ℕ) → Lacks 32 line → (first_word line ≡ line) × (behind_word line ≡ [])
word_alone [] lacks = (refl, refl)
word_alone (b ∷ line) lacks =
    let later = word_alone line lacks.1 in (
      ap (λ (t : Bool). cond t [] (b ∷ first_word line)) lacks.0 ∙ ap (λ (w : List ℕ). b ∷ w) later.0,
      ap (λ (t : Bool). cond t line (behind_word line)) lacks.0 ∙ later.1,
    )

pub word_cut : (word behind : List ℕ) → Lacks 32 word → (first_word (word ++ 32 ∷ behind) ≡ word) × (behind_word (word ++ 32 ∷ behind) ≡ behind)
word_cut [] behind lacks = (refl, refl)
word_cut (b ∷ word) behind lacks =
    let rest : List ℕ = word ++ 32 ∷ behind in
    let later = word_cut word behind lacks.1 in (
      ap (λ (t : Bool). cond t [] (b ∷ first_word rest)) lacks.0 ∙ ap (λ (w : List ℕ). b ∷ w) later.0,
      ap (λ (t : Bool). cond t rest (behind_word rest)) lacks.0 ∙ later.1,
    )

-- ---- lines

-- one byte more at the front of a line
line_more : (b : ℕ) (text : List ℕ) (returns : Bool) → eqb b 10 ≡ false → (eqb b 13 && is_newline_next text) ≡ returns
    → lines_of (b ∷ text) ≡ cond returns (lines_of text) (with_byte b (lines_of text))
line_more b text returns ten is =
    ap (λ (t : Bool). cond t ([] ∷ lines_of text) (cond (eqb b 13 && is_newline_next text) (lines_of text) (with_byte b (lines_of text)))) ten
    ∙ ap (λ (t : Bool). cond t (lines_of text) (with_byte b (lines_of text))) is

and_false : (t : Bool) → (t && false) ≡ false
and_false true = refl
and_false false = refl

no_newline_next : (b : ℕ) (text : List ℕ) → Lacks 10 text → (eqb b 13 && is_newline_next text) ≡ false
no_newline_next b [] lacks = and_false (eqb b 13)
no_newline_next b (c ∷ text) lacks = ap (λ (t : Bool). eqb b 13 && t) lacks.0 ∙ and_false (eqb b 13)

pub line_alone : (b : ℕ) (text : List ℕ) → Lacks 10 (b ∷ text) → lines_of (b ∷ text) ≡ (b ∷ text) ∷ []
line_alone b [] lacks = line_more b [] false lacks.0 (and_false (eqb b 13))
line_alone b (c ∷ text) lacks =
    line_more b (c ∷ text) false lacks.0 (no_newline_next b (c ∷ text) lacks.1) ∙ ap (with_byte b) (line_alone c text lacks.1)

returned : (b : ℕ) (rest : List ℕ) (t : Bool) → eqb b 13 ≡ t → cond t ([] ∷ lines_of rest) (with_byte b ([] ∷ lines_of rest)) ≡ without_return (b ∷ []) ∷ lines_of rest
returned b rest true is = ap (λ (t : Bool). cond t [] (b ∷ []) ∷ lines_of rest) (sym is)
returned b rest false is = ap (λ (t : Bool). cond t [] (b ∷ []) ∷ lines_of rest) (sym is)

and_true : (t : Bool) → (t && true) ≡ t
and_true true = refl
and_true false = refl

pub line_cut : (line rest : List ℕ) → Lacks 10 line → lines_of (line ++ 10 ∷ rest) ≡ without_return line ∷ lines_of rest
line_cut [] rest lacks = refl
line_cut (b ∷ []) rest lacks = line_more b (10 ∷ rest) (eqb b 13) lacks.0 (and_true (eqb b 13)) ∙ returned b rest (eqb b 13) refl
line_cut (b ∷ c ∷ line) rest lacks =
    let none : (eqb b 13 && is_newline_next ((c ∷ line) ++ 10 ∷ rest)) ≡ false = ap (λ (t : Bool). eqb b 13 && t) lacks.1.0 ∙ and_false (eqb b 13) in
    line_more b ((c ∷ line) ++ 10 ∷ rest) false lacks.0 none ∙ ap (with_byte b) (line_cut (c ∷ line) rest lacks.1)

-- a text without a newline is one line
pub line_whole : (text line rest : List ℕ) → 0 < length text → Lacks 10 text → line ≡ take (length text) text → rest ≡ drop (length text) text
    → lines_of text ≡ line ∷ lines_of rest
line_whole [] line rest lt lacks is at = absurd (omega arith)
line_whole (b ∷ text) line rest lt lacks is at =
    let all : line ≡ b ∷ text = is ∙ take_all (length (b ∷ text)) (b ∷ text) (omega arith) in
    let none : rest ≡ [] = at ∙ drop_all (length (b ∷ text)) (b ∷ text) (omega arith) in
    line_alone b text lacks ∙ ap (λ (l : List ℕ). l ∷ []) (sym all) ∙ ap (λ (r : List ℕ). line ∷ lines_of r) (sym none)

pub empty_stays : (line : List ℕ) → length line ≡ 0 → without_return line ≡ line
empty_stays [] is = refl
empty_stays (b ∷ line) is = absurd (omega arith)
