-- What a line says that is a name of a content type and a body behind it, and what a remark says.
use Rattle.std.proofs.Common.{◌≡◌, ℕ, zero, suc, ◌-◌, ◌≤◌, ◌&&◌, ◌==◌, Bool, true, false, not, cond, List, [], ◌∷◌, ◌++◌, length, get_or, Option, None, Some, Result, Ok, Err, refl, sym, ap, ◌∙◌, append_assoc, append-nil, arith, le-ltb, ne_eqb}
use Rattle.std.specs.List.{list_all}
use Rattle.std.specs.Char.{is_ascii_digit}
use Rattle.frame_lines.specs.declared.lines.Line.{Line}
use Rattle.frame_lines.specs.declared.lines.LineCause.{LineCause}
use Rattle.frame_lines.specs.declared.lines.LineCause.TheVariants.{TooLong}
use Rattle.frame_lines.specs.TypeNames.{type_names, number_named, name_numbered}
use Rattle.frame_lines.specs.TextLines.{passes, lines_of}
use Rattle.frame_lines.specs.LineCuts.{Lacks, without_return}
use Rattle.frame_lines.specs.LineWords.{first_word, behind_word, are_digits, number_in}
use Rattle.frame_lines.specs.LineReading.{with_type, with_sequence, said_by}
use Rattle.frame_lines.specs.FrameLines.{body_words}
use Rattle.frame_lines.proofs.CutLaws.{word_alone, word_cut, line_cut}
use Rattle.frame_lines.proofs.TypeLaws.{and_left, and_right, found_by_number, name_is_plain, not_true, number_of_name}
use Rattle.frame_lines.proofs.WordLaws.{IsTold, line_alone_in}
use Rattle.dump_laws.proofs.ClearTexts.{IsClear}

-- ---- names

-- a word begins with no digit, no space and no number sign
abbrev begins_name : List ℕ → Bool
begins_name [] = false
begins_name (b ∷ word) = not (is_ascii_digit b) && (not (b == 32) && not (b == 35))

name_begins : (content : ℕ) (name : List ℕ) → name_numbered content ≡ Some name → begins_name name ≡ true
name_begins content name is = found_by_number (λ row. begins_name row.1) type_names content name refl is

and_false : (t : Bool) → (t && false) ≡ false
and_false true = refl
and_false false = refl

no_digits : (word : List ℕ) → begins_name word ≡ true → are_digits word ≡ false
no_digits [] is = absurd cc
no_digits (b ∷ word) is =
    let digit = not_true (is_ascii_digit b) (and_left (not (is_ascii_digit b)) (not (b == 32) && not (b == 35)) is) in
    ap (λ (t : Bool). not (length (b ∷ word) == 0) && (t && list_all is_ascii_digit word)) digit ∙ and_false (not (length (b ∷ word) == 0))

says_something : (word rest : List ℕ) → begins_name word ≡ true → passes (word ++ rest) ≡ false
says_something [] rest is = absurd cc
says_something (b ∷ word) rest is =
    let others = and_right (not (is_ascii_digit b)) (not (b == 32) && not (b == 35)) is in
    ap (λ (t : Bool). cond t (passes (word ++ rest)) (b == 35)) (not_true (b == 32) (and_left (not (b == 32)) (not (b == 35)) others))
    ∙ not_true (b == 35) (and_right (not (b == 32)) (not (b == 35)) others)

-- ---- a name and a body

word_and_body : (word body : List ℕ) → Lacks 32 word → (first_word (word ++ body_words body) ≡ word) × (behind_word (word ++ body_words body) ≡ body)
word_and_body word [] lacks =
    let alone = word_alone word lacks in
    (ap first_word (append-nil word) ∙ alone.0, ap behind_word (append-nil word) ∙ alone.1)
word_and_body word (b ∷ body) lacks = word_cut word (b ∷ body) lacks

-- a line of a name and a body says these, and no sequence number
pub named_says : (content : ℕ) (name body : List ℕ) → name_numbered content ≡ Some name → length body ≤ 1048576
    → said_by (name ++ body_words body) ≡ Ok (record { sequence = None; content = content; body = body })
named_says content name body is short =
    let line : List ℕ = name ++ body_words body in
    let cut = word_and_body name body (name_is_plain content name is).spaces in
    ap (λ (t : Bool). cond {A = Result Line LineCause} t (with_sequence (number_in (first_word line)) (behind_word line)) (with_type None (number_named (first_word line)) (behind_word line))) (ap are_digits cut.0 ∙ no_digits name (name_begins content name is))
    ∙ ap (λ (o : Option ℕ). with_type None o (behind_word line)) (ap number_named cut.0 ∙ number_of_name content name is)
    ∙ ap (λ (b : List ℕ). with_type None (Some content) b) cut.1
    ∙ ap (λ (t : Bool). cond {A = Result Line LineCause} t (Err TooLong) (Ok (record { sequence = None; content = content; body = body }))) (le-ltb 1048576 (length body) short)

pub named_stays : (content : ℕ) (name body : List ℕ) → name_numbered content ≡ Some name → passes (name ++ body_words body) ≡ false
named_stays content name body is = says_something name (body_words body) (name_begins content name is)

-- ---- bodies without control bytes

pub lacks_newline : (text : List ℕ) → IsClear text → Lacks 10 text
lacks_newline [] clear = tt
lacks_newline (b ∷ text) clear = (ne_eqb b 10 (λ e. let least = clear.0 in omega (arith, e, least)), lacks_newline text clear.1)

none_returns : (text : List ℕ) (i : ℕ) → IsClear text → (get_or text i 0 == 13) ≡ false
none_returns [] i clear = refl
none_returns (b ∷ text) zero clear = ne_eqb b 13 (λ e. let least = clear.0 in omega (arith, e, least))
none_returns (b ∷ text) (suc i) clear = none_returns text i clear.1

told_where_clear : (body : List ℕ) → IsClear body → IsTold body
told_where_clear body clear = record { newlines = lacks_newline body clear; end = none_returns body (length body - 1) clear }

-- such a line, with its newline before other lines
pub line_of_name : (content : ℕ) (name body rest : List ℕ) → name_numbered content ≡ Some name → IsClear body
    → lines_of ((name ++ (body_words body ++ 10 ∷ [])) ++ rest) ≡ (name ++ body_words body) ∷ lines_of rest
line_of_name content name body rest is clear =
    let plain = name_is_plain content name is in
    ap lines_of
    (append_assoc name (body_words body ++ 10 ∷ []) rest
    ∙ ap (λ (t : List ℕ). name ++ t) (append_assoc (body_words body) (10 ∷ []) rest)
    ∙ sym (append_assoc name (body_words body) (10 ∷ rest)))
    ∙ line_alone_in name body rest (record { newlines = plain.newlines; returns = plain.returns }) (told_where_clear body clear)

-- ---- remarks

pub remark_line : (line rest : List ℕ) → Lacks 10 line → lines_of ((35 ∷ 32 ∷ (line ++ 10 ∷ [])) ++ rest) ≡ without_return (35 ∷ 32 ∷ line) ∷ lines_of rest
remark_line line rest lacks =
    ap (λ (t : List ℕ). lines_of (35 ∷ 32 ∷ t)) (append_assoc line (10 ∷ []) rest)
    ∙ line_cut (35 ∷ 32 ∷ line) rest (refl, (refl, lacks))
