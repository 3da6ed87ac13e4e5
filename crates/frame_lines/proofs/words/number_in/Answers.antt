use Rattle.std.proofs.Common.{◌≡◌, true, sym, ◌∙◌}
use Rattle.frame_lines.specs.LineWords.{are_digits, is_plain}
use Rattle.frame_lines.proofs.NumberLaws.{parsed, digits_are_text, digits_nonempty}
use Rattle.frame_lines.proofs.words.number_in.Goals as goal

pub returns-in-Ok : goal.returns-in-Ok
returns-in-Ok c =
    let word = c.args.word.now in
    let digits : are_digits word ≡ true = sym c.are_digits.ensures ∙ c.if-not-are_digits.false in
    let plain : is_plain word ≡ true = sym c.is_plain.ensures ∙ c.if-not-is_plain.false in
    c.ok.ensures.value ∙ parsed word c.parse.result digits plain (digits_nonempty word digits) (rw c.in-Ok.ensures.cases.0 at c.parse.ensures.value.0)

pub returns-in-Err : goal.returns-in-Err
returns-in-Err c =
    let word = c.args.word.now in
    let digits : are_digits word ≡ true = sym c.are_digits.ensures ∙ c.if-not-are_digits.false in
    absurd (c.in-Err.ensures.cases.0 (digits_are_text word digits))
