use Rattle.std.proofs.Common.{decimal, ap, sym, ◌∙◌, arith}
use Rattle.std.proofs.lemmas.Fmt.{decimal_digit}
use Rattle.run_notes.specs.Notes.{file_number}
use Rattle.zitilook.proofs.notes.file_text.Goals as goal

pub returns-in-Zero-clause-text : goal.returns-in-Zero-clause-text
returns-in-Zero-clause-text c = sym (decimal_digit 0 (omega arith)) ∙ ap (λ p. decimal (file_number p)) (sym c.in-Zero.is)

pub returns-in-One-clause-text : goal.returns-in-One-clause-text
returns-in-One-clause-text c = sym (decimal_digit 1 (omega arith)) ∙ ap (λ p. decimal (file_number p)) (sym c.in-One.is)

pub returns-in-Mark-clause-text : goal.returns-in-Mark-clause-text
returns-in-Mark-clause-text c = sym (decimal_digit 2 (omega arith)) ∙ ap (λ p. decimal (file_number p)) (sym c.in-Mark.is)
