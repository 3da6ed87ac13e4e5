use Rattle.std.proofs.Common.{◌^◌, sym, ap, ◌∙◌, arith}
use Rattle.ctrl_serve.specs.CommandLine.{is_padded}
use Rattle.ctrl_serve.proofs.NumberWords.{padded_has_none, parsed_number}
use Rattle.ctrl_serve.proofs.command_line.number_of_word.Goals as goal

pub returns-then-is_padded : goal.returns-then-is_padded
returns-then-is_padded c = padded_has_none (2 ^ 64) c.args.word.now (omega arith) (ap is_padded (sym c.as_bytes.ensures.value) ∙ sym c.is_padded.ensures ∙ c.if-is_padded.true)

pub returns : goal.returns
returns c =
    c.ok.ensures.value
    ∙ parsed_number c.args.word.now c.parse.result (ap is_padded (sym c.as_bytes.ensures.value) ∙ sym c.is_padded.ensures ∙ c.if-is_padded.false) c.parse.ensures.value.0
