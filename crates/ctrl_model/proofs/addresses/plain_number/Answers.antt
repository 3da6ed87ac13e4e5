use Rattle.std.proofs.Common.{◌∙◌, arith}
use Rattle.ctrl_model.proofs.NumberTexts.{parsed_number, no_text_has_none}
use Rattle.ctrl_model.proofs.addresses.plain_number.Goals as goal

pub returns-in-Ok : goal.returns-in-Ok
returns-in-Ok c = c.ok.ensures.value ∙ parsed_number c.args.bytes.now c.parse.result c.requires.plain (rw c.in-Ok.ensures.cases.0 at c.parse.ensures.value.0)

pub returns-in-Err : goal.returns-in-Err
returns-in-Err c = no_text_has_none 255 c.args.bytes.now (omega arith) c.in-Err.ensures.cases.0
