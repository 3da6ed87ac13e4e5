use Rattle.record_lines.proofs.CopiedFields.{body_of_fields}
use Rattle.record_lines.proofs.laws.fields_are_the_body.Goals as goal

pub returns : goal.returns
returns c = body_of_fields
