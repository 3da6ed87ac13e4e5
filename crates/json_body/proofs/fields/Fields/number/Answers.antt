use Rattle.std.proofs.Common.{sym}
use Rattle.std.proofs.lemmas.Result.{err_from_is_err_and}
use Rattle.json_body.specs.FieldKinds.{object_of, as_number_in}
use Rattle.json_body.proofs.RequiredFields.{required-absent}
use Rattle.json_body.proofs.fields.Fields.number.Goals as goal

pub returns-in_err-value : goal.returns-in_err-value
returns-in_err-value c =
    let p = err_from_is_err_and c.from_residual.result c.from_residual.ensures.1 in
    rw (p.1, p.2) (sym (required-absent (as_number_in c.args.low c.args.high) c.args.field (object_of c.args.self.now) _ c.in_err-value.ensures))
