use Rattle.std.proofs.lemmas.Result.{err_from_is_err_and}
use Rattle.json_body.specs.FieldKinds.{object_of, as_name}
use Rattle.json_body.proofs.RequiredFields.{required-absent}
use Rattle.json_body.proofs.fields.Fields.name.Goals as goal

pub returns-in_err-value-clause-fault : goal.returns-in_err-value-clause-fault
returns-in_err-value-clause-fault c =
    let p = err_from_is_err_and c.from_residual.result c.from_residual.ensures.1 in
    rw (p.1, p.2) (λ other. required-absent as_name c.args.field (object_of c.args.self.now) _ c.in_err-value.ensures)
