use Rattle.std.proofs.lemmas.Result.{err_from_is_err_and}
use Rattle.row_codec.specs.declared.rows.Row.TheVariants as row
use Rattle.row_reading.specs.RowReading.{front_entity}
use Rattle.row_reading.proofs.RowLaws.{fails_too}
use Rattle.row_reading.proofs.row_building.identity_row.Goals as goal

pub returns-in_err-name : goal.returns-in_err-name
returns-in_err-name c = λ rest number.
    let p = err_from_is_err_and c.from_residual.result c.from_residual.ensures.1 in
    rw (p.1, p.2) (fails_too c.in_err-name.field-0.0 front_entity (λ n v. row.Identity (record { 0 = n }) v.0 v.1) rest c.args.value.now c.args.no number c.in_err-name.ensures)
