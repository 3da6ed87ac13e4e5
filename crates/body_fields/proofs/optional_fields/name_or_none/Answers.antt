use Rattle.std.proofs.Common.{◌≡◌, true, sym, ◌∙◌}
use Rattle.std.specs.Prelude.{is_some}
use Rattle.std.proofs.lemmas.Result.{err_from_is_err_and}
use Rattle.json_body.specs.FieldKinds.{object_of, member_of}
use Rattle.body_fields.proofs.FieldLaws.{some_name_fault}
use Rattle.body_fields.proofs.optional_fields.name_or_none.Goals as goal

pub returns-in_err-name-clause-given : goal.returns-in_err-name-clause-given
returns-in_err-name-clause-given c =
    let p = err_from_is_err_and c.from_residual.result c.from_residual.ensures.1 in
    let there : is_some (member_of c.args.field (object_of c.args.fields.now)) ≡ true = sym c.has.ensures ∙ c.if-not-has.false in
    rw (p.1, p.2) (λ other. some_name_fault c.args.field (object_of c.args.fields.now) _ there (c.in_err-name.ensures.fault other))
