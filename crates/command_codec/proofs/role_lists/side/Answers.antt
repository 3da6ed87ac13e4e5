use Rattle.std.proofs.Common.{◌≡◌, Err, sym}
use Rattle.std.proofs.lemmas.Result.{err_from_is_err_and}
use Rattle.json_body.specs.FieldKinds.{as_list_of, object_of, required}
use Rattle.body_fields.specs.ItemLists.{as_each_of, each_of}
use Rattle.body_fields.proofs.FieldLaws.{never_wanting, required_behind}
use Rattle.command_codec.specs.RoleLists.{as_role, side_of}
use Rattle.command_codec.proofs.role_lists.side.Goals as goal

pub returns-in_err-values-clause-given : goal.returns-in_err-values-clause-given
returns-in_err-values-clause-given c =
    let o = object_of c.args.fields.now in
    let none : required (as_list_of 64) c.args.field o ≡ Err c.in_err-values.field-0.0 = sym c.in_err-values.ensures in
    let p = err_from_is_err_and c.from_residual.result c.from_residual.ensures.1 in
    rw (p.1, p.2) (λ other.
    required_behind (as_each_of 64 as_role) side_of c.args.field o _ (required_behind (as_list_of 64) (each_of as_role) c.args.field o _ none))

pub returns-in_err-values-clause-memory : goal.returns-in_err-values-clause-memory
returns-in_err-values-clause-memory c =
    let none : required (as_list_of 64) c.args.field (object_of c.args.fields.now) ≡ Err c.in_err-values.field-0.0 = sym c.in_err-values.ensures in
    λ wanting. absurd (never_wanting (as_list_of 64) c.args.field (object_of c.args.fields.now) c.from_residual.result c.in_err-values.field-0.0 c.from_residual.ensures.1 none wanting)
