use Rattle.std.proofs.Common.{◌≡◌, subst}
use Rattle.std.proofs.lemmas.Result.{err_from_is_err_and}
use Rattle.json_body.specs.declared.fields.FieldFault.TheVariants.{NoMemory}
use Rattle.json_body.specs.FieldKinds.{object_of}
use Rattle.body_fields.specs.FieldRules.{rules_of}
use Rattle.body_fields.specs.ReadResults.{Gives}
use Rattle.command_codec.specs.FormRules.{form_asks, is_of_body_kind}
use Rattle.command_codec.proofs.FormLaws.{form_fault, form_kept, not_memory}
use Rattle.command_codec.proofs.reading.judged_command.Goals as goal

pub returns-in_err-keep_rules-clause-given : goal.returns-in_err-keep_rules-clause-given
returns-in_err-keep_rules-clause-given c =
    let p = err_from_is_err_and c.from_residual.result c.from_residual.ensures.1 in
    rw (p.1, p.2) (λ other. form_fault c.args.content (form_asks c.args.form) (object_of c.args.fields.now) _ c.requires c.in_err-keep_rules.ensures.fault)

pub returns-in_err-keep_rules-clause-memory : goal.returns-in_err-keep_rules-clause-memory
returns-in_err-keep_rules-clause-memory c =
    let p = err_from_is_err_and c.from_residual.result c.from_residual.ensures.1 in
    rw (p.1, p.2) (λ wanting.
    let same : c.in_err-keep_rules.field-0.0 ≡ NoMemory = cc in
    absurd (not_memory (rules_of is_of_body_kind (form_asks c.args.form).0) (form_asks c.args.form).1 (object_of c.args.fields.now) c.in_err-keep_rules.field-0.0 c.in_err-keep_rules.ensures.fault same))

pub returns-clause-given : goal.returns-clause-given
returns-clause-given c =
    subst (Gives NoMemory (λ d. d) c.command_of.result) (form_kept c.args.content (form_asks c.args.form) (object_of c.args.fields.now) c.requires c.in_ok-keep_rules.ensures.kept).1 c.command_of.ensures

pub returns-clause-memory : goal.returns-clause-memory
returns-clause-memory c = λ wanting. (form_kept c.args.content (form_asks c.args.form) (object_of c.args.fields.now) c.requires c.in_ok-keep_rules.ensures.kept).0
