use Rattle.std.proofs.Common.{◌≡◌, Err, sym, ap, ◌∙◌}
use Rattle.std.specs.Prelude.{option_map}
use Rattle.std.proofs.lemmas.Result.{err_from_is_err_and}
use Rattle.serde_json.specs.View.{view}
use Rattle.json_body.specs.declared.fields.FieldFault.TheVariants as fault
use Rattle.json_body.specs.FieldKinds.{object_of}
use Rattle.command_codec.specs.FormRules.{form_asks}
use Rattle.command_codec.specs.BodyObjects.{cause_of, with_cause}
use Rattle.command_codec.proofs.FormLaws.{no_row, with_row}
use Rattle.command_codec.proofs.ValueLaws.{cause_memory, said_of_none, said_some, said_value, value_unsupported}
use Rattle.command_codec.proofs.reading.read_value.Goals as goal

pub returns-in_default-clause-fault : goal.returns-in_default-clause-fault
returns-in_default-clause-fault c = λ other.
    value_unsupported c.args.content (view c.args.value.now) c.if-content-eq-HELLO.false
    (no_row c.args.content (sym (ap (option_map form_asks) c.in_default.is) ∙ c.form_of.ensures))

pub judged_command-requires : goal.judged_command-requires
judged_command-requires c = sym (ap (option_map form_asks) c.in-Some.is) ∙ c.form_of.ensures

pub returns-in_err-fields-clause-fault : goal.returns-in_err-fields-clause-fault
returns-in_err-fields-clause-fault c =
    let p = err_from_is_err_and c.from_residual.result c.from_residual.ensures.1 in
    rw (p.1, p.2) (λ other.
    with_row c.args.content (form_asks c.in-Some.form) (sym (ap (option_map form_asks) c.in-Some.is) ∙ c.form_of.ensures) (λ r at same.
    said_of_none c.args.content r (view c.args.value.now) c.if-content-eq-HELLO.false at c.in_err-fields.ensures.fault.1
    ∙ ap (λ f. Err (cause_of f)) (sym c.in_err-fields.ensures.fault.0)))

pub returns-in_err-fields-clause-memory : goal.returns-in_err-fields-clause-memory
returns-in_err-fields-clause-memory c =
    let p = err_from_is_err_and c.from_residual.result c.from_residual.ensures.1 in
    rw (p.1, p.2) (λ wanting.
    let memory : c.in_err-fields.field-0.0 ≡ fault.NoMemory = cause_memory c.in_err-fields.field-0.0 wanting in
    let none : fault.NotObject ≡ fault.NoMemory = sym c.in_err-fields.ensures.fault.0 ∙ memory in
    absurd (cc))

pub returns-in_err-judged_command-clause-fault : goal.returns-in_err-judged_command-clause-fault
returns-in_err-judged_command-clause-fault c =
    let p = err_from_is_err_and c.from_residual-in_err-judged_command.result c.from_residual-in_err-judged_command.ensures.1 in
    rw (p.1, p.2) (λ other.
    with_row c.args.content (form_asks c.in-Some.form) (sym (ap (option_map form_asks) c.in-Some.is) ∙ c.form_of.ensures) (λ r at same.
    said_value c.args.content r (view c.args.value.now) (object_of c.in_ok-fields.fields) c.if-content-eq-HELLO.false at c.in_ok-fields.ensures.object.0
    c.in_ok-fields.ensures.object.1 ∙ ap with_cause (c.in_err-judged_command.ensures.given (λ wanting. other (ap cause_of wanting)))))

pub returns-in_err-judged_command-clause-memory : goal.returns-in_err-judged_command-clause-memory
returns-in_err-judged_command-clause-memory c =
    let p = err_from_is_err_and c.from_residual-in_err-judged_command.result c.from_residual-in_err-judged_command.ensures.1 in
    rw (p.1, p.2) (λ wanting.
    with_row c.args.content (form_asks c.in-Some.form) (sym (ap (option_map form_asks) c.in-Some.is) ∙ c.form_of.ensures) (λ r at same.
    said_some c.args.content r (view c.args.value.now) (object_of c.in_ok-fields.fields) c.if-content-eq-HELLO.false at c.in_ok-fields.ensures.object.0
    c.in_ok-fields.ensures.object.1 (c.in_err-judged_command.ensures.memory (ap (λ f. Err f) (cause_memory c.in_err-judged_command.field-0.0 wanting)))))

pub returns-clause-command : goal.returns-clause-command
returns-clause-command c =
    with_row c.args.content (form_asks c.in-Some.form) (sym (ap (option_map form_asks) c.in-Some.is) ∙ c.form_of.ensures) (λ r at same.
    said_value c.args.content r (view c.args.value.now) (object_of c.in_ok-fields.fields) c.if-content-eq-HELLO.false at c.in_ok-fields.ensures.object.0
    c.in_ok-fields.ensures.object.1 ∙ ap with_cause c.in_ok-judged_command.ensures.given)
