use Rattle.std.proofs.Common.{◌≡◌, true, false, not, Err, refl, sym, ap, ◌∙◌}
use Rattle.std.specs.Prelude.{is_some}
use Rattle.std.proofs.lemmas.Result.{err_from_is_err_and}
use Rattle.serde_json.specs.View.{view}
use Rattle.command_codec.specs.BodyObjects.{cause_of}
use Rattle.command_codec.proofs.FormLaws.{with_form, without_form}
use Rattle.command_codec.proofs.ValueLaws.{cause_memory, cause_supported, given_command, given_fault, given_spelled, given_supported, is_unsupported, not_empty, not_supported, said_in_vain}
use Rattle.command_codec.proofs.reading.read.Goals as goal

pub returns-then-is_none-clause-fault : goal.returns-then-is_none-clause-fault
returns-then-is_none-clause-fault c = λ other.
    let absent : is_some c.form_of.result ≡ false = c.is_none.ensures ∙ ap not c.if-is_none.true in
    is_unsupported c.args.content c.args.body.now c.if-content-eq-HELLO.false (without_form c.args.content c.form_of.result c.form_of.ensures absent)

pub returns-then-is_none-clause-unsupported : goal.returns-then-is_none-clause-unsupported
returns-then-is_none-clause-unsupported c =
    let absent : is_some c.form_of.result ≡ false = c.is_none.ensures ∙ ap not c.if-is_none.true in
    (λ e. is_unsupported c.args.content c.args.body.now c.if-content-eq-HELLO.false (without_form c.args.content c.form_of.result c.form_of.ensures absent), λ e. refl)

pub returns-in_err-value-clause-fault : goal.returns-in_err-value-clause-fault
returns-in_err-value-clause-fault c =
    let there : is_some c.form_of.result ≡ true = c.is_none.ensures ∙ ap not c.if-is_none.false in
    let p = err_from_is_err_and c.from_residual.result c.from_residual.ensures.1 in
    rw (p.1, p.2) (λ other.
    let told = c.in_err-value.ensures.fault (λ wanting. other (ap cause_of wanting)) in
    with_form c.args.content c.form_of.result c.form_of.ensures there (λ r at.
    said_in_vain c.args.content r c.args.body.now c.if-content-eq-HELLO.false at told.1 ∙ ap (λ f. Err (cause_of f)) (sym told.0)))

pub returns-in_err-value-clause-unsupported : goal.returns-in_err-value-clause-unsupported
returns-in_err-value-clause-unsupported c =
    let there : is_some c.form_of.result ≡ true = c.is_none.ensures ∙ ap not c.if-is_none.false in
    let p = err_from_is_err_and c.from_residual.result c.from_residual.ensures.1 in
    rw (p.1, p.2) (
      λ e. absurd (cause_supported c.in_err-value.field-0.0 e),
      λ e. with_form c.args.content c.form_of.result c.form_of.ensures there (λ r at.
          absurd (not_supported c.args.content r c.args.body.now c.if-content-eq-HELLO.false at e)),
    )

pub returns-in_err-value-clause-memory : goal.returns-in_err-value-clause-memory
returns-in_err-value-clause-memory c =
    let p = err_from_is_err_and c.from_residual.result c.from_residual.ensures.1 in
    rw (p.1, p.2) (λ wanting. c.in_err-value.ensures.memory (ap (λ f. Err f) (cause_memory c.in_err-value.field-0.0 wanting)))

pub returns-clause-command : goal.returns-clause-command
returns-clause-command c =
    given_command c.args.content c.args.body.now (view c.in_ok-value.value) c.read_value-command.result c.in_ok-value.ensures.value c.read_value-command.ensures.command

pub returns-clause-fault : goal.returns-clause-fault
returns-clause-fault c =
    given_fault c.args.content c.args.body.now (view c.in_ok-value.value) c.read_value-command.result c.in_ok-value.ensures.value c.read_value-command.ensures.fault

pub returns-clause-spelled : goal.returns-clause-spelled
returns-clause-spelled c =
    given_spelled c.args.content c.args.body.now (view c.in_ok-value.value) c.read_value-command.result c.in_ok-value.ensures.value c.read_value-command.ensures.command

pub returns-clause-unsupported : goal.returns-clause-unsupported
returns-clause-unsupported c =
    let there : is_some c.form_of.result ≡ true = c.is_none.ensures ∙ ap not c.if-is_none.false in
    with_form c.args.content c.form_of.result c.form_of.ensures there (λ r at.
    given_supported c.args.content r c.args.body.now (view c.in_ok-value.value) c.read_value-command.result c.if-content-eq-HELLO.false at c.in_ok-value.ensures.value
    c.read_value-command.ensures.fault)

pub returns-clause-memory : goal.returns-clause-memory
returns-clause-memory c = λ wanting. not_empty c.args.body.now (view c.in_ok-value.value) c.in_ok-value.ensures.value
