use Rattle.std.proofs.Common.{◌≡◌, refl, codes, Ok, Err, Result, []}
use Rattle.std.specs.Str.{is_utf8, chars}
use Rattle.serde_json.proofs.OnLiterals.{serde_json_on_literals}
use Rattle.ctrl_model.specs.declared.commands.Command.{Command}
use Rattle.ctrl_model.specs.declared.commands.Command.TheVariants as command
use Rattle.ctrl_model.specs.declared.refusals.Field.TheVariants as field
use Rattle.ctrl_model.specs.declared.refusals.Reason.TheVariants as reason
use Rattle.command_codec.specs.declared.reading.CodecFault.{CodecFault}
use Rattle.command_codec.specs.declared.reading.CodecFault.TheVariants.{UnsupportedType, BadBody}
use Rattle.codec_laws.proofs.worked.worked_first_causes.Goals as goal

apart : (d : Command) (cause : CodecFault) → ◌≡◌ {A = Result Command CodecFault} (Ok d) (Err cause) → ⊥
apart d cause e = cc

pub returns-clause-missing : goal.returns-clause-missing
unfolding serde_json_on_literals is_utf8 chars
returns-clause-missing c = (c.the_first_cause.ensures.first 1000 (codes "{\"x\":1,\"attributes\":7}") (BadBody field.Name reason.Missing)).0 refl

pub returns-clause-wrong : goal.returns-clause-wrong
unfolding serde_json_on_literals is_utf8 chars
returns-clause-wrong c = (c.the_first_cause.ensures.first 1000 (codes "{\"x\":1,\"attributes\":7,\"name\":\"ann\"}") (BadBody field.Attributes reason.WrongKind)).0 refl

pub returns-clause-another : goal.returns-clause-another
unfolding serde_json_on_literals is_utf8 chars
returns-clause-another c = (c.the_first_cause.ensures.first 1000 (codes "{\"x\":1,\"name\":\"ann\"}") (BadBody field.Nothing reason.Unknown)).0 refl

pub returns-clause-no_object : goal.returns-clause-no_object
unfolding serde_json_on_literals is_utf8 chars
returns-clause-no_object c = (c.the_first_cause.ensures.first 1503 (codes "[1]") (BadBody field.Nothing reason.NotObject)).0 refl

pub returns-clause-no_type : goal.returns-clause-no_type
unfolding serde_json_on_literals is_utf8 chars
returns-clause-no_type c = (c.the_first_cause.ensures.first 1511 (codes "{}") UnsupportedType).0 refl

pub returns-clause-none : goal.returns-clause-none
unfolding serde_json_on_literals is_utf8 chars
returns-clause-none c = λ is.
    apart (command.CreateIdentity (codes "ann") []) (BadBody field.Attributes reason.Missing)
    ((c.the_first_cause.ensures.first 1000 (codes "{\"name\":\"ann\"}") (BadBody field.Attributes reason.Missing)).1 is)

pub returns-clause-of_hello : goal.returns-clause-of_hello
unfolding serde_json_on_literals is_utf8 chars
returns-clause-of_hello c = λ is. apart command.Hello (BadBody field.Nothing reason.NotObject) ((c.the_first_cause.ensures.first 0 (codes "abc") (BadBody field.Nothing reason.NotObject)).1 is)
