use Rattle.std.proofs.Common.{◌≡◌, ℕ, refl, ap, arith, codes, Ok, Err, Result, [], ◌∷◌}
use Rattle.std.specs.Str.{is_utf8, chars}
use Rattle.serde_json.proofs.OnLiterals.{serde_json_on_literals}
use Rattle.ctrl_model.specs.declared.commands.Command.{Command}
use Rattle.ctrl_model.specs.declared.commands.Command.TheVariants as command
use Rattle.ctrl_model.specs.declared.refusals.Field.TheVariants as field
use Rattle.ctrl_model.specs.declared.refusals.Reason.TheVariants as reason
use Rattle.command_codec.specs.declared.reading.CodecFault.{CodecFault}
use Rattle.command_codec.specs.declared.reading.CodecFault.TheVariants.{BadBody}
use Rattle.codec_laws.proofs.worked.worked_spelled.Goals as goal

pub returns-clause-left_out : goal.returns-clause-left_out
unfolding serde_json_on_literals is_utf8 chars
returns-clause-left_out c = (c.what_a_body_spells.ensures.spells 1000 (codes "{\"name\":\"ann\"}") (command.CreateIdentity (codes "ann") [])).0 refl

pub returns-clause-of_hello : goal.returns-clause-of_hello
returns-clause-of_hello c = (c.what_a_body_spells.ensures.spells 0 (codes "abc") command.Hello).0 refl

other_service : ◌≡◌ {A = Result Command CodecFault} (Ok (command.CreateService (codes "ann") [])) (Ok (command.CreateIdentity (codes "ann") [])) → ⊥
other_service e = cc

pub returns-clause-other_type : goal.returns-clause-other_type
unfolding serde_json_on_literals is_utf8 chars
returns-clause-other_type c = λ spells. other_service ((c.what_a_body_spells.ensures.spells 1010 (codes "{\"name\":\"ann\"}") (command.CreateIdentity (codes "ann") [])).1 spells)

-- the first byte of the name of an identity that is deleted
first_of : Result Command CodecFault → ℕ
first_of (Ok (command.DeleteIdentity (x ∷ xs))) = x
first_of _ = 0

other_name : ◌≡◌ {A = Result Command CodecFault} (Ok (command.DeleteIdentity (codes "ann"))) (Ok (command.DeleteIdentity (codes "bob"))) → ⊥
unfolding first_of
other_name e = let first : ◌≡◌ {A = ℕ} 97 98 = ap first_of e in absurd (omega (arith, first))

pub returns-clause-other_value : goal.returns-clause-other_value
unfolding serde_json_on_literals is_utf8 chars
returns-clause-other_value c = λ spells. other_name ((c.what_a_body_spells.ensures.spells 1002 (codes "{\"name\":\"ann\"}") (command.DeleteIdentity (codes "bob"))).1 spells)

apart : (cause : CodecFault) (d : Command) → ◌≡◌ {A = Result Command CodecFault} (Err cause) (Ok d) → ⊥
apart cause d e = cc

pub returns-clause-other_key : goal.returns-clause-other_key
unfolding serde_json_on_literals is_utf8 chars
returns-clause-other_key c = λ spells.
    apart (BadBody field.Nothing reason.Unknown) (command.DeleteIdentity (codes "ann"))
    ((c.what_a_body_spells.ensures.spells 1002 (codes "{\"name\":\"ann\",\"x\":1}") (command.DeleteIdentity (codes "ann"))).1 spells)
