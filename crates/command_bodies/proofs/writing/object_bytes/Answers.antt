use Rattle.std.proofs.Common.{◌≡◌, ◌≤◌, false, Some, sym, ap, ◌∙◌, subst}
use Rattle.serde_json.specs.Data.{no_members, depth}
use Rattle.serde_json.specs.Read.{read}
use Rattle.serde_json.specs.View.{view}
use Rattle.serde_json.specs.Written.{has_float, compact_text}
use Rattle.command_codec.specs.BodyObjects.{object_of_body}
use Rattle.command_bodies.specs.BodyTexts.{body_object}
use Rattle.command_bodies.specs.CommandFields.{fields_of}
use Rattle.command_bodies.specs.WrittenFields.{with_fields}
use Rattle.command_bodies.proofs.PlainObjects.{body_object-plain, body_object-shallow}
use Rattle.command_bodies.proofs.ReadBack.{body_of_text}
use Rattle.command_bodies.proofs.writing.object_bytes.Goals as goal

pub returns-clause-text : goal.returns-clause-text
returns-clause-text c =
    let plain : has_float (view c.in_ok-value.value) ≡ false = ap has_float c.in_ok-value.ensures ∙ body_object-plain c.args.command.now in
    c.of.ensures ∙ c.in_ok-bytes.ensures.text plain ∙ ap compact_text c.in_ok-value.ensures

pub returns-clause-reads : goal.returns-clause-reads
returns-clause-reads c =
    let shallow : depth (view c.in_ok-value.value) ≤ 127 = subst (λ d. depth d ≤ 127) (sym c.in_ok-value.ensures) (body_object-shallow c.args.command.now) in
    let same : read c.in_ok-bytes.bytes.items ≡ Some (body_object c.args.command.now) = c.in_ok-bytes.ensures.reads_back shallow ∙ ap (λ d. Some d) c.in_ok-value.ensures in
    ap object_of_body c.of.ensures ∙ body_of_text c.in_ok-bytes.bytes.items (with_fields (fields_of c.args.command.now) no_members) c.in_ok-bytes.ensures.utf8 same
