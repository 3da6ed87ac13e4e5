use Rattle.std.proofs.Common.{sym, subst}
use Rattle.std.specs.Str.{IsUtf8}
use Rattle.command_bodies.proofs.TextForms.{is_ok_where, IsUtf8-instance}
use Rattle.command_bodies.proofs.spelling.instance_text.Goals as goal

pub unwrap-requires : goal.unwrap-requires
unwrap-requires c =
    let text : IsUtf8 c.bytes.result.now = subst IsUtf8 (sym c.bytes.ensures.value) (IsUtf8-instance c.args.instance.now c.bytes.ensures.form) in
    is_ok_where _ _ c.from_utf8.result text c.from_utf8.ensures.cases
