use Rattle.std.proofs.Common.{sym, subst}
use Rattle.std.specs.Str.{IsUtf8}
use Rattle.reply_codec.proofs.AddressTexts.{IsUtf8-spelling}
use Rattle.command_bodies.proofs.TextForms.{is_ok_where}
use Rattle.command_bodies.proofs.spelling.address_text.Goals as goal

pub unwrap-requires : goal.unwrap-requires
unwrap-requires c =
    let text : IsUtf8 c.as_slice.result.now = subst IsUtf8 (sym c.as_slice.ensures) (IsUtf8-spelling c.args.spelling.now c.requires) in
    is_ok_where _ _ c.from_utf8.result text c.from_utf8.ensures.cases
