use Rattle.std.proofs.Common.{sym, subst}
use Rattle.std.specs.Str.{IsUtf8}
use Rattle.reply_codec.proofs.NameTexts.{is_ok_where, IsUtf8-name, length-name}
use Rattle.reply_codec.proofs.lists.name_text.Goals as goal

pub unwrap-requires : goal.unwrap-requires
unwrap-requires c =
    let text : IsUtf8 c.bytes.result.now = subst IsUtf8 (sym c.bytes.ensures.value) (IsUtf8-name c.args.name.now c.bytes.ensures.form) in
    is_ok_where _ _ c.from_utf8.result text c.from_utf8.ensures.cases

pub returns-clause-few : goal.returns-clause-few
returns-clause-few c = length-name c.args.name.now c.bytes.ensures.form
