use Rattle.std.proofs.Common.{◌≡◌, ◌++◌, take}
use Rattle.std.specs.List.{flat_map, AllByRecursion}
use Rattle.reply_codec.specs.ReplyTokens.{member_tokens}
use Rattle.reply_codec.proofs.TokenLaws.{IsShort}
use Rattle.reply_codec.proofs.members.put_object.Given as goal

-- the members before the index are written, and the texts of their values are short
abbrev pub invariant-members : goal.invariant-members
invariant-members l = record {
  written : l.writer.tokens ≡ l.initial.writer.tokens ++ flat_map member_tokens (take l.member-index l.members);
  before : l.writer.before ≡ l.initial.writer.before;
  short : AllByRecursion IsShort (take l.member-index l.members);
}
