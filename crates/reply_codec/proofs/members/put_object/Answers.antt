use Rattle.std.proofs.Common.{◌++◌, sym, ap, ◌∙◌, subst, arith}
use Rattle.std.proofs.lemmas.List.{take_all}
use Rattle.std.proofs.lemmas.Result.{on_ok_weaker}
use Rattle.std.specs.List.{flat_map, AllByRecursion}
use Rattle.json.specs.Token.{begin_object, end_object}
use Rattle.reply_codec.specs.ReplyTokens.{member_tokens}
use Rattle.reply_codec.proofs.TokenLaws.{IsShort, length-object, short_more, tokens_of_object, written_more, written_whole}
use Rattle.reply_codec.proofs.members.put_object.Goals as goal

pub members-preserved : goal.members-preserved
members-preserved c = record {
  written = written_more member_tokens c.args.members.now c.members.member-index c.member-item.result c.begin_object.new.self.tokens c.members.writer.tokens c.put_member.new.writer.tokens c.members-test.true
      (c.in_ok-put_member.ensures.written ∙ ap (λ m. c.members.writer.tokens ++ member_tokens m) c.member-item.is) c.members.invariant.written;
  before = c.in_ok-put_member.ensures.before ∙ c.members.invariant.before;
  short = short_more c.args.members.now c.members.member-index c.member-item.result c.members-test.true (subst IsShort c.member-item.is c.in_ok-put_member.ensures.few) c.members.invariant.short;
}

pub returns-clause-written : goal.returns-clause-written
returns-clause-written c =
    on_ok_weaker c.end_object.result
    (λ closed. written_whole begin_object end_object (flat_map member_tokens c.args.members.now) c.args.writer.now.tokens c.begin_object.new.self.tokens c.members.writer.tokens _ c.in_ok-begin_object.ensures.ok
    (c.members.invariant.written ∙ ap (λ ms. c.begin_object.new.self.tokens ++ flat_map member_tokens ms) (take_all c.members.member-index c.args.members.now (omega (arith, c.members-test.false)))) closed
    ∙ ap (λ ts. c.args.writer.now.tokens ++ ts) (sym (tokens_of_object c.args.members.now)))
    c.end_object.ensures.ok

pub returns-clause-few : goal.returns-clause-few
returns-clause-few c =
    on_ok_weaker c.end_object.result (λ _. length-object c.args.members.now (subst (AllByRecursion IsShort) (take_all c.members.member-index c.args.members.now (omega (arith, c.members-test.false))) c.members.invariant.short))
    c.end_object.ensures.ok
