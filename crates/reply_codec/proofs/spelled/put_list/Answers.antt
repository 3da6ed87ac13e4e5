use Rattle.std.proofs.Common.{◌≤◌, ◌++◌, length, refl, sym, ap, ◌∙◌, subst, arith}
use Rattle.std.proofs.lemmas.List.{take_all}
use Rattle.std.proofs.lemmas.Result.{on_ok_weaker}
use Rattle.std.specs.List.{flat_map}
use Rattle.json.specs.Token.{begin_array, end_array}
use Rattle.serde_json.specs.Written.{compact_text}
use Rattle.reply_codec.specs.ReplyTokens.{tokens_of}
use Rattle.reply_codec.proofs.TextLengths.{items_before}
use Rattle.reply_codec.proofs.TokenLaws.{tokens_of_list, written_more, written_whole}
use Rattle.reply_codec.proofs.spelled.put_list.Goals as goal

pub items-preserved : goal.items-preserved
items-preserved g c = record {
  written = written_more (λ x. tokens_of (g.T.Spelled.spelled x)) c.args.items.now c.items.item-index c.item-item.result c.begin_array.new.self.tokens c.items.writer.tokens c.put.new.writer.tokens c.items-test.true
      (c.in_ok-put.ensures.written ∙ ap (λ x. c.items.writer.tokens ++ tokens_of (g.T.Spelled.spelled x)) c.item-item.is) c.items.invariant.written;
  before = c.in_ok-put.ensures.before ∙ c.items.invariant.before;
  few = items_before g.T.Spelled.spelled c.args.items.now c.args.items.now g.T.Spelled.most _ c.items.item-index c.item-item.result refl c.items-test.true (subst (λ x. length (compact_text (g.T.Spelled.spelled x)) ≤ g.T.Spelled.most) c.item-item.is c.in_ok-put.ensures.few) refl c.items.invariant.few;
}

pub returns-clause-written : goal.returns-clause-written
returns-clause-written g c =
    on_ok_weaker c.end_array.result
    (λ closed. written_whole begin_array end_array (flat_map (λ x. tokens_of (g.T.Spelled.spelled x)) c.args.items.now) c.args.writer.now.tokens c.begin_array.new.self.tokens c.items.writer.tokens _ c.in_ok-begin_array.ensures.ok
    (c.items.invariant.written ∙ ap (λ xs. c.begin_array.new.self.tokens ++ flat_map (λ x. tokens_of (g.T.Spelled.spelled x)) xs) (take_all c.items.item-index c.args.items.now (omega (arith, c.items-test.false)))) closed
    ∙ ap (λ ts. c.args.writer.now.tokens ++ ts) (sym (tokens_of_list g.T.Spelled.spelled c.args.items.now)))
    c.end_array.ensures.ok
