use Rattle.std.proofs.Common.{◌≤◌, length-append, arith, codes, leb-true, length, map}
use Rattle.std.proofs.lemmas.Bool.{and_parts}
use Rattle.std.proofs.lemmas.Result.{on_ok_weaker}
use Rattle.json.specs.Token.{begin_object, end_object, key}
use Rattle.serde_json.proofs.OnLiterals.{serde_json_on_literals}
use Rattle.serde_json.specs.Data.{array}
use Rattle.serde_json.specs.View.{items_of}
use Rattle.serde_json.specs.Written.{compact_text}
use Rattle.reply_codec.specs.ReplyBody.{natural, cost_or_null, reach_object}
use Rattle.reply_codec.specs.ReplyTokens.{tokens_of}
use Rattle.reply_codec.proofs.TokenLaws.{written_entry}
use Rattle.reply_codec.proofs.lists.put_reach.Goals as goal

pub returns-clause-written : goal.returns-clause-written
returns-clause-written c =
    on_ok_weaker c.end_object.result
    (written_entry begin_object end_object (key (codes "router")) (key (codes "values")) (tokens_of (natural c.args.reach.now.router.0)) (tokens_of (array (items_of (map cost_or_null c.args.reach.now.values)))) c.args.writer.now.tokens
    _ _ _ _ _ _ c.in_ok-begin_object.ensures.ok c.in_ok-key.ensures.ok c.in_ok-put_number.ensures.written c.in_ok-key-2.ensures.ok c.in_ok-put_costs.ensures.written)
    c.end_object.ensures.ok

pub returns-clause-few : goal.returns-clause-few
unfolding serde_json_on_literals
returns-clause-few c =
    let short : length (compact_text (reach_object c.args.reach.now)) ≤ 2999 =
    simp length-append (omega (arith, c.in_ok-put_number.ensures.few, c.in_ok-put_costs.ensures.few, leb-true (length c.args.reach.now.values) 256 (and_parts _ _ c.requires).0)) in
    on_ok_weaker c.end_object.result (λ _. short) c.end_object.ensures.ok
