use Rattle.std.proofs.Common.{refl, ap, ◌∙◌, get_or, map, arith}
use Rattle.std.proofs.lemmas.List.{take_all}
use Rattle.serde_json.proofs.Views.{view-Array}
use Rattle.serde_json.specs.Data.{array}
use Rattle.serde_json.specs.View.{view, items_of}
use Rattle.reply_codec.specs.ReplyBody.{natural}
use Rattle.reply_codec.proofs.BuiltLists.{pushed}
use Rattle.reply_codec.proofs.TextLengths.{items_before, length-natural}
use Rattle.reply_codec.proofs.lists.numbers_value.Goals as goal

pub numbers-preserved : goal.numbers-preserved
numbers-preserved c =
    let ns = c.as_slice-number-items.result.now in
    let at = c.numbers.number-index in
    record {
      same = pushed view natural c.numbers.values.items c.push.new.self.items _ ns ns at 0 refl c.numbers-test.true c.in_ok-push.ensures.items c.from.ensures c.numbers.invariant.same;
      few = items_before natural ns ns 10 11 at 0 refl c.numbers-test.true (length-natural (get_or ns at 0) (omega (arith, c.type_inv.number-items at))) refl c.numbers.invariant.few;
    }

pub returns-clause-value : goal.returns-clause-value
returns-clause-value c =
    view-Array c.numbers.values
    ∙ ap (λ ds. array (items_of ds)) (c.numbers.invariant.same ∙ ap (map natural) (take_all c.numbers.number-index c.as_slice-number-items.result.now c.numbers-test.false ∙ c.as_slice-number-items.ensures))
