use Rattle.std.proofs.Common.{◌≡◌, ◌+◌, ◌*◌, ◌≤◌, ◌++◌, false, length, map, take}
use Rattle.std.specs.List.{flat_map}
use Rattle.serde_json.specs.View.{items_of}
use Rattle.serde_json.specs.Written.{items_text}
use Rattle.reply_codec.specs.ReplyTokens.{tokens_of}
use Rattle.reply_codec.proofs.spelled.put_list.Given as goal

-- the items before the index are written, and their text is short
abbrev pub invariant-items : goal.invariant-items
invariant-items g l = record {
  written : l.writer.tokens ≡ l.initial.writer.tokens ++ flat_map (λ x. tokens_of (g.T.Spelled.spelled x)) (take l.item-index l.items);
  before : l.writer.before ≡ l.initial.writer.before;
  few : length (items_text false (items_of (map g.T.Spelled.spelled (take l.item-index l.items)))) ≤ 1 + (1 + g.T.Spelled.most) * l.item-index;
}
