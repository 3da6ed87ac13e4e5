use Rattle.std.proofs.Common.{◌≡◌, ◌+◌, ◌*◌, ◌≤◌, false, length, map, take}
use Rattle.serde_json.specs.View.{view, items_of}
use Rattle.serde_json.specs.Written.{items_text}
use Rattle.reply_codec.specs.ReplyBody.{natural}
use Rattle.reply_codec.proofs.lists.numbers_value.Given as goal

-- the values are those of the numbers before the index, and their text is short
abbrev pub invariant-numbers : goal.invariant-numbers
invariant-numbers l = record {
  same : map view l.values.items ≡ map natural (take l.number-index l.number-items);
  few : length (items_text false (items_of (map natural (take l.number-index l.number-items)))) ≤ 1 + 11 * l.number-index;
}
