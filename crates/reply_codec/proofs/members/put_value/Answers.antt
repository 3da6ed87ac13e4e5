use Rattle.std.proofs.Common.{◌≡◌, ℕ, ◌+◌, ◌*◌, ◌≤◌, nat_le, true, List, length, subst, lit≤, arith, leb-true}
use Rattle.std.proofs.lemmas.Result.{on_ok_weaker}
use Rattle.serde_json.specs.Data.{string}
use Rattle.serde_json.specs.Written.{compact_text}
use Rattle.ctrl_model.specs.Words.{word_of}
use Rattle.reply_codec.specs.ReplyBody.{kind_word, reason_word}
use Rattle.reply_codec.specs.ReplyTokens.{fits}
use Rattle.reply_codec.proofs.BuiltLists.{none_asked}
use Rattle.reply_codec.proofs.TextLengths.{length-string, length-wide_natural}
use Rattle.reply_codec.proofs.WordLengths.{length-kind, length-reason, length-word}
use Rattle.reply_codec.proofs.members.put_value.Goals as goal

pub put_list-requires : goal.put_list-requires
put_list-requires c = none_asked c.as_slice.result.now

pub put_list-requires-in-Names : goal.put_list-requires-in-Names
put_list-requires-in-Names c = none_asked c.as_slice-in-Names.result.now

pub put_list-requires-in-Tallies : goal.put_list-requires-in-Tallies
put_list-requires-in-Tallies c = none_asked c.as_slice-in-Tallies.result.now

short_text : (s : List ℕ) (n m : ℕ) → length s ≤ n → 6 * n + 2 ≤ m → length (compact_text (string s)) ≤ m
short_text s n m few bound = omega (arith, length-string s, few, bound)

pub returns-in-Count-clause-few : goal.returns-in-Count-clause-few
returns-in-Count-clause-few c = on_ok_weaker c.u64.result (λ _. rw c.in-Count.is (length-wide_natural c.in-Count.count (omega arith))) c.u64.ensures.ok

pub returns-in-Word-clause-few : goal.returns-in-Word-clause-few
returns-in-Word-clause-few c =
    let few : nat_le (length c.in-Word.word.now) 64 ≡ true = subst (λ v. fits v ≡ true) c.in-Word.is c.requires in
    on_ok_weaker c.string.result (λ _. rw c.in-Word.is (short_text c.in-Word.word.now 64 386 (leb-true (length c.in-Word.word.now) 64 few) (lit≤ tt))) c.string.ensures.ok

pub returns-in-Kind-clause-few : goal.returns-in-Kind-clause-few
returns-in-Kind-clause-few c =
    on_ok_weaker c.string-in-Kind.result (λ _. rw c.in-Kind.is (short_text (kind_word c.in-Kind.kind) 26 386 (length-kind c.in-Kind.kind) (lit≤ tt))) c.string-in-Kind.ensures.ok

pub returns-in-Field-clause-few : goal.returns-in-Field-clause-few
returns-in-Field-clause-few c =
    on_ok_weaker c.string-in-Field.result (λ _. rw c.in-Field.is (short_text (word_of c.in-Field.field) 14 386 (length-word c.in-Field.field) (lit≤ tt))) c.string-in-Field.ensures.ok

pub returns-in-Reason-clause-few : goal.returns-in-Reason-clause-few
returns-in-Reason-clause-few c =
    on_ok_weaker c.string-in-Reason.result (λ _. rw c.in-Reason.is (short_text (reason_word c.in-Reason.reason) 9 386 (length-reason c.in-Reason.reason) (lit≤ tt))) c.string-in-Reason.ensures.ok

pub returns-in-Name-clause-few : goal.returns-in-Name-clause-few
returns-in-Name-clause-few c =
    on_ok_weaker c.string-in-Name.result (λ _. rw c.in-Name.is (short_text c.in-Name.name.now 64 386 c.name_text.ensures.few (lit≤ tt))) c.string-in-Name.ensures.ok

pub returns-in-Address-clause-few : goal.returns-in-Address-clause-few
returns-in-Address-clause-few c =
    on_ok_weaker c.string-in-Address.result (λ _. rw c.in-Address.is (short_text c.in-Address.address.now 255 1532 c.address_text.ensures.few (lit≤ tt))) c.string-in-Address.ensures.ok
