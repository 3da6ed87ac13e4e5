use Rattle.std.proofs.Common.{◌≡◌, true, false, Some, ◌∙◌, arith}
use Rattle.std.specs.Prelude.{is_some}
use Rattle.channel_frame.specs.declared.frames.FrameFault.TheVariants.{BadHeaders}
use Rattle.channel_frame.specs.StreamReading.{headers_of}
use Rattle.channel_frame.proofs.NumberLaws.{AreBytes-from}
use Rattle.channel_frame.proofs.HeaderLaws.{none_from}
use Rattle.channel_frame.proofs.FrontLaws.{Cut, reads_whole, reads_bad, alone_spelled, alone_read, bad_unspelled, row_stands}
use Rattle.channel_frame.proofs.decoding.read_frame_with.Goals as goal

pub returns-then-not-are_headers-clause-read : goal.returns-then-not-are_headers-clause-read
returns-then-not-are_headers-clause-read c = λ f is spelled.
    let cut : Cut c.args.bytes.now c.split_at.result.1.now c.split_at-2.result.0.now c.args.head = record {
      is_head = c.requires.head;
      whole = c.requires.all;
      behind = c.split_at.ensures.back;
      row = c.split_at-2.ensures.front;
    } in
    let no : is_some (headers_of c.split_at-2.result.0.now) ≡ false = cc in
    absurd (bad_unspelled c.args.bytes.now f BadHeaders (reads_bad c.args.bytes.now _ _ c.args.head cut (none_from (headers_of c.split_at-2.result.0.now) no)) is spelled)

pub returns-in_err-headers-clause-memory : goal.returns-in_err-headers-clause-memory
returns-in_err-headers-clause-memory c = λ e.
    let cut : Cut c.args.bytes.now c.split_at.result.1.now c.split_at-2.result.0.now c.args.head = record {
      is_head = c.requires.head;
      whole = c.requires.all;
      behind = c.split_at.ensures.back;
      row = c.split_at-2.ensures.front;
    } in
    let yes : is_some (headers_of c.split_at-2.result.0.now) ≡ true = cc in
    row_stands c.args.bytes.now c.split_at.result.1.now c.split_at-2.result.0.now c.args.head cut yes

pub returns-in_err-body-clause-memory : goal.returns-in_err-body-clause-memory
returns-in_err-body-clause-memory c = λ e.
    let cut : Cut c.args.bytes.now c.split_at.result.1.now c.split_at-2.result.0.now c.args.head = record {
      is_head = c.requires.head;
      whole = c.requires.all;
      behind = c.split_at.ensures.back;
      row = c.split_at-2.ensures.front;
    } in
    let yes : is_some (headers_of c.split_at-2.result.0.now) ≡ true = cc in
    row_stands c.args.bytes.now c.split_at.result.1.now c.split_at-2.result.0.now c.args.head cut yes

pub returns-clause-whole : goal.returns-clause-whole
returns-clause-whole c =
    let cut : Cut c.args.bytes.now c.split_at.result.1.now c.split_at-2.result.0.now c.args.head = record {
      is_head = c.requires.head;
      whole = c.requires.all;
      behind = c.split_at.ensures.back;
      row = c.split_at-2.ensures.front;
    } in
    let some : headers_of c.split_at-2.result.0.now ≡ Some c.in_ok-headers.headers = c.in_ok-headers.ensures in
    reads_whole c.args.bytes.now c.split_at.result.1.now c.split_at-2.result.0.now c.in_ok-body.body c.args.head c.in_ok-headers.headers cut some (c.in_ok-body.ensures ∙ c.split_at-2.ensures.back)

pub returns-clause-spelled : goal.returns-clause-spelled
returns-clause-spelled c = alone_spelled c.args.bytes.now _ (AreBytes-from c.args.bytes.now (λ i. omega (arith, c.type_inv.bytes i))) (returns-clause-whole c)

pub returns-clause-read : goal.returns-clause-read
returns-clause-read c = λ f is spelled. alone_read c.args.bytes.now f _ (returns-clause-whole c) is spelled
