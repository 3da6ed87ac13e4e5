use Rattle.std.proofs.lemmas.Result.{on_ok_weaker}
use Rattle.channel_frame.specs.FrameSpelling.{marker, number}
use Rattle.channel_frame.proofs.SpellingLaws.{five_pushed}
use Rattle.channel_frame.proofs.encoding.push_head.Goals as goal

pub returns : goal.returns
returns c =
    let h = c.args.head.now in
    on_ok_weaker c.push_number-4.result (λ e. five_pushed c.args.out.now.items marker (number h.content) (number h.sequence) (number h.headers_len) (number h.body_len)
    _ _ _ _ _ c.in_ok-extend_from_slice.ensures.items c.in_ok-push_number.ensures c.in_ok-push_number-2.ensures c.in_ok-push_number-3.ensures e) c.push_number-4.ensures
