use Rattle.std.proofs.Common.{ℕ, List, ◌++◌, ap, ◌∙◌}
use Rattle.channel_frame.specs.FrameSpelling.{spelling}
use Rattle.frame_lines.specs.TextReading.{frame_of}
use Rattle.trace_lines.proofs.TakeLaws.{takes_frame}
use Rattle.trace_lines.proofs.turning.take_frame.Goals as goal

pub returns-in_ok-put_pieces-in-Opened : goal.returns-in_ok-put_pieces-in-Opened
returns-in_ok-put_pieces-in-Opened c =
    let line = c.args.line in
    let next = c.in-Opened.next in
    takes_frame c.args.session line c.args.seat next c.in_ok-then-in-Opened.then c.args.out.now.items c.put_pieces.new.out.items c.as_slice.result.now c.in-Opened.is
    (c.as_slice.ensures.value ∙ c.in_ok-then-in-Opened.ensures.bytes ∙ ap (λ (b : List ℕ). b ++ spelling (frame_of next line)) c.new-frame.ensures.items)
    c.in_ok-then-in-Opened.ensures.next c.in_ok-put_pieces-in-Opened.ensures
