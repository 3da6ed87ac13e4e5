use Rattle.std.proofs.Common.{◌≡◌, ◌∙◌, sym}
use Rattle.channel_frame.specs.StreamReading.{headers_of}
use Rattle.channel_frame.proofs.HeaderLaws.{cut_header, header_from_cut, headers_go_on}
use Rattle.channel_frame.proofs.decoding.headers_from.Goals as goal

pub headers-preserved : goal.headers-preserved
headers-preserved c =
    let rest = c.headers.rest.now in
    let len = c.in-Some.len in
    let is : c.in_ok-header_of.field-0 ≡ cut_header len rest = rw c.split_at.ensures.front at c.in_ok-header_of.ensures ∙ sym (header_from_cut rest len c.in-Some.ensures.0) in
    rw (c.in_ok-push.ensures.items, c.split_at.ensures.back, is) (headers_go_on c.headers.items.items rest len (headers_of c.args.part.now) c.in-Some.ensures.0 c.in-Some.ensures.1 c.in-Some.ensures.2 c.headers.invariant)
