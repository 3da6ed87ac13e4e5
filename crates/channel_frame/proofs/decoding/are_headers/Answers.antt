use Rattle.std.proofs.Common.{◌∙◌}
use Rattle.channel_frame.proofs.HeaderLaws.{some_behind}
use Rattle.channel_frame.proofs.decoding.are_headers.Goals as goal

pub headers-preserved : goal.headers-preserved
headers-preserved c =
    rw c.split_at.ensures.back (some_behind c.headers.rest.now c.in-Some.len c.in-Some.ensures.0 c.in-Some.ensures.1 c.in-Some.ensures.2 ∙ c.headers.invariant)
