use Rattle.std.proofs.Common.{◌≡◌, length}
use Rattle.channel_frame.specs.StreamReading.{headers_of, with_front}
use Rattle.channel_frame.proofs.decoding.headers_from.Given as goal

-- the headers so far, and what the rest is read as, are what all the bytes are read as
abbrev pub invariant-headers : goal.invariant-headers
invariant-headers l = with_front l.items.items (headers_of l.rest) ≡ headers_of l.part

abbrev pub decreases-headers : goal.decreases-headers
decreases-headers l = length l.rest
