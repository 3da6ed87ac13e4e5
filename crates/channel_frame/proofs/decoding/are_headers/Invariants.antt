use Rattle.std.proofs.Common.{◌≡◌, length}
use Rattle.std.specs.Prelude.{is_some}
use Rattle.channel_frame.specs.StreamReading.{headers_of}
use Rattle.channel_frame.proofs.decoding.are_headers.Given as goal

-- whether the rest is a row of headers says it of all the bytes
abbrev pub invariant-headers : goal.invariant-headers
invariant-headers l = is_some (headers_of l.rest) ≡ is_some (headers_of l.part)

abbrev pub decreases-headers : goal.decreases-headers
decreases-headers l = length l.rest
