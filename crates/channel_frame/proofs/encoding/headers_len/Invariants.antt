use Rattle.std.proofs.Common.{◌≡◌, length, take}
use Rattle.channel_frame.specs.FrameSpelling.{headers_spelling}
use Rattle.channel_frame.proofs.encoding.headers_len.Given as goal

-- the length is that of the headers before the index
abbrev pub invariant-headers : goal.invariant-headers
invariant-headers l = l.len ≡ length (headers_spelling (take l.header-index l.headers))
