use Rattle.std.proofs.Common.{◌≡◌, ◌++◌, take}
use Rattle.channel_frame.specs.FrameSpelling.{headers_spelling}
use Rattle.channel_frame.proofs.encoding.push_headers.Given as goal

-- the headers before the index were written
abbrev pub invariant-headers : goal.invariant-headers
invariant-headers l = l.out.items ≡ l.initial.out.items ++ headers_spelling (take l.header-index l.headers)
