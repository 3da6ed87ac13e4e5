-- Pieces of the worked examples (docs/FORMATS.md, "Channel frame").
use Rattle.std.specs.Prelude.{take, drop}
use Rattle.channel_frame.specs.SessionBytes.{SessionBytes, no_bytes, with_more, settled}
use Rattle.channel_frame.specs.WorkedFrames.{ann_bytes, unmarked_bytes}

-- A session whose first 20 bytes of the worked frame have come.
abbrev pub head_came : SessionBytes
head_came = settled (with_more no_bytes (take 20 ann_bytes))

-- The other 14 bytes have come too.
abbrev pub frame_came : SessionBytes
frame_came = with_more head_came (drop 20 ann_bytes)

-- Behind the frame bytes came that begin with another marker.
abbrev pub fault_came : SessionBytes
fault_came = with_more (settled frame_came) unmarked_bytes

-- Behind these a whole frame came.
abbrev pub more_came : SessionBytes
more_came = with_more (settled fault_came) ann_bytes
