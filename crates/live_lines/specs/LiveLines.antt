-- What is told as it comes (docs/FORMATS.md, "Lines as they come").
use Rattle.frame_lines.specs.LineKinds.{Reading}
use Rattle.frame_lines.specs.TextTelling.{framed}
use Rattle.trace_lines.specs.TaggedReplies.{tagged}
use Rattle.live_lines.specs.declared.kinds.Kind.{Kind}
use Rattle.live_lines.specs.declared.kinds.Kind.TheVariants.{Frames, Replies}

-- Bytes read as frames, or as tagged replies.
abbrev pub reading_of : Kind → Reading
reading_of Frames = framed
reading_of Replies = tagged
