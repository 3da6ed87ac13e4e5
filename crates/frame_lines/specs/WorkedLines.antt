-- Texts and lines of the worked examples (docs/FORMATS.md, "Lines for people").
use Rattle.std.specs.Prelude.{ℕ, List, [], ◌∷◌, ◌++◌, codes, replicate}
use Rattle.channel_frame.specs.declared.frames.Frame.{Frame}
use Rattle.channel_frame.specs.WorkedFrames.{ann_frame, reply_frame}

-- A line that asks for an identity.
abbrev pub ann_line : List ℕ
ann_line = codes "7 CreateIdentity {\"name\":\"ann\"}"

-- A text of nine lines: a remark, a line with a sequence number of its own, an empty one, one that ends in a carriage return, one of
-- spaces and a remark, two that count on, and one whose name is none of a content type.
abbrev pub nine_lines : List ℕ
nine_lines = codes "# ann\n7 CreateIdentity {\"name\":\"ann\"}\n\nHello\r\n  # more\n4294967295 1502 {}\nHello x y\nHelo\nHello\n"

-- The four frames that it says before its fault.
abbrev pub four_frames : List Frame
four_frames =
    ann_frame
    ∷ record { content = 0; sequence = 8; headers = []; body = [] }
    ∷ record { content = 1502; sequence = 4294967295; headers = []; body = codes "{}" }
    ∷ record { content = 0; sequence = 0; headers = []; body = codes "x y" }
    ∷ []

-- The lines that tell these four frames in full.
abbrev pub four_lines : List ℕ
four_lines = codes "7 CreateIdentity {\"name\":\"ann\"}\n8 Hello\n4294967295 ShowCounts {}\n0 Hello x y\n"

-- A reply that refuses.
abbrev pub refusal_frame : Frame
refusal_frame = record reply_frame { headers = record { key = 1; value = 7 ∷ 0 ∷ 0 ∷ 0 ∷ [] } ∷ record { key = 2; value = 0 ∷ [] } ∷ []; body = [] }

-- A reply with a header more than its two.
abbrev pub longer_reply : Frame
longer_reply = record reply_frame { headers = reply_frame.headers ++ record { key = 3; value = [] } ∷ [] }

-- The first piece of a batch of 43 bytes, which is shipped.
abbrev pub ann_piece : Frame
ann_piece = record {
  content = 1900;
  sequence = 0;
  headers = record { key = 1000; value = 1 ∷ 0 ∷ 0 ∷ 0 ∷ 0 ∷ 0 ∷ 0 ∷ 0 ∷ [] } ∷ record { key = 1001; value = 0 ∷ 0 ∷ 0 ∷ 0 ∷ [] } ∷ record { key = 1002; value = 1 ∷ 0 ∷ 0 ∷ 0 ∷ [] } ∷ [];
  body = replicate 43 2;
}

-- The frame of ann with another body.
abbrev pub ann_with : List ℕ → Frame
ann_with body = record ann_frame { body = body }

-- A text of seven lines, of which five are at fault.
abbrev pub seven_lines : List ℕ
seven_lines = codes "# ann\nHelo\n07 Hello\n7 createIdentity {}\n7  Hello\nHello\nCreateAnn {}"

-- The lines that tell its faults.
abbrev pub seven_told : List ℕ
seven_told =
    codes "line 2: unknown type at column 1: NAME is the name of a command; near is Hello\n"
    ++ (codes "line 3: bad sequence at column 1: SEQUENCE is 0 to 4294967295 without zeros before it\n"
    ++ (codes "line 4: unknown type at column 3: NAME is the name of a command, or 0 to 4294967295 without zeros before it; near is CreateIdentity\n"
    ++ (codes "line 5: unknown type at column 3: NAME is the name of a command, or 0 to 4294967295 without zeros before it\n"
    ++ codes "line 7: unknown type at column 1: NAME is the name of a command\n")))
