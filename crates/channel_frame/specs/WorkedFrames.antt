-- Frames and bytes of the worked examples (docs/FORMATS.md, "Channel frame").
use Rattle.std.specs.Prelude.{ℕ, List, [], ◌∷◌, ◌++◌, take, codes}
use Rattle.channel_frame.specs.declared.frames.Frame.{Frame}
use Rattle.channel_frame.specs.declared.frames.Head.{Head}
use Rattle.channel_frame.specs.declared.frames.Header.{Header}

-- A frame that asks for an identity: content type 1000, sequence number 7, no headers, and a text as its body.
abbrev pub ann_frame : Frame
ann_frame = record { content = 1000; sequence = 7; headers = []; body = codes "{\"name\":\"ann\"}" }

-- Its head: no bytes of headers and 14 of body.
abbrev pub ann_head : Head
ann_head = record { content = 1000; sequence = 7; headers_len = 0; body_len = 14 }

-- Its 34 bytes: the marker, the content type, the sequence number, the two lengths and the body.
abbrev pub ann_bytes : List ℕ
ann_bytes =
    3 ∷ 6 ∷ 9 ∷ 12 ∷ 232 ∷ 3 ∷ 0 ∷ 0 ∷ 7 ∷ 0 ∷ 0 ∷ 0 ∷ 0 ∷ 0 ∷ 0 ∷ 0 ∷ 14 ∷ 0 ∷ 0 ∷ 0
    ∷ 123 ∷ 34 ∷ 110 ∷ 97 ∷ 109 ∷ 101 ∷ 34 ∷ 58 ∷ 34 ∷ 97 ∷ 110 ∷ 110 ∷ 34 ∷ 125 ∷ []

-- The reply to it: content type 2, sequence number 0, the header 1 with the sequence number 7 and the header 2 with the byte 1.
abbrev pub reply_frame : Frame
reply_frame =
    record {
      content = 2;
      sequence = 0;
      headers = record { key = 1; value = 7 ∷ 0 ∷ 0 ∷ 0 ∷ [] } ∷ record { key = 2; value = 1 ∷ [] } ∷ [];
      body = codes "{\"no\":1}";
    }

-- Its 49 bytes: the head, the two headers and the body.
abbrev pub reply_bytes : List ℕ
reply_bytes =
    3 ∷ 6 ∷ 9 ∷ 12 ∷ 2 ∷ 0 ∷ 0 ∷ 0 ∷ 0 ∷ 0 ∷ 0 ∷ 0 ∷ 21 ∷ 0 ∷ 0 ∷ 0 ∷ 8 ∷ 0 ∷ 0 ∷ 0
    ∷ 1 ∷ 0 ∷ 0 ∷ 0 ∷ 4 ∷ 0 ∷ 0 ∷ 0 ∷ 7 ∷ 0 ∷ 0 ∷ 0
    ∷ 2 ∷ 0 ∷ 0 ∷ 0 ∷ 1 ∷ 0 ∷ 0 ∷ 0 ∷ 1
    ∷ 123 ∷ 34 ∷ 110 ∷ 111 ∷ 34 ∷ 58 ∷ 49 ∷ 125 ∷ []

-- The first 19 bytes of the worked frame, one short of a head.
abbrev pub cut_bytes : List ℕ
cut_bytes = take 19 ann_bytes

-- Twenty bytes that begin with another marker.
abbrev pub unmarked_bytes : List ℕ
unmarked_bytes = 3 ∷ 6 ∷ 9 ∷ 13 ∷ 0 ∷ 0 ∷ 0 ∷ 0 ∷ 0 ∷ 0 ∷ 0 ∷ 0 ∷ 0 ∷ 0 ∷ 0 ∷ 0 ∷ 0 ∷ 0 ∷ 0 ∷ 0 ∷ []

-- A head with the marker whose two lengths are spelled by these four bytes each.
abbrev pub head_bytes : List ℕ → List ℕ → List ℕ
head_bytes headers_len body_len = 3 ∷ 6 ∷ 9 ∷ 12 ∷ 232 ∷ 3 ∷ 0 ∷ 0 ∷ 7 ∷ 0 ∷ 0 ∷ 0 ∷ (headers_len ++ body_len)

-- The four bytes of the length 0.
abbrev pub no_bytes : List ℕ
no_bytes = 0 ∷ 0 ∷ 0 ∷ 0 ∷ []

-- A head that announces 1,048,576 bytes of body, the most that may be.
abbrev pub longest_body : List ℕ
longest_body = head_bytes no_bytes (0 ∷ 0 ∷ 16 ∷ 0 ∷ [])

-- A head that announces one byte of body more than may be: 1,048,577.
abbrev pub longer_body : List ℕ
longer_body = head_bytes no_bytes (1 ∷ 0 ∷ 16 ∷ 0 ∷ [])

-- A head that announces 2,147,483,648 bytes of body.
abbrev pub negative_body : List ℕ
negative_body = head_bytes no_bytes (0 ∷ 0 ∷ 0 ∷ 128 ∷ [])

-- A head that announces 65,536 bytes of headers, the most that may be.
abbrev pub longest_headers : List ℕ
longest_headers = head_bytes (0 ∷ 0 ∷ 1 ∷ 0 ∷ []) no_bytes

-- A head that announces one byte of headers more than may be: 65,537.
abbrev pub longer_headers : List ℕ
longer_headers = head_bytes (1 ∷ 0 ∷ 1 ∷ 0 ∷ []) no_bytes

-- A frame whose headers part, of 9 bytes, has a header that announces two bytes where one is left.
abbrev pub short_header : List ℕ
short_header = head_bytes (9 ∷ 0 ∷ 0 ∷ 0 ∷ []) no_bytes ++ (5 ∷ 0 ∷ 0 ∷ 0 ∷ 2 ∷ 0 ∷ 0 ∷ 0 ∷ 120 ∷ [])

-- Headers of which two have the key 5, the first with the byte 2 and the last with the byte 3; that of the key 6 is empty.
abbrev pub repeated_headers : List Header
repeated_headers = record { key = 5; value = 2 ∷ [] } ∷ record { key = 6; value = [] } ∷ record { key = 5; value = 3 ∷ [] } ∷ []
