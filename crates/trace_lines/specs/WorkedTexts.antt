-- Texts and bytes of the worked examples (docs/FORMATS.md, "Lines of traces").
use Rattle.std.specs.Prelude.{ℕ, List, [], ◌∷◌, ◌++◌, codes}
use Rattle.channel_frame.specs.WorkedFrames.{reply_bytes}

-- An administrator's session sends a frame and is closed.
abbrev pub one_story : List ℕ
one_story = codes "0 open admin\n0 7 CreateIdentity {\"name\":\"ann\"}\n0 close\n"

-- A text of nine lines: two sessions are opened, each counts its own frames, a session is closed, and then it sends.
abbrev pub nine_lines : List ℕ
nine_lines = codes "# two\n0 open admin\r\n3 open router r1\n\n0 Hello\n3 9 Hello\n3 Hello x\n0 close\n0 Hello\n"

-- The 20 bytes of a frame of the content type 0 with this sequence number and no body.
abbrev pub hello_bytes : ℕ → List ℕ
hello_bytes n = 3 ∷ 6 ∷ 9 ∷ 12 ∷ 0 ∷ 0 ∷ 0 ∷ 0 ∷ n ∷ 0 ∷ 0 ∷ 0 ∷ 0 ∷ 0 ∷ 0 ∷ 0 ∷ 0 ∷ 0 ∷ 0 ∷ 0 ∷ []

-- The same with the sequence number 10 and the body 'x'.
abbrev pub hello_x_bytes : List ℕ
hello_x_bytes = 3 ∷ 6 ∷ 9 ∷ 12 ∷ 0 ∷ 0 ∷ 0 ∷ 0 ∷ 10 ∷ 0 ∷ 0 ∷ 0 ∷ 0 ∷ 0 ∷ 0 ∷ 0 ∷ 1 ∷ 0 ∷ 0 ∷ 0 ∷ 120 ∷ []

-- The trace of the nine lines up to their fault.
abbrev pub nine_traced : List ℕ
nine_traced =
    1 ∷ 0 ∷ 0 ∷ 0 ∷ 1 ∷ 3 ∷ 1 ∷ 2 ∷ 114 ∷ 49
    ∷ 2 ∷ 0 ∷ 20 ∷ 0 ∷ hello_bytes 1 ++ 2 ∷ 3 ∷ 20 ∷ 0 ∷ hello_bytes 9 ++ 2 ∷ 3 ∷ 21 ∷ 0 ∷ hello_x_bytes ++ 3 ∷ 0 ∷ []

-- The reply to ann's frame for session 3, tagged.
abbrev pub reply_of_3 : List ℕ
reply_of_3 = 4 ∷ 3 ∷ reply_bytes
