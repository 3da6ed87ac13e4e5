-- What a line of a trace says, or why it says nothing (docs/FORMATS.md, "Lines of traces").
use Rattle.std.specs.Prelude.{ℕ, nat_lt, if◌then◌else◌, List, codes, None, Some, Ok, Err}
use Rattle.std.specs.declared.option.Option.{Option}
use Rattle.std.specs.declared.result.Result.{Result}
use Rattle.std.specs.Str.{bytes_eq}
use Rattle.ctrl_model.specs.declared.kinds.Who.{Who}
use Rattle.frame_lines.specs.declared.lines.Line.{Line}
use Rattle.frame_lines.specs.declared.lines.LineCause.{LineCause}
use Rattle.frame_lines.specs.LineWords.{first_word, behind_word, number_in}
use Rattle.frame_lines.specs.LineReading.{said_by}
use Rattle.session_mux.specs.Arrivals.{session_numbers, role_at}
use Rattle.trace_lines.specs.declared.said.Said.{Said}
use Rattle.trace_lines.specs.declared.said.Said.TheVariants.{Opens, Sends, Closes}
use Rattle.trace_lines.specs.declared.said.TraceLine.{TraceLine}
use Rattle.trace_lines.specs.declared.said.TraceCause.{TraceCause}
use Rattle.trace_lines.specs.declared.said.TraceCause.TheVariants.{BadSession, BadRole, NoFrame}

-- A number as that of a session, which is below 256.
abbrev pub as_session : Option ℕ → Option ℕ
as_session None = None
as_session (Some n) = if nat_lt n session_numbers then Some n else None

-- The session number that a word writes, if it writes one.
abbrev pub session_in : List ℕ → Option ℕ
session_in word = as_session (number_in word)

-- The role byte of a word. No role has the byte 3.
abbrev pub role_named : List ℕ → ℕ
role_named word =
    if bytes_eq word (codes "admin") then 0
    else (if bytes_eq word (codes "router") then 1 else (if bytes_eq word (codes "identity") then 2 else 3))

-- The role that words say, if they say one: `admin` alone, or `router` or `identity` and a name.
abbrev pub role_in : List ℕ → Option Who
role_in words = role_at (role_named (first_word words)) (behind_word words)

-- An open by a role.
abbrev pub opens : Option Who → Result Said TraceCause
opens None = Err BadRole
opens (Some who) = Ok (Opens who)

-- A frame of a line.
abbrev pub sends : Result Line LineCause → Result Said TraceCause
sends (Err cause) = Err (NoFrame cause)
sends (Ok line) = Ok (Sends line)

-- What the words behind a session number say: the word `open` and a role, the word `close` alone, or what the line of a frame says.
abbrev pub said_of : List ℕ → Result Said TraceCause
said_of words =
    if bytes_eq (first_word words) (codes "open") then opens (role_in (behind_word words))
    else (if bytes_eq words (codes "close") then Ok Closes else sends (said_by words))

-- What is said of a session.
abbrev pub of_session : ℕ → Result Said TraceCause → Result TraceLine TraceCause
of_session s (Err cause) = Err cause
of_session s (Ok said) = Ok (record { session = s; said = said })

-- What is said behind a first word that should be a session number.
abbrev pub with_session : Option ℕ → List ℕ → Result TraceLine TraceCause
with_session None words = Err BadSession
with_session (Some s) words = of_session s (said_of words)

-- What a line says: its first word is the session number.
abbrev pub traced_by : List ℕ → Result TraceLine TraceCause
traced_by line = with_session (session_in (first_word line)) (behind_word line)
