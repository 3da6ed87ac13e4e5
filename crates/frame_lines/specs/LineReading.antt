-- What a line says, or why it says no frame (docs/FORMATS.md, "Lines for people").
use Rattle.std.specs.Prelude.{ℕ, nat_lt, if◌then◌else◌, List, length, None, Some, Ok, Err}
use Rattle.std.specs.declared.option.Option.{Option}
use Rattle.std.specs.declared.result.Result.{Result}
use Rattle.frame_lines.specs.declared.lines.Line.{Line}
use Rattle.frame_lines.specs.declared.lines.LineCause.{LineCause}
use Rattle.frame_lines.specs.declared.lines.LineCause.TheVariants.{BadSequence, UnknownType, TooLong}
use Rattle.frame_lines.specs.TypeNames.{number_named}
use Rattle.frame_lines.specs.LineWords.{first_word, behind_word, are_digits, number_in}
use Rattle.channel_frame.specs.FrameSpelling.{longest_body}

-- A name's content type, or else the number that the word writes.
abbrev pub type_or : Option ℕ → List ℕ → Option ℕ
type_or (Some content) word = Some content
type_or None word = number_in word

-- The content type that a word behind a sequence number tells, by its name or by its number.
abbrev pub type_in : List ℕ → Option ℕ
type_in word = type_or (number_named word) word

-- What is said with a sequence number or none, a content type and a body: the body has at most 1,048,576 bytes.
abbrev pub with_type : Option ℕ → Option ℕ → List ℕ → Result Line LineCause
with_type sequence None body = Err UnknownType
with_type sequence (Some content) body =
    if nat_lt longest_body (length body) then Err TooLong else Ok (record { sequence = sequence; content = content; body = body })

-- What is said behind a first word of digits.
abbrev pub with_sequence : Option ℕ → List ℕ → Result Line LineCause
with_sequence None rest = Err BadSequence
with_sequence (Some sequence) rest = with_type (Some sequence) (type_in (first_word rest)) (behind_word rest)

-- What a line says: where its first word is of digits, that is the sequence number and the next word tells the content type; else
-- the first word is the name of one. The body is what stands behind, after one space.
abbrev pub said_by : List ℕ → Result Line LineCause
said_by line =
    if are_digits (first_word line)
    then with_sequence (number_in (first_word line)) (behind_word line)
    else with_type None (number_named (first_word line)) (behind_word line)
