-- All faults of a text, each judged by its own line alone (docs/FORMATS.md, "Checking a text").
use Rattle.std.specs.Prelude.{ℕ, ◌+◌, ◌-◌, if◌then◌else◌, List, [], ◌∷◌, ◌++◌, length, codes, decimal, None, Some, Ok, Err}
use Rattle.std.specs.declared.option.Option.{Option}
use Rattle.std.specs.declared.result.Result.{Result}
use Rattle.std.specs.List.{flat_map}
use Rattle.frame_lines.specs.declared.lines.Line.{Line}
use Rattle.frame_lines.specs.declared.lines.LineCause.{LineCause}
use Rattle.frame_lines.specs.declared.lines.LineCause.TheVariants.{BadSequence, UnknownType, TooLong}
use Rattle.frame_lines.specs.declared.lines.LineFault.{LineFault}
use Rattle.frame_lines.specs.TextLines.{lines_of, passes}
use Rattle.frame_lines.specs.LineWords.{first_word, behind_word, are_digits}
use Rattle.frame_lines.specs.LineReading.{said_by}
use Rattle.frame_lines.specs.FaultTexts.{line_text}
use Rattle.frame_lines.specs.NearNames.{near_name}

-- A fault of a text: its line and why, the column where the part at fault begins, what is wanted there, and the known name that is near
-- to what stands there. Columns are bytes, from 1.
pub record TextFault : Type 0 where
  pub fault : LineFault
  pub column : ℕ
  pub wanted : List ℕ
  pub near : Option (List ℕ)

-- A line from its NAME on: behind the SEQUENCE, where it begins with one.
abbrev pub name_on : List ℕ → List ℕ
name_on line = if are_digits (first_word line) then behind_word line else line

-- A line from the part on that is at fault: the SEQUENCE, the NAME or the BODY.
abbrev pub part_on : LineCause → List ℕ → List ℕ
part_on BadSequence line = line
part_on UnknownType line = name_on line
part_on TooLong line = behind_word (name_on line)

-- What a NAME is. Behind a SEQUENCE it may be a number too.
abbrev pub wanted_name : List ℕ → List ℕ
wanted_name line =
    if are_digits (first_word line) then codes "NAME is the name of a command, or 0 to 4294967295 without zeros before it"
    else codes "NAME is the name of a command"

-- What the part at fault is to be.
abbrev pub wanted_for : LineCause → List ℕ → List ℕ
wanted_for BadSequence line = codes "SEQUENCE is 0 to 4294967295 without zeros before it"
wanted_for UnknownType line = wanted_name line
wanted_for TooLong line = codes "BODY has at most 1048576 bytes"

-- The known name that is near to what stands in place of one.
abbrev pub near_for : LineCause → List ℕ → Option (List ℕ)
near_for BadSequence line = None
near_for UnknownType line = near_name (first_word (name_on line))
near_for TooLong line = None

-- The fault of a line of this number, for this cause.
abbrev pub fault_with : ℕ → List ℕ → LineCause → TextFault
fault_with number line cause = record {
  fault = record { line = number; cause = cause };
  column = length line - length (part_on cause line) + 1;
  wanted = wanted_for cause line;
  near = near_for cause line;
}

-- The fault of a line that says no frame, before those behind it.
abbrev pub and_faults : ℕ → List ℕ → Result Line LineCause → List TextFault → List TextFault
and_faults number line (Err cause) later = fault_with number line cause ∷ later
and_faults number line (Ok said) later = later

-- The faults of some lines, where they are counted from this number: of each one that neither passes nor says a frame.
abbrev pub faults_from : List (List ℕ) → ℕ → List TextFault
faults_from [] number = []
faults_from (line ∷ lines) number =
    if passes line then faults_from lines (number + 1) else and_faults number line (said_by line) (faults_from lines (number + 1))

-- The faults of a text. Its lines are counted from 1, those that pass among them.
abbrev pub faults_of : List ℕ → List TextFault
faults_of text = faults_from (lines_of text) 1

-- The line and the cause of the first of some faults, if there is one.
abbrev pub first_fault : List TextFault → Option LineFault
first_fault [] = None
first_fault (f ∷ faults) = Some f.fault

-- ---- the lines that tell them

-- A near name in words, if there is one.
abbrev pub near_words : Option (List ℕ) → List ℕ
near_words None = []
near_words (Some name) = codes "; near is " ++ name

-- The line that tells a fault, with its newline.
abbrev pub fault_line : TextFault → List ℕ
fault_line f =
    line_text f.fault ++ (codes " at column " ++ (decimal f.column ++ (codes ": " ++ (f.wanted ++ (near_words f.near ++ codes "\n")))))

-- The text that tells all faults of a text, a line each.
abbrev pub faults_told : List ℕ → List ℕ
faults_told text = flat_map fault_line (faults_of text)
