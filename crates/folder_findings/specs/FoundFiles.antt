-- What the bytes of the files of a folder are found to have (docs/FORMATS.md, "The folder").
use Rattle.std.specs.Prelude.{ℕ, cond, List, length, take, None, Some}
use Rattle.std.specs.declared.option.Option.{Option}
use Rattle.std.specs.Str.{bytes_eq}
use Rattle.ziti_outside.specs.declared.desk.Part.TheVariants.{Zero, One, Mark}
use Rattle.ziti_outside.specs.Images.{Image}
use Rattle.ctrl_model.specs.declared.formats.Format.{Format}
use Rattle.ctrl_model.specs.declared.formats.Format.TheVariants as format
use Rattle.journal_core.specs.Slots.{header}
use Rattle.folder_findings.specs.declared.finding.FoundSlot.{FoundSlot}
use Rattle.folder_findings.specs.declared.finding.FoundSlot.TheVariants.{Headless, Journal}
use Rattle.folder_findings.specs.declared.finding.FoundFiles.{FoundFiles}
use Rattle.folder_findings.specs.Spans.{hidden_by, span_from}

-- The format whose header some bytes are, if they are that of one.
abbrev pub header_format : List ℕ → Option Format
header_format bytes =
    cond (bytes_eq bytes (header format.Two)) (Some format.Two) (cond (bytes_eq bytes (header format.One)) (Some format.One) None)

-- The format with whose header some bytes begin, if they begin with one.
abbrev pub format_of : List ℕ → Option Format
format_of bytes = header_format (take 8 bytes)

-- What is found in the bytes of a slot that begin with the header of a format, or of none.
abbrev pub found_as : Option Format → List ℕ → FoundSlot
found_as None bytes = Headless (length bytes)
found_as (Some f) bytes = Journal f (length bytes) (span_from 8 bytes) (hidden_by (span_from 8 bytes) bytes)

-- What is found in the bytes of a slot.
abbrev pub found_slot : List ℕ → FoundSlot
found_slot bytes = found_as (format_of bytes) bytes

-- What is found in the files of a folder.
abbrev pub found_files : Image → FoundFiles
found_files image = record { mark = length (image Mark); first = found_slot (image Zero); second = found_slot (image One) }
