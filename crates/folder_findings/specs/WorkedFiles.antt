-- Folders whose bytes were worked by hand.
use Rattle.std.specs.Prelude.{ℕ, List, [], ◌∷◌, ◌++◌}
use Rattle.ziti_outside.specs.declared.desk.Part.TheVariants.{Zero, One, Mark}
use Rattle.ziti_outside.specs.Images.{Image}
use Rattle.ctrl_model.specs.declared.formats.Format.TheVariants as format
use Rattle.journal_core.specs.WorkedSlots.{slot_of_ann}
use Rattle.folder_findings.specs.Spans.{with_byte}

-- The slot of the identity ann with a second record of two bytes behind its first.
abbrev pub two_records : List ℕ
two_records = with_byte 56 1 (slot_of_ann format.Two) ++ 2 ∷ 0 ∷ 0 ∷ 0 ∷ 7 ∷ 8 ∷ 0 ∷ []

-- The files of a folder.
abbrev pub files : (first second mark : List ℕ) → Image
files first second mark Zero = first
files first second mark One = second
files first second mark Mark = mark
