-- Folders whose bytes were worked by hand.
use Rattle.std.specs.Prelude.{[], ◌∷◌}
use Rattle.ziti_outside.specs.declared.desk.Part.TheVariants.{Zero, One, Mark}
use Rattle.ziti_outside.specs.Images.{Image}
use Rattle.ctrl_model.specs.declared.formats.Format.TheVariants as format
use Rattle.journal_core.specs.WorkedSlots.{empty_slot, slot_of_ann}

-- A folder without a file.
abbrev pub no_files : Image
no_files part = []

-- A slot was written, and the mark was not.
abbrev pub slot_without_mark : Image
slot_without_mark Zero = slot_of_ann format.Two
slot_without_mark One = []
slot_without_mark Mark = []

-- The folder after the first batch, in the second format.
abbrev pub folder_of_ann : Image
folder_of_ann Zero = slot_of_ann format.Two
folder_of_ann One = empty_slot format.Two
folder_of_ann Mark = 0 ∷ []

-- The same bytes with a mark of two bytes.
abbrev pub second_stands : Image
second_stands Zero = slot_of_ann format.Two
second_stands One = empty_slot format.Two
second_stands Mark = 0 ∷ 0 ∷ []

-- The same without a byte in the second slot.
abbrev pub second_is_cut : Image
second_is_cut Zero = slot_of_ann format.Two
second_is_cut One = []
second_is_cut Mark = 0 ∷ 0 ∷ []

-- The same with the first batch in both slots.
abbrev pub both_have_ann : Image
both_have_ann Zero = slot_of_ann format.Two
both_have_ann One = slot_of_ann format.Two
both_have_ann Mark = 0 ∷ 0 ∷ []

-- A folder of the first format after the first batch, with the same batch of the second format in the other slot.
abbrev pub old_of_ann : Image
old_of_ann Zero = slot_of_ann format.One
old_of_ann One = slot_of_ann format.Two
old_of_ann Mark = 0 ∷ []

-- The same bytes with a mark of two bytes.
abbrev pub new_stands : Image
new_stands Zero = slot_of_ann format.One
new_stands One = slot_of_ann format.Two
new_stands Mark = 0 ∷ 0 ∷ []
