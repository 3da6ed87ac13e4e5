-- Slots whose bytes were worked by hand.
use Rattle.std.specs.Prelude.{ℕ, List, [], ◌∷◌, replicate}
use Rattle.ziti_outside.specs.declared.desk.Part.TheVariants.{Zero, One, Mark}
use Rattle.ziti_outside.specs.Images.{Image}
use Rattle.ctrl_model.specs.declared.formats.Format.{Format}
use Rattle.ctrl_model.specs.declared.formats.Format.TheVariants as format

-- The batch that creates the first identity, with the name ann: its two rows, 28 bytes; and in the second format also the serial 1, 43
-- bytes.
abbrev pub batch_of_ann : Format → List ℕ
batch_of_ann format.One =
    1 ∷ 2 ∷ 1 ∷ 1 ∷ 4 ∷ 0 ∷ 0 ∷ 0 ∷ 2 ∷ 0 ∷ 0 ∷ 0 ∷ 1 ∷ 5 ∷ 3 ∷ 0 ∷ 0 ∷ 0 ∷ 1 ∷ 5 ∷ 0 ∷ 0 ∷ 0 ∷ 3 ∷ 97 ∷ 110 ∷ 110 ∷ 0 ∷ []
batch_of_ann format.Two =
    1 ∷ 2 ∷ 1 ∷ 1 ∷ 4 ∷ 0 ∷ 0 ∷ 0 ∷ 2 ∷ 0 ∷ 0 ∷ 0 ∷ 1 ∷ 5 ∷ 3 ∷ 0 ∷ 0 ∷ 0 ∷ 1 ∷ 5 ∷ 0 ∷ 0 ∷ 0 ∷ 3 ∷ 97 ∷ 110 ∷ 110 ∷ 0
    ∷ 1 ∷ 1 ∷ 17 ∷ 8 ∷ 0 ∷ 0 ∷ 0 ∷ 1 ∷ 0 ∷ 0 ∷ 0 ∷ 0 ∷ 0 ∷ 0 ∷ 0 ∷ []

-- A slot that was created.
abbrev pub empty_slot : Format → List ℕ
empty_slot format.One = 90 ∷ 67 ∷ 84 ∷ 76 ∷ 1 ∷ 0 ∷ 0 ∷ 0 ∷ 0 ∷ []
empty_slot format.Two = 90 ∷ 67 ∷ 84 ∷ 76 ∷ 2 ∷ 0 ∷ 0 ∷ 0 ∷ 0 ∷ []

-- The slot after that batch: 42 bytes in the first format, and 57 in the second.
abbrev pub slot_of_ann : Format → List ℕ
slot_of_ann format.One =
    90 ∷ 67 ∷ 84 ∷ 76 ∷ 1 ∷ 0 ∷ 0 ∷ 0 ∷ 1 ∷ 28 ∷ 0 ∷ 0 ∷ 0
    ∷ 1 ∷ 2 ∷ 1 ∷ 1 ∷ 4 ∷ 0 ∷ 0 ∷ 0 ∷ 2 ∷ 0 ∷ 0 ∷ 0 ∷ 1 ∷ 5 ∷ 3 ∷ 0 ∷ 0 ∷ 0 ∷ 1 ∷ 5 ∷ 0 ∷ 0 ∷ 0 ∷ 3 ∷ 97 ∷ 110 ∷ 110 ∷ 0
    ∷ 0 ∷ []
slot_of_ann format.Two =
    90 ∷ 67 ∷ 84 ∷ 76 ∷ 2 ∷ 0 ∷ 0 ∷ 0 ∷ 1 ∷ 43 ∷ 0 ∷ 0 ∷ 0
    ∷ 1 ∷ 2 ∷ 1 ∷ 1 ∷ 4 ∷ 0 ∷ 0 ∷ 0 ∷ 2 ∷ 0 ∷ 0 ∷ 0 ∷ 1 ∷ 5 ∷ 3 ∷ 0 ∷ 0 ∷ 0 ∷ 1 ∷ 5 ∷ 0 ∷ 0 ∷ 0 ∷ 3 ∷ 97 ∷ 110 ∷ 110 ∷ 0
    ∷ 1 ∷ 1 ∷ 17 ∷ 8 ∷ 0 ∷ 0 ∷ 0 ∷ 1 ∷ 0 ∷ 0 ∷ 0 ∷ 0 ∷ 0 ∷ 0 ∷ 0
    ∷ 0 ∷ []

-- Payloads of the lengths of the batches that create an identity, a service, and a policy that grants one the other.
abbrev pub three_payloads : List (List ℕ)
three_payloads = replicate 28 7 ∷ replicate 28 8 ∷ replicate 52 9 ∷ []

-- A folder with these slots, of which the first stands.
abbrev pub folder_of : (first second : List ℕ) → Image
folder_of first second Zero = first
folder_of first second One = second
folder_of first second Mark = 0 ∷ []
