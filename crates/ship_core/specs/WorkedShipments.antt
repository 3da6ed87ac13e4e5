-- What is shipped of folders whose bytes were worked by hand.
use Rattle.std.specs.Prelude.{ℕ, List, [], ◌∷◌, ◌++◌}
use Rattle.ctrl_model.specs.declared.formats.Format.TheVariants as format
use Rattle.journal_core.specs.WorkedSlots.{batch_of_ann}

-- The batch that creates the second identity, with the name bob: the next number 3, its row, and the serial 2.
abbrev pub batch_of_bob : List ℕ
batch_of_bob =
    1 ∷ 2 ∷ 1 ∷ 1 ∷ 4 ∷ 0 ∷ 0 ∷ 0 ∷ 3 ∷ 0 ∷ 0 ∷ 0 ∷ 1 ∷ 5 ∷ 3 ∷ 0 ∷ 0 ∷ 0 ∷ 2 ∷ 5 ∷ 0 ∷ 0 ∷ 0 ∷ 3 ∷ 98 ∷ 111 ∷ 98 ∷ 0
    ∷ 1 ∷ 1 ∷ 17 ∷ 8 ∷ 0 ∷ 0 ∷ 0 ∷ 2 ∷ 0 ∷ 0 ∷ 0 ∷ 0 ∷ 0 ∷ 0 ∷ 0 ∷ []

-- The batches of a folder of both.
abbrev pub both_batches : List (List ℕ)
both_batches = batch_of_ann format.Two ∷ batch_of_bob ∷ []

-- The one batch of both once they are compacted: 59 bytes.
abbrev pub compacted_batch : List ℕ
compacted_batch =
    1 ∷ 2 ∷ 1 ∷ 1 ∷ 4 ∷ 0 ∷ 0 ∷ 0 ∷ 3 ∷ 0 ∷ 0 ∷ 0 ∷ 1 ∷ 5 ∷ 3 ∷ 0 ∷ 0 ∷ 0 ∷ 1 ∷ 5 ∷ 0 ∷ 0 ∷ 0 ∷ 3 ∷ 97 ∷ 110 ∷ 110 ∷ 0
    ∷ 1 ∷ 5 ∷ 3 ∷ 0 ∷ 0 ∷ 0 ∷ 2 ∷ 5 ∷ 0 ∷ 0 ∷ 0 ∷ 3 ∷ 98 ∷ 111 ∷ 98 ∷ 0 ∷ 1 ∷ 1 ∷ 17 ∷ 8 ∷ 0 ∷ 0 ∷ 0 ∷ 2 ∷ 0 ∷ 0 ∷ 0 ∷ 0 ∷ 0 ∷ 0 ∷ 0 ∷ []

-- The head and the headers of the one piece of a batch: of a content type whose lowest byte is given, with a sequence, a length of the body
-- and a serial below 256.
abbrev pub piece_front : (content sequence len serial : ℕ) → List ℕ
piece_front content sequence len serial =
    3 ∷ 6 ∷ 9 ∷ 12 ∷ content ∷ 7 ∷ 0 ∷ 0 ∷ sequence ∷ 0 ∷ 0 ∷ 0 ∷ 40 ∷ 0 ∷ 0 ∷ 0 ∷ len ∷ 0 ∷ 0 ∷ 0
    ∷ 232 ∷ 3 ∷ 0 ∷ 0 ∷ 8 ∷ 0 ∷ 0 ∷ 0 ∷ serial ∷ 0 ∷ 0 ∷ 0 ∷ 0 ∷ 0 ∷ 0 ∷ 0
    ∷ 233 ∷ 3 ∷ 0 ∷ 0 ∷ 4 ∷ 0 ∷ 0 ∷ 0 ∷ 0 ∷ 0 ∷ 0 ∷ 0 ∷ 234 ∷ 3 ∷ 0 ∷ 0 ∷ 4 ∷ 0 ∷ 0 ∷ 0 ∷ 1 ∷ 0 ∷ 0 ∷ 0 ∷ []

-- The 103 bytes of the Whole of serial 1.
abbrev pub whole_one : List ℕ
whole_one = piece_front 108 0 43 1 ++ batch_of_ann format.Two

-- The 103 bytes of the Next of serial 2, with a sequence.
abbrev pub next_two : (sequence : ℕ) → List ℕ
next_two sequence = piece_front 109 sequence 43 2 ++ batch_of_bob

-- The 119 bytes of the Whole of serial 2.
abbrev pub whole_two : List ℕ
whole_two = piece_front 108 0 59 2 ++ compacted_batch

-- The 88 bytes of the Whole of a folder of the first format.
abbrev pub whole_none : List ℕ
whole_none = piece_front 108 0 28 0 ++ batch_of_ann format.One

-- A batch of the first format that puts a count of 3: its value has four bytes.
abbrev pub wide_count : List ℕ
wide_count = 1 ∷ 9 ∷ 12 ∷ 0 ∷ 0 ∷ 0 ∷ 1 ∷ 0 ∷ 0 ∷ 0 ∷ 1 ∷ 4 ∷ 0 ∷ 0 ∷ 0 ∷ 3 ∷ 0 ∷ 0 ∷ 0 ∷ []

-- The same in the second format: the value has two bytes.
abbrev pub narrow_count : List ℕ
narrow_count = 1 ∷ 9 ∷ 12 ∷ 0 ∷ 0 ∷ 0 ∷ 1 ∷ 0 ∷ 0 ∷ 0 ∷ 1 ∷ 2 ∷ 0 ∷ 0 ∷ 0 ∷ 3 ∷ 0 ∷ []
